-- Kinds 13 and 14 keep a map in the plane. Assumes nothing.
use mathlib.Core.Path.{◌≡◌, refl, sym, ap, ◌∙◌, subst}
use mathlib.Core.Logic.{◌⊎◌, inl, inr, ◌≢◌}
use mathlib.Core.Bool.{true, false, cond, not, ◌&&◌}
use mathlib.Core.List.{List, [], ◌∷◌, ◌++◌, Memᴰ}
use Prim.Native.Nat.{ℕ, suc}
use native.Mathlib.Omega.{arith}
use borrow.Author.Tests.{not-true}
use lib.ListN.{length, length-append}
use Rattle.lists.specs.Tests.{same}
use Rattle.lists.specs.Members.{Distinct}
use Rattle.lists.proofs.Bools.{which, same_refl, same_false, equal?, differ, and-true}
use Rattle.planar_maps.specs.Map.{fwd, bwd}
use Rattle.planar_maps.proofs.Bridges.{Either}
use Rattle.rotation.proofs.Clock.{le-or}
use Rattle.map.specs.declared.Variant.{Variant}
use Rattle.map.specs.Rows.{Map, edge, has_edge}
use Rattle.map.specs.Darts.{bears}
use Rattle.map.specs.Edits.{is_new, heals_faces, lower_face, makes_face, face_left, renamed, remove_edge}
use Rattle.map_laws.proofs.Readings.{bears_row, has_dart}
use Rattle.grown.specs.Good.{Good, InPlane}
use Rattle.grown.proofs.Plane.Add.{faced}
use Rattle.grown.proofs.Plane.Merge.{merged_left, merged_right, merged_other, stay, stay_all, stay_one}
use Rattle.grown.proofs.Plane.Merge.{stay_none}
use Rattle.grown.proofs.Plane.RemoveLone.{Merging, taken_planar}
use Rattle.grown.proofs.Law.Lawful.{good_lawful}
use Rattle.grown.proofs.Law.Remove.{edge-taken}

-- a face is made only where the two differ
made-apart : (how : Variant) (e : ℕ) (m : Map) → makes_face how e m ≡ true → (edge m e).left ≢ (edge m e).right
unfolding makes_face heals_faces
made-apart how e m q =
    let k = and-true (is_new how && not (same (edge m e).left (edge m e).right)) (not (same (lower_face e m) 0)) q in
    let j = and-true (is_new how) (not (same (edge m e).left (edge m e).right)) k.0 in
    differ (edge m e).left (edge m e).right (not-true (same (edge m e).left (edge m e).right) j.1)

module _ (how : Variant) (e : ℕ) (m : Map) (good : Good m) (has : has_edge m e ≡ true) where
  abbrev L : ℕ
  L = (edge m e).left

  abbrev R : ℕ
  R = (edge m e).right

  -- the face that is left
  abbrev g₀ : ℕ
  g₀ = face_left how e m

  abbrev μ : ℕ → ℕ
  μ = renamed (edge m e) (face_left how e m)

  abbrev X : Map
  X = remove_edge how e m

  X-faces : X.faces ≡ cond (makes_face how e m) (stay L R g₀ m.faces ++ g₀ ∷ []) (stay L R g₀ m.faces)
  unfolding remove_edge
  X-faces = refl

  -- ---- the faces

  on_f : bears m (fwd e) ≡ L
  on_f = bears_row m (fwd e)

  on_b : bears m (bwd e) ≡ R
  on_b = bears_row m (bwd e)

  in_left : Memᴰ L m.faces
  in_left = subst (λ (g : ℕ). Memᴰ g m.faces) on_f ((faced m good).borne (fwd e) (has_dart m (fwd e) has))

  in_right : Memᴰ R m.faces
  in_right = subst (λ (g : ℕ). Memᴰ g m.faces) on_b ((faced m good).borne (bwd e) (has_dart m (bwd e) has))

  low_is : (lower_face e m ≡ L) ⊎ (lower_face e m ≡ R)
  low_is = elim (le-or L R) [ inl p ↦ inl (omega arith) | inr p ↦ inr (omega arith) ]

  -- it is new, or the lower of the two
  left_new : makes_face how e m ≡ true → g₀ ≡ m.next.faces
  left_new q = ap (λ x. cond x m.next.faces (lower_face e m)) q

  left_low : makes_face how e m ≡ false → g₀ ≡ lower_face e m
  left_low q = ap (λ x. cond x m.next.faces (lower_face e m)) q

  left_one : makes_face how e m ≡ false → (g₀ ≡ L) ⊎ (g₀ ≡ R)
  left_one q = elim low_is [ inl p ↦ inl (left_low q ∙ p) | inr p ↦ inr (left_low q ∙ p) ]

  not_left : (h : ℕ) → Memᴰ h m.faces → h ≢ L → h ≢ R → h ≢ g₀
  not_left h k l r p = elim (which (makes_face how e m)) [
    | inl q ↦ (let b = (faced m good).below h k in let t = p ∙ left_new q in omega arith)
    | inr q ↦ elim (left_one q) [ inl t ↦ l (p ∙ t) | inr t ↦ r (p ∙ t) ]
  ]

  back : ℕ → ℕ
  back h = cond (same h g₀) L h

  back-left : back g₀ ≡ bears m (fwd e)
  unfolding back
  back-left = ap (λ x. cond x L g₀) (same_refl g₀) ∙ sym on_f

  goes_back : (h : ℕ) → Memᴰ h m.faces → (back (μ h) ≡ h)
      ⊎ (Either (bears m (fwd e)) (bears m (bwd e)) (back (μ h)) × Either (bears m (fwd e)) (bears m (bwd e)) h)
  unfolding back
  goes_back h k = elim (equal? h L) [
    | inl p ↦ inr (inl (ap back (ap μ p ∙ merged_left L R g₀) ∙ back-left), inl (p ∙ sym on_f))
    | inr l ↦ elim (equal? h R) [
      | inl p ↦ inr (inl (ap back (ap μ p ∙ merged_right L R g₀) ∙ back-left), inr (p ∙ sym on_b))
      | inr r ↦ inl (ap back (merged_other L R g₀ h l r) ∙ ap (λ x. cond x L h) (same_false h g₀ (not_left h k l r)))
    ]
  ]

  face_count : ((bears m (fwd e) ≡ bears m (bwd e)) × (length X.faces ≡ length m.faces))
      ⊎ ((bears m (fwd e) ≢ bears m (bwd e)) × (length m.faces ≡ suc (length X.faces)))
  face_count = elim (which (makes_face how e m)) [
    | inl q ↦ inr (
      apart_sides (made-apart how e m q),
      fewer q (stay_none L R g₀ m.faces once in_left in_right (made-apart how e m q)
          (λ h k p. let b = (faced m good).below h k in let t = p ∙ left_new q in omega arith)),
    )
    | inr q ↦ elim (equal? L R) [
      | inl p ↦ inl (
        on_f ∙ p ∙ sym on_b,
        ap length (plain q ∙ stay_all L R g₀ m.faces once in_left in_right p
            (elim (left_one q) [ inl t ↦ t | inr t ↦ t ∙ sym p ])),
      )
      | inr ne ↦ inr (
        apart_sides ne,
        stay_one L R g₀ m.faces once in_left in_right ne (left_one q)
            ∙ ap (λ (fs : List ℕ). suc (length fs)) (sym (plain q)),
      )
    ]
  ]
    where
      once : Distinct m.faces
      once = (faced m good).once

      apart_sides : L ≢ R → bears m (fwd e) ≢ bears m (bwd e)
      apart_sides ne p = ne (sym on_f ∙ p ∙ on_b)

      plain : makes_face how e m ≡ false → X.faces ≡ stay L R g₀ m.faces
      plain q = X-faces ∙ ap (λ x. cond x (stay L R g₀ m.faces ++ g₀ ∷ []) (stay L R g₀ m.faces)) q

      fewer : makes_face how e m ≡ true → length m.faces ≡ suc (suc (length (stay L R g₀ m.faces)))
          → length m.faces ≡ suc (length X.faces)
      fewer q n = let k = ap length (X-faces
          ∙ ap (λ x. cond x (stay L R g₀ m.faces ++ g₀ ∷ []) (stay L R g₀ m.faces)) q) in let j =
          length-append (stay L R g₀ m.faces) (g₀ ∷ []) in omega arith

  merging : Merging m e μ X.faces
  merging = record {
    one = ap μ on_f ∙ merged_left L R g₀ ∙ sym (merged_right L R g₀) ∙ sym (ap μ on_b);
    back = back;
    goes_back = goes_back;
    count = face_count;
  }

  pub planar_removed : InPlane (remove_edge how e m)
  planar_removed = taken_planar m X e μ (edge-taken m (good_lawful m good) e has how) (faced m good) merging
      good.woven.planar
