-- Numbers, faces and marks kept by kinds 5, 13 and 14: an edge undrawn. Assumes nothing.
use mathlib.Core.Path.{◌≡◌, refl, sym, ap, ◌∙◌, subst}
use mathlib.Core.Logic.{◌⊎◌, inl, inr, ◌≢◌}
use mathlib.Core.Bool.{Bool, true, false, cond, not, ◌&&◌, ◌||◌}
use mathlib.Core.List.Memᴰ
use mathlib.Core.List.{List, [], ◌∷◌, ◌++◌, map, Memᴰ}
use mathlib.Core.Option.{Option, none, some}
use Prim.Native.Nat.{ℕ, ◌+◌, min}
use native.Mathlib.Nat.{add-zero, zero-min, min-zero}
use native.Mathlib.Omega.{arith}
use borrow.Author.Tests.{not-true}
use Rattle.lists.specs.Tests.{same, bit}
use Rattle.lists.specs.Scans.{keep, first_or, is_some}
use Rattle.lists.proofs.Bools.{same_refl, same_true, same_eq, differ, or-true, and-true, either}
use Rattle.lists.proofs.Keeps.{keep_has}
use Rattle.lists.proofs.Rising.{Rising, rising_append, rising_keep}
use Rattle.planar_maps.proofs.Chains.{min_one}
use Rattle.map.specs.declared.Variant.{Variant}
use Rattle.map.specs.Rows.{Node, Edge, Map, edge, has_edge, counts}
use Rattle.map.specs.Edits.{is_new, remove_iso_edge, with_sides, renamed, renamed_node, renamed_faces, heals_faces, lower_face}
use Rattle.map.specs.Edits.{makes_face, face_left, remove_edge}
use Rattle.map.proofs.Laws.{edge_there_lem}
use Rattle.map_laws.proofs.Readings.{Outline, outline_of, outlines}
use Rattle.map_laws.proofs.Outlines.{outlines_map, undrawn-next, counts_are, raised}
use Rattle.grown.proofs.Numbers.Ranked.{Sided, Ranked, RankedMap, ranked_shape}
use Rattle.grown.proofs.Numbers.Edges.{outlines_distinct, undrawn_ranked, undrawn-map}
use Rattle.grown.proofs.Numbers.Faces.{Refaced, refaced, first_append, first_keep}

-- both sides of a row that is found
pub row_sides : (m : Map) (e : ℕ) → has_edge m e ≡ true → RankedMap m → Sided m.faces (outline_of (edge m e))
row_sides m e h r = r.sided (outline_of (edge m e)) (Memᴰ.map outline_of (edge_there_lem m e h).0)

pub remove_lone_ranked : (m : Map) (e : ℕ) → has_edge m e ≡ true → RankedMap m → RankedMap (remove_iso_edge e m)
unfolding remove_iso_edge
remove_lone_ranked m e h r = undrawn-map e (edge m e).left m (row_sides m e h r).0 r

-- ---- faces renamed

-- the faces of the row x become f; a new f goes to the end
abbrev pub stay : Edge → ℕ → List ℕ → List ℕ
stay x f fs = keep (λ g. same g (renamed x f g)) fs

abbrev pub renamed_list : Bool → Edge → ℕ → List ℕ → List ℕ
renamed_list makes x f fs = cond makes (stay x f fs ++ f ∷ []) (stay x f fs)

module _ (x : Edge) (a : ℕ) (fs : List ℕ) (l : Memᴰ x.left fs) (r : Memᴰ x.right fs) where
  abbrev left_face_lem : Bool → ℕ
  left_face_lem makes = cond makes a (min x.left x.right)

  renamed_rising : (makes : Bool) → Rising 0 a fs → Rising 0 (a + bit makes) (renamed_list makes x (left_face_lem makes) fs)
  renamed_rising true h = rising_append 0 a (stay x a fs) (omega arith)
      (rising_keep 0 a (λ g. same g (renamed x a g)) fs h)
  renamed_rising false h = subst (λ (n : ℕ). Rising 0 n (stay x (min x.left x.right) fs)) (sym (add-zero a))
      (rising_keep 0 a (λ g. same g (renamed x (min x.left x.right) g)) fs h)

  lower_in : Memᴰ (min x.left x.right) fs
  lower_in = elim (min_one x.left x.right) [ inl e ↦ Memᴰ.cast e l | inr e ↦ Memᴰ.cast e r ]

  renamed_self : (f : ℕ) → same f (renamed x f f) ≡ true
  renamed_self f = rw (either (same f x.left || same f x.right) f) (same_refl f)

  left_in : (makes : Bool) → Memᴰ (left_face_lem makes) (renamed_list makes x (left_face_lem makes) fs)
  left_in true = Memᴰ.append_right (stay x a fs) (Memᴰ.head refl)
  left_in false = keep_has (λ g. same g (renamed x (min x.left x.right) g)) fs lower_in
      (renamed_self (min x.left x.right))

  stays_in : (makes : Bool) (g f : ℕ) → Memᴰ g (stay x f fs) → Memᴰ g (renamed_list makes x f fs)
  stays_in true g f k = Memᴰ.append_left (f ∷ []) k
  stays_in false g f k = k

  renamed_in : (makes : Bool) (g : ℕ) → Memᴰ g fs
      → Memᴰ (renamed x (left_face_lem makes) g) (renamed_list makes x (left_face_lem makes) fs)
  renamed_in makes g k = go (same g x.left || same g x.right) refl
    where
      go : (b : Bool) → same g x.left || same g x.right ≡ b
          → Memᴰ (cond b (left_face_lem makes) g) (renamed_list makes x (left_face_lem makes) fs)
      go true e = left_in makes
      go false e = stays_in makes g (left_face_lem makes)
          (keep_has (λ g. same g (renamed x (left_face_lem makes) g)) fs k (rw e (same_refl g)))

  renamed-zero : (makes : Bool) → (makes ≡ true → min x.left x.right ≢ 0) → first_or 1 fs ≡ 0
      → first_or 1 (renamed_list makes x (left_face_lem makes) fs) ≡ 0
  renamed-zero makes h e = end makes (left_face_lem makes)
      (first_keep (λ g. same g (renamed x (left_face_lem makes) g)) fs (zero (same 0 x.left || same 0 x.right) refl) e)
    where
      nought : (p q : ℕ) → (0 ≡ p) ⊎ (0 ≡ q) → min p q ≡ 0
      nought p q (inl e) = ap (λ (i : ℕ). min i q) (sym e) ∙ zero-min q
      nought p q (inr e) = ap (min p) (sym e) ∙ min-zero p

      nothing : (makes : Bool) → (makes ≡ true → min x.left x.right ≢ 0) → min x.left x.right ≡ 0
          → left_face_lem makes ≡ 0
      nothing true h q = absurd (h refl q)
      nothing false h q = q

      either : (same 0 x.left ≡ true) ⊎ (same 0 x.right ≡ true) → (0 ≡ x.left) ⊎ (0 ≡ x.right)
      either (inl q) = inl (same_true 0 x.left q)
      either (inr q) = inr (same_true 0 x.right q)

      zero : (b : Bool) → same 0 x.left || same 0 x.right ≡ b → same 0 (cond b (left_face_lem makes) 0) ≡ true
      zero true q = same_eq 0 (left_face_lem makes)
          (sym (nothing makes h (nought x.left x.right
          (either (or-true (same 0 x.left) (same 0 x.right) q)))))
      zero false q = same_refl 0

      end : (makes : Bool) (f : ℕ) → first_or 1 (stay x f fs) ≡ 0 → first_or 1 (renamed_list makes x f fs) ≡ 0
      end true f q = first_append (stay x f fs) (f ∷ []) q
      end false f q = q

-- ---- kinds 13 and 14

renamed_refaced : (m : Map) (x : Edge) (f : ℕ) (fs : List ℕ)
    → ((g : ℕ) → Memᴰ g m.faces → Memᴰ (renamed x f g) fs) → RankedMap m
    → Refaced m.nodes (outlines m) fs (λ n. renamed_node x f n n.face)
    (λ o. record { arc = o.arc; left = renamed x f o.left; right = renamed x f o.right })
renamed_refaced m x f fs h r = record {
  arc = λ o. refl;
  number = λ n. number n n.face;
  bare = λ n. bare n n.face refl;
  inside = λ n k. inside n n.face refl k;
  sides = λ o k. (h o.left (r.sided o k).0, h o.right (r.sided o k).1);
}
  where
    number : (n : Node) (o : Option ℕ) → (renamed_node x f n o).number ≡ n.number
    number n none = refl
    number n (some g) = refl

    bare : (n : Node) (o : Option ℕ) → n.face ≡ o → is_some (renamed_node x f n o).face ≡ is_some n.face
    bare n none e = refl
    bare n (some g) e = sym (ap is_some e)

    inside : (n : Node) (o : Option ℕ) → n.face ≡ o → Memᴰ n m.nodes → (g : ℕ) → (renamed_node x f n o).face
        ≡ some g → Memᴰ g fs
    inside n none e k g q = let z : ◌≡◌ {A = ℕ} 0 1 = cc in absurd (omega arith)
    inside n (some i) e k g q = let y : renamed x f i ≡ g = cc in
        subst (λ (j : ℕ). Memᴰ j fs) y (h i ((r.placed n k).inside i e))

renamed_ranked : (m : Map) (x : Edge) (f : ℕ) (fs : List ℕ) {c : ℕ}
    → ((g : ℕ) → Memᴰ g m.faces → Memᴰ (renamed x f g) fs) → Rising 0 c fs → first_or 1 fs ≡ 0 → RankedMap m
    → Ranked (renamed_faces x f m).nodes (outlines (renamed_faces x f m)) fs m.next.nodes m.next.edges c
unfolding renamed_faces
renamed_ranked m x f fs h rise z r =
    let side : Outline → Outline = λ o. record {
      arc = o.arc;
      left = renamed x f o.left;
      right = renamed x f o.right;
    } in
    let O : outlines (renamed_faces x f m) ≡ map side (outlines m) =
    outlines_map (λ e. with_sides (renamed x f e.left) (renamed x f e.right) e) side m.edges (λ e k. refl) in
    rw O (refaced (λ n. renamed_node x f n n.face) side (renamed_refaced m x f fs h r) rise z r)

-- 13 makes a face only where neither is 0
makes_above : (how : Variant) (e : ℕ) (m : Map) → makes_face how e m ≡ true → min (edge m e).left (edge m e).right ≢ 0
unfolding makes_face
makes_above how e m h = differ (lower_face e m) 0
    (not-true (same (lower_face e m) 0) (and-true (is_new how && heals_faces e m) (not (same (lower_face e m) 0)) h).1)

pub renamed-next : (x : Edge) (f : ℕ) (m : Map) → (renamed_faces x f m).next ≡ m.next
unfolding renamed_faces
renamed-next x f m = refl

pub remove_edge_ranked : (how : Variant) (e : ℕ) (m : Map) → has_edge m e ≡ true → RankedMap m
    → RankedMap (remove_edge how e m)
unfolding remove_edge
remove_edge_ranked how e m h r =
    let x = edge m e in
    let makes = makes_face how e m in
    let f = face_left how e m in
    let fs = renamed_list makes x f m.faces in
    let sides = row_sides m e h r in
    let after = renamed_faces x f m in
    let ranked = renamed_ranked m x f fs (renamed_in x m.next.faces m.faces sides.0 sides.1 makes)
    (renamed_rising x m.next.faces m.faces sides.0 sides.1 makes r.faces)
    (renamed-zero x m.next.faces m.faces sides.0 sides.1 makes (makes_above how e m) r.zero) r in
    ranked_shape {m = remove_edge how e m} (record {
      nodes = refl;
      outlines = refl;
      faces = refl;
      next = ap (raised (counts 0 0 (bit makes))) (undrawn-next e f after ∙ renamed-next x f m)
          ∙ counts_are (add-zero _) (add-zero _) refl;
    }) (undrawn_ranked after e f (outlines_distinct after ranked.edges)
    (left_in x m.next.faces m.faces sides.0 sides.1 makes) ranked)
