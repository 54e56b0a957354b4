-- The joint of a heal: the two parts meet there, and no other directed edge departs from it. Assumes nothing.
use mathlib.Core.Path.{◌≡◌, refl, sym, ap, ◌∙◌}
use mathlib.Core.Bool.{Bool, true, false, not, cond, ◌||◌, true≢false, false≢true}
use mathlib.Core.List.Memᴰ
use mathlib.Core.List.{[], ◌∷◌, Memᴰ}
use mathlib.Core.Option.{get_or}
use mathlib.Core.Logic.{◌⊎◌, inl, inr, ◌≢◌}
use Prim.Native.Nat.{ℕ}
use Rattle.lists.specs.Tests.{same}
use Rattle.lists.specs.Scans.{is_some}
use Rattle.lists.proofs.Bools.{same_true, differ, or-true}
use Rattle.lists.proofs.Keeps.{keep_in}
use Rattle.lists.proofs.Members.{found, third}
use Rattle.planar_maps.specs.Map.{Dart, fwd, bwd, rev}
use Rattle.map.specs.Rows.{Map, edge, has_edge}
use Rattle.map.specs.Darts.{directed, leaves, departures, edge_ends}
use Rattle.map.specs.Edits.{shared_nodes, joint, parts}
use Rattle.map_laws.proofs.Readings.{leaves_row, has_dart, departing}
use Rattle.map_laws.proofs.Reasons.{Heal}

-- the two ways of an edge differ
pub turned : (z : Dart) → rev z ≢ z
turned z q = go z.back (ap (λ (x : Dart). x.back) q)
  where
    go : (b : Bool) → not b ≡ b → ⊥
    go true r = false≢true r
    go false r = true≢false r

-- the directed edges c and d meet at n: c arrives, d departs
pub record Meet (m : Map) (e f n : ℕ) (c d : Dart) : Type 0 where
  pub arrives : leaves m (rev c) ≡ n
  pub departs : leaves m d ≡ n
  -- one is of e and one of f
  pub edges : ((c.edge ≡ e) × (d.edge ≡ f)) ⊎ ((c.edge ≡ f) × (d.edge ≡ e))

-- and nothing else is there
pub record Seamed (m : Map) (e f n : ℕ) (c d : Dart) : Type 0 where
  pub meet : Meet m e f n c d
  pub first_in : Memᴰ c (directed m)
  pub second_in : Memᴰ d (directed m)
  pub two : c.edge ≢ d.edge
  pub only : (z : Dart) → Memᴰ z (directed m) → leaves m z ≡ n → (z ≡ rev c) ⊎ (z ≡ d)
  -- the far ends are elsewhere
  pub from : leaves m c ≢ n
  pub to : leaves m (rev d) ≢ n

module _ (m : Map) (e f : ℕ) (h : is_some (joint m e f) ≡ true) where
  abbrev at : ℕ
  at = get_or (joint m e f) 0

  found_joint : Memᴰ at (shared_nodes m e f) × (same (edge_ends m at) 2 ≡ true)
  unfolding joint
  found_joint = found (λ n. same (edge_ends m n) 2) 0 (shared_nodes m e f) h

  -- an end of e and an end of f
  shared : ((at ≡ (edge m e).end) ⊎ (at ≡ (edge m e).start)) × ((at ≡ (edge m f).start) ⊎ (at ≡ (edge m f).end))
  unfolding shared_nodes
  shared = (go (Memᴰ.cases_cons k.0), other (or-true _ _ k.1))
    where
      k : Memᴰ at ((edge m e).end ∷ (edge m e).start ∷ [])
          × (same at (edge m f).start || same at (edge m f).end ≡ true)
      k = keep_in (λ n. same n (edge m f).start || same n (edge m f).end) ((edge m e).end ∷ (edge m e).start ∷ [])
          found_joint.0

      go : (at ≡ (edge m e).end) ⊎ Memᴰ at ((edge m e).start ∷ []) → (at ≡ (edge m e).end) ⊎ (at ≡ (edge m e).start)
      go (inl q) = inl q
      go (inr q) = inr (Memᴰ.eq_of_singleton q)

      other : (same at (edge m f).start ≡ true) ⊎ (same at (edge m f).end ≡ true) → (at ≡ (edge m f).start)
          ⊎ (at ≡ (edge m f).end)
      other (inl q) = inl (same_true _ _ q)
      other (inr q) = inr (same_true _ _ q)

  -- e runs to the joint, or from it
  pub meets : Meet m e f at (parts m e f).0 (parts m e f).1
  unfolding parts
  meets = go (same at (edge m e).end) refl
    where
      go : (b : Bool) → same at (edge m e).end ≡ b
          → Meet m e f at (cond {A = Dart × Dart} b (fwd e, cond (same (leaves m (fwd f)) at) (fwd f) (bwd f))
          (cond (same (leaves m (bwd f)) at) (fwd f) (bwd f), fwd e)).0
          (cond {A = Dart × Dart} b (fwd e, cond (same (leaves m (fwd f)) at) (fwd f) (bwd f))
          (cond (same (leaves m (bwd f)) at) (fwd f) (bwd f), fwd e)).1
      go true q = record {
        arrives = leaves_row m (bwd e) ∙ sym (same_true _ _ q);
        departs = (leaving (same (leaves m (fwd f)) at) refl shared.1).0;
        edges = inl (refl, (leaving (same (leaves m (fwd f)) at) refl shared.1).1);
      }
        where
          leaving : (b : Bool) → same (leaves m (fwd f)) at ≡ b → (at ≡ (edge m f).start) ⊎ (at ≡ (edge m f).end)
              → (leaves m (cond b (fwd f) (bwd f)) ≡ at) × ((cond {A = Dart} b (fwd f) (bwd f)).edge ≡ f)
          leaving true r s = (same_true _ _ r, refl)
          leaving false r (inl s) = absurd (differ _ _ r (leaves_row m (fwd f) ∙ sym s))
          leaving false r (inr s) = (leaves_row m (bwd f) ∙ sym s, refl)
      go false q = record {
        arrives = (arriving (same (leaves m (bwd f)) at) refl shared.1).0;
        departs = leaves_row m (fwd e) ∙ start shared.0;
        edges = inr ((arriving (same (leaves m (bwd f)) at) refl shared.1).1, refl);
      }
        where
          start : (at ≡ (edge m e).end) ⊎ (at ≡ (edge m e).start) → (edge m e).start ≡ at
          start (inl r) = absurd (differ _ _ q r)
          start (inr r) = sym r

          arriving : (b : Bool) → same (leaves m (bwd f)) at ≡ b → (at ≡ (edge m f).start) ⊎ (at ≡ (edge m f).end)
              → (leaves m (rev (cond b (fwd f) (bwd f))) ≡ at) × ((cond {A = Dart} b (fwd f) (bwd f)).edge ≡ f)
          arriving true r s = (same_true _ _ r, refl)
          arriving false r (inl s) = (leaves_row m (fwd f) ∙ sym s, refl)
          arriving false r (inr s) = absurd (differ _ _ r (leaves_row m (bwd f) ∙ sym s))

-- two edge ends are there, so there is no other
module _ (m : Map) (e f : ℕ) (h : Heal m e f) where
  abbrev n : ℕ
  n = get_or (joint m e f) 0

  meeting : Meet m e f (get_or (joint m e f) 0) (parts m e f).0 (parts m e f).1
  meeting = meets m e f h.joint

  pub seamed : Seamed m e f n (parts m e f).0 (parts m e f).1
  seamed = record {
    meet = meeting;
    first_in = first_in;
    second_in = second_in;
    two = two;
    only = only;
    from = from;
    to = to;
  }
    where
      two : (parts m e f).0.edge ≢ (parts m e f).1.edge
      two q = elim meeting.edges [
        | inl r ↦ h.differ (sym r.0 ∙ q ∙ r.1)
        | inr r ↦ h.differ
            (sym r.1 ∙ sym q ∙ r.0)
      ]

      has : (z : Dart) → (z.edge ≡ e) ⊎ (z.edge ≡ f) → Memᴰ z (directed m)
      has z (inl q) = has_dart m z (ap (has_edge m) q ∙ h.has)
      has z (inr q) = has_dart m z (ap (has_edge m) q ∙ h.has_other)

      of_first : ((parts m e f).0.edge ≡ e) ⊎ ((parts m e f).0.edge ≡ f)
      of_first = elim meeting.edges [ inl r ↦ inl r.0 | inr r ↦ inr r.0 ]

      of_second : ((parts m e f).1.edge ≡ e) ⊎ ((parts m e f).1.edge ≡ f)
      of_second = elim meeting.edges [ inl r ↦ inr r.1 | inr r ↦ inl r.1 ]

      first_in : Memᴰ (parts m e f).0 (directed m)
      first_in = has (parts m e f).0 of_first

      second_in : Memᴰ (parts m e f).1 (directed m)
      second_in = has (parts m e f).1 of_second

      only : (z : Dart) → Memᴰ z (directed m) → leaves m z ≡ n → (z ≡ rev (parts m e f).0) ⊎ (z ≡ (parts m e f).1)
      only z k q = third (departures m n) (same_true _ _ (found_joint m e f h.joint).1)
          (λ r. two (ap (λ (x : Dart). x.edge) r))
          (departing m n (has (rev (parts m e f).0) of_first) meeting.arrives)
          (departing m n second_in meeting.departs) (departing m n k q)

      from : leaves m (parts m e f).0 ≢ n
      from q = elim (only (parts m e f).0 first_in q) [
        | inl r ↦ turned (parts m e f).0 (sym r)
        | inr r ↦ two
            (ap (λ (x : Dart). x.edge) r)
      ]

      to : leaves m (rev (parts m e f).1) ≢ n
      to q = elim (only (rev (parts m e f).1) (has (rev (parts m e f).1) of_second) q) [
        | inl r ↦ two (sym (ap (λ (x : Dart). x.edge) r))
        | inr r ↦ turned (parts m e f).1 r
      ]
