-- A pass over positions: a ring of the face that is met is marked, so an unmarked position of the face is the first of
-- its ring. Assumes nothing.
use mathlib.Core.Path.{◌≡◌, sym, ap, ◌∙◌}
use mathlib.Core.Bool.{Bool, true, false, cond, false≢true}
use mathlib.Core.Logic.{inl, inr}
use mathlib.Core.List.{List, [], ◌++◌, flat_map}
use Prim.Native.Nat.{ℕ, zero, suc, ◌+◌, ◌*◌, ◌<◌, ◌≤◌}
use native.Mathlib.Nat.{sub-zero, zero-add}
use native.Mathlib.Omega.{arith}
use lib.IntN.{ℤ}
use lib.ListN.{length, get_or, replicate, length-replicate, length-map, length-append}
use Rattle.lists.specs.Tests.{same}
use Rattle.lists.specs.Scans.{keep}
use Rattle.lists.specs.Tables.{table}
use Rattle.lists.proofs.Bools.{which, equal?}
use Rattle.lists.proofs.Scans.{table_step, table-end}
use Rattle.planar_maps.specs.Map.{Dart}
use Rattle.planar_maps.specs.Rings.{same_dart}
use Rattle.map.specs.Rows.{Map, dart_cell}
use Rattle.map.specs.Darts.{next, bears, steps_to, ring, firsts}
use Rattle.map.specs.Ticket.{ring_numbers, face_edges}
use Rattle.map_rows.specs.Rows.{edge_map}
use Rattle.map_rows.proofs.Rows.{edges_length}
use Rattle.darts.specs.Positions.{dart_at}
use Rattle.darts.proofs.Positions.{directed-table}
use Rattle.form_links.proofs.Links.{zeros}
use Rattle.face_edges.specs.Listing.{Rings, borne, on_ring, ring_at, is_first, Marked, left, Size}
use Rattle.face_edges.proofs.Firsts.{on_back, on_join, on_bears, first_true, first_false}

pub none_marked : (l : List ℤ) (n f : ℕ) → Marked l n f 0 (replicate 4000 0)
none_marked l n f = record {
  room = length-replicate {A = ℕ} 4000 0;
  by = λ q h no. absurd (no (zeros 4000 q));
  at = λ k q h. absurd (omega arith);
}

module _ {l : List ℤ} {n f p : ℕ} {marks : List ℕ} (g : Rings l n) (w : Marked l n f p marks) (h : p < n * 2) where
  -- it bears another face
  pub marked_other : (borne l n p ≡ f → ⊥) → Marked l n f (p + 1) marks
  marked_other apart =
      record {
        room = w.room;
        by = λ q u no. let r = w.by q u no in let s = r.1 in (r.0, omega arith, r.2, r.3);
        at = λ k q u v e o. elim (equal? k p) [
          | inl i ↦ λ z. apart (ap (borne l n) (sym i) ∙ e)
          | inr i ↦ w.at k q
              (omega arith) v e o
        ];
      }

  module _ (e : borne l n p ≡ f) where
    -- it is marked: an earlier position lies on its ring
    module _ (no : get_or marks p 0 ≡ 0 → ⊥) where
      pub old_first : is_first l n (dart_at l p) ≡ false
      old_first = let r = w.by p h no in let s = r.1 in
          first_false g p r.0 h s (on_back g r.0 p (omega arith) h r.3)

      pub marked_old : Marked l n f (p + 1) marks
      marked_old =
          record {
            room = w.room;
            by = λ q u no. let r = w.by q u no in let s = r.1 in (r.0, omega arith, r.2, r.3);
            at = λ k q u v a o. elim (equal? k p) [
              | inl i ↦
                  let r = w.by p h no in
                  let s = r.1 in
                  w.at r.0 q s v r.2
                  (on_join g r.0 p q (omega arith) h r.3 (ap (λ (x : ℕ). on_ring l n x q) (sym i) ∙ o))
              | inr i ↦ w.at k q (omega arith) v a o
            ];
          }

    -- it is not: it is the first of its ring, which is marked now
    module _ (clear : get_or marks p 0 ≡ 0) where
      pub new_first : is_first l n (dart_at l p) ≡ true
      new_first = first_true g p h (λ k s o. w.at k p s h (on_bears g p k h o ∙ e)
          (on_back g p k h (omega arith) o) clear)

      pub marked_new : (now : List ℕ) → length now ≡ length marks
          → ((q : ℕ) → q < n * 2 → get_or now q 0 ≡ cond (on_ring l n p q) 1 (get_or marks q 0)) → Marked l n f (p + 1) now
      marked_new now long is =
          record {
            room = long ∙ w.room;
            by = λ q u no. elim (which (on_ring l n p q)) [
              | inl o ↦ (p, omega arith, e, o)
              | inr o ↦ let r = w.by q u (λ z. no (is q u ∙ ap (λ (b : Bool). cond b 1 (get_or marks q 0)) o ∙ z)) in
                  let s = r.1 in (r.0, omega arith, r.2, r.3)
            ];
            at = λ k q u v a o z. elim (which (on_ring l n p q)) [
              | inl i ↦ let y : ◌≡◌ {A = ℕ} 1 0 = sym (is q v ∙ ap (λ (b : Bool). cond b 1 (get_or marks q 0)) i) ∙ z in
                  omega arith
              | inr i ↦ elim (equal? k p) [
                | inl j ↦ false≢true (sym i ∙ ap (λ (x : ℕ). on_ring l n x q) (sym j) ∙ o)
                | inr j ↦ w.at k q (omega arith) v a o
                    (sym (is q v ∙ ap (λ (b : Bool). cond b 1 (get_or marks q 0)) i) ∙ z)
              ]
            ];
          }

-- ---- the rings that are left from position p on

module _ (l : List ℤ) (n f : ℕ) where
  pub all_left : face_edges (edge_map l n) f ≡ left l n f 0
  unfolding face_edges firsts
  all_left =
      ap (λ (ds : List Dart). flat_map (λ d. ring_numbers (ring (edge_map l n) d))
      (keep (λ d. same (bears (edge_map l n) d) f) (keep (is_first l n) ds)))
      (directed-table l n ∙ ap (table (dart_at l) 0) (sym (sub-zero (n * 2))))

  pub none_left_lem : (p : ℕ) → n * 2 ≤ p → left l n f p ≡ []
  unfolding flat_map
  none_left_lem p h = rw (table-end (dart_at l) p (n * 2) h)

  module _ (p : ℕ) (h : p < n * 2) where
    pub left-taken : is_first l n (dart_at l p) ≡ true → same (borne l n p) f ≡ true → left l n f p
        ≡ ring_numbers (ring (edge_map l n) (dart_at l p)) ++ left l n f (p + 1)
    unfolding flat_map
    left-taken a b = rw (table_step (dart_at l) p (n * 2) h, a, b)

    pub left-later : is_first l n (dart_at l p) ≡ false → left l n f p ≡ left l n f (p + 1)
    left-later a = rw (table_step (dart_at l) p (n * 2) h, a)

    pub left_other : same (borne l n p) f ≡ false → left l n f p ≡ left l n f (p + 1)
    left_other b = elim (which (is_first l n (dart_at l p))) [
      | inl a ↦ rw
          (table_step (dart_at l) p (n * 2) h, a, b)
      | inr a ↦ left-later a
    ]

-- ---- the length of a ring

steps-length : (m : Map) (d : Dart) (k : ℕ) (c : Dart) → length (steps_to m d k c) ≤ k
unfolding steps_to
steps-length m d zero c = omega arith
steps-length m d (suc k) c = let later = steps-length m d k (next m c) in
    elim (which (same_dart (next m c) d)) [ inl e ↦ rw e (omega arith) | inr e ↦ rw e (omega arith) ]

pub ring-length : (l : List ℤ) (n : ℕ) (d : Dart) → length (ring (edge_map l n) d) ≤ n * 2
unfolding ring
ring-length l n d = let e = steps-length (edge_map l n) d (2 * length (edge_map l n).edges) d in
    omega (arith, edges_length l n)

-- what is left after a turn that takes r numbers
pub size_left : (l : List ℤ) (n f p r : ℕ) → Size l n f p r → (length (left l n f p) ≡ r + length (left l n f (p + 1)))
    × (r ≤ n * 2 + 1)
size_left l n f p r (inl e) = (
  rw e.0 (ap length e.1 ∙ sym (zero-add (length (left l n f (p + 1))))),
  omega (arith, e.0),
)
size_left l n f p r (inr e) =
    let c = ring_numbers (ring_at l n p) in
    let a = ap length e.1 ∙ length-append c (left l n f (p + 1)) in
    let b = length-map (ring_at l n p) dart_cell in
    (omega (arith, a, b, e.0), omega (arith, e.0, ring-length l n (dart_at l p)))

pub some_size : (l : List ℤ) (n f p r : ℕ) → Size l n f p r → 0 < r → (r ≡ length (ring_at l n p) + 1)
    × (left l n f p ≡ ring_numbers (ring_at l n p) ++ left l n f (p + 1))
some_size l n f p r (inl e) h = absurd (omega (arith, e.0))
some_size l n f p r (inr e) h = e

pub none_size : (l : List ℤ) (n f p r : ℕ) → Size l n f p r → r ≤ 0 → left l n f p ≡ left l n f (p + 1)
none_size l n f p r (inl e) h = e.1
none_size l n f p r (inr e) h = absurd (omega (arith, e.0))
