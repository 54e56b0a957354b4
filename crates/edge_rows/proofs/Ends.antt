-- Edge ends by rows: so many at a node, and none but those of one row. Assumes nothing.
use mathlib.Core.Path.{◌≡◌, refl, sym, ap, ap₂, ◌∙◌, subst}
use mathlib.Core.Logic.{inl, inr}
use mathlib.Core.Bool.{Bool, true, false, cond, not}
use mathlib.Core.List.Memᴰ
use mathlib.Core.List.{List, [], ◌∷◌, ◌++◌, map, Memᴰ}
use Prim.Native.Nat.{ℕ, suc, ◌+◌, ◌*◌, ◌<◌}
use native.Mathlib.Omega.{arith}
use lib.IntN.{ℤ, pos}
use lib.ListN.{length, get_or, take, drop}
use lib.Seq.{split_at}
use Rattle.lists.specs.Tests.{same, bit}
use Rattle.lists.specs.Scans.{keep, count_of}
use Rattle.lists.specs.Members.{Distinct}
use Rattle.lists.proofs.Bools.{equal?, same_eq, same_false}
use Rattle.lists.proofs.Keeps.{keep_in}
use Rattle.planar_maps.specs.Map.{fwd, bwd, darts}
use Rattle.map.specs.Limits.{last_number, edge_width}
use Rattle.map.specs.Rows.{Edge, Map, edge, without_edge}
use Rattle.map.specs.Darts.{leaves, departures, edge_ends}
use Rattle.map.proofs.Laws.{edge_row_lem, numbered_is}
use Rattle.map.proofs.Linked.{arc_of}
use Rattle.tables.specs.Tables.{same_z}
use Rattle.map_rows.specs.Rows.{edges_of, edge_at, edge_map, EdgeRows}
use Rattle.map_rows.proofs.Rows.{edges_length, edges_get_d}
use Rattle.tables.proofs.Numbers.{without_at}
use Rattle.tables.proofs.Order.{same-pos}
use Rattle.darts.proofs.Positions.{cells_of_lem}
use Rattle.links.specs.Linking.{positions, leaves_node}
use Rattle.links.proofs.Departures.{ends_count}
use Rattle.edge_rows.specs.Holds.{isolated_without}

-- how many ends rows have at a node
abbrev pub ends_of : ℕ → List Edge → ℕ
ends_of k [] = 0
ends_of k (e ∷ es) = bit (same e.start k) + bit (same e.end k) + ends_of k es

keep_two : {A : Type 0} (p : A → Bool) (a b : A) (ds : List A) → length (keep p (a ∷ b ∷ ds))
    ≡ bit (p a) + bit (p b) + length (keep p ds)
keep_two p a b ds = go (p a) (p b)
  where
    go : (x y : Bool) → length (cond x (a ∷ cond y (b ∷ keep p ds) (keep p ds)) (cond y (b ∷ keep p ds) (keep p ds)))
        ≡ bit x + bit y + length (keep p ds)
    go true true = omega arith
    go true false = omega arith
    go false true = omega arith
    go false false = omega arith

ends_from : (m : Map) (k : ℕ) (es : List Edge) → ((r : Edge) → Memᴰ r es → edge m r.number ≡ r)
    → length (keep (λ d. same (leaves m d) k) (darts (map arc_of es))) ≡ ends_of k es
unfolding leaves
ends_from m k [] h = refl
ends_from m k (e ∷ es) h =
    let r = h e (Memᴰ.head refl) in
    let later = ends_from m k es (λ x j. h x (Memᴰ.tail j)) in
    keep_two (λ d. same (leaves m d) k) (fwd e.number) (bwd e.number) (darts (map arc_of es))
    ∙ ap₂ (λ (x : Edge) (j : ℕ). bit (same x.start k) + bit (same x.end k) + j) r later

pub ends_are : (m : Map) (k : ℕ) → Distinct (map (λ e. e.number) m.edges) → edge_ends m k ≡ ends_of k m.edges
unfolding departures
ends_are m k dis = ends_from m k m.edges (edge_row_lem m dis)

-- ---- rows but one

ends_append : (k : ℕ) (xs ys : List Edge) → ends_of k (xs ++ ys) ≡ ends_of k xs + ends_of k ys
ends_append k [] ys = let z : ends_of k ys ≡ 0 + ends_of k ys = omega arith in z
ends_append k (x ∷ xs) ys = let later = ends_append k xs ys in omega arith

ends_without : (k : ℕ) (xs : List Edge) (i : ℕ) (d : Edge) → i < length xs → ends_of k xs
    ≡ ends_of k (take i xs ++ drop (suc i) xs) + (bit (same (get_or xs i d).start k) + bit (same (get_or xs i d).end k))
ends_without k xs i d h =
    let a = take i xs in
    let b = drop (suc i) xs in
    let e = get_or xs i d in
    let whole = ap (ends_of k) (split_at xs i d h) ∙ ends_append k a (e ∷ b) in
    let rest = ends_append k a b in
    omega arith

-- numbers of the rows that are kept
kept_once : (p : Edge → Bool) (xs : List Edge) → Distinct (map (λ e. e.number) xs)
    → Distinct (map (λ e. e.number) (keep p xs))
kept_once p [] dis = tt
kept_once p (x ∷ xs) dis = go (p x) (kept_once p xs dis.1)
  where
    go : (b : Bool) → Distinct (map (λ e. e.number) (keep p xs))
        → Distinct (map (λ e. e.number) (cond b (x ∷ keep p xs) (keep p xs)))
    go true later = (
      (λ m. let r = Memᴰ.of_map (λ (e : Edge). e.number) (keep p xs) m in
          dis.0 (Memᴰ.cast (sym r.2) (Memᴰ.map (λ (e : Edge). e.number) (keep_in p xs r.1).0))),
      later,
    )
    go false later = later

same_more : (a b : ℕ) → same (a + b) b ≡ same a 0
same_more a b = elim (equal? a 0) [
  | inl e ↦ same_eq (a + b) b (omega arith) ∙ sym (same_eq a 0 e)
  | inr e ↦ same_false (a + b) b (λ q. e (omega arith)) ∙ sym (same_false a 0 e)
]

module _ {l : List ℤ} {n : ℕ} (t : EdgeRows l n) (i : ℕ) (h : i < n) where
  numbers_once : Distinct (map (λ e. e.number) (edges_of l n))
  numbers_once = (numbered_is 1 (suc last_number) (map (λ e. e.number) (edges_of l n)) t.rising).distinct

  inside : i < length (edges_of l n)
  inside = rw (edges_length l n) h

  row_is : get_or (edges_of l n) i (edge_at l i) ≡ edge_at l i
  row_is = edges_get_d l n i (edge_at l i) h

  pub without_row : without_edge (edge_at l i).number (edges_of l n) ≡ take i (edges_of l n) ++ drop (suc i) (edges_of l n)
  without_row = rw row_is at (without_at (λ (e : Edge). e.number) (edges_of l n) numbers_once i (edge_at l i) inside)

  own_ends : (k : ℕ) → bit (same_z (get_or l (i * edge_width + 1) (pos 0)) (pos k)) + bit
      (same_z (get_or l (i * edge_width + 2) (pos 0)) (pos k))
      ≡ bit (same (edge_at l i).start k) + bit (same (edge_at l i).end k)
  own_ends k =
      let c = cells_of_lem t i h in
      ap₂ (λ (x y : Bool). bit x + bit y) (ap (λ (z : ℤ). same_z z (pos k)) c.start ∙ same-pos (edge_at l i).start k)
      (ap (λ (z : ℤ). same_z z (pos k)) c.end ∙ same-pos (edge_at l i).end k)

  -- the node is isolated when the row is gone
  pub isolated_is : (m : Map) (k : ℕ) → m.edges ≡ without_edge (edge_at l i).number (edges_of l n)
      → isolated_without l n i (pos k) ≡ same (edge_ends m k) 0
  isolated_is m k e =
      let es = edges_of l n in
      let own = bit (same (edge_at l i).start k) + bit (same (edge_at l i).end k) in
      let all : count_of (leaves_node l (pos k)) (positions n) ≡ ends_of k (without_edge (edge_at l i).number es) + own =
      sym (ends_count t k) ∙ ends_are (edge_map l n) k numbers_once
      ∙ (rw row_is at (ends_without k es i (edge_at l i) inside))
      ∙ ap (λ (xs : List Edge). ends_of k xs + own) (sym without_row) in
      let left : edge_ends m k ≡ ends_of k (without_edge (edge_at l i).number es) =
      ends_are m k (subst (λ (xs : List Edge). Distinct (map (λ e. e.number) xs)) (sym e)
      (kept_once (λ r. not (same r.number (edge_at l i).number)) es numbers_once)) ∙ ap (ends_of k) e in
      ap₂ same all (own_ends k) ∙ same_more (ends_of k (without_edge (edge_at l i).number es)) own
      ∙ ap (λ (x : ℕ). same x 0) (sym left)
