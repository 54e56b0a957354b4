-- Edge ends at a node, and two edges joined. Assumes nothing.
use mathlib.Core.Path.{◌≡◌, refl, sym, ap, ap₂, ◌∙◌}
use mathlib.Core.Logic.{inl, inr}
use mathlib.Core.Bool.{Bool, true, false, cond, not, ◌&&◌, ◌||◌}
use mathlib.Core.List.{List, [], ◌∷◌}
use Prim.Native.Nat.{ℕ, ◌+◌, ◌*◌, ◌<◌}
use lib.Dec.{eqb}
use lib.IntN.{ℤ, pos}
use lib.ListN.{length, get_or}
use Rattle.lists.specs.Tests.{same}
use Rattle.lists.specs.Scans.{keep, find, is_some, count_of}
use Rattle.lists.proofs.Bools.{which, same_eq, same_false, same_true, differ, same_sym}
use Rattle.map.specs.Limits.{edge_width}
use Rattle.map.specs.Rows.{Edge, Map, edge}
use Rattle.map.specs.Darts.{edge_ends}
use Rattle.map.specs.Edits.{shared_nodes, joint}
use Rattle.map.specs.Reasons.{edge_isolated, first_reason}
use Rattle.tables.specs.Tables.{same_z}
use Rattle.map_rows.specs.Rows.{edge_at, edge_map, EdgeRows}
use Rattle.tables.proofs.Order.{same-pos}
use Rattle.darts.proofs.Positions.{cells_of_lem, edge_of, number_injective}
use Rattle.links.specs.Linking.{positions, leaves_node}
use Rattle.links.proofs.Departures.{ends_count}
use Rattle.reason_departures.specs.Turning.{ends_at, joins_at, joint_reasons}

module _ {l : List ℤ} {n : ℕ} (t : EdgeRows l n) where
  -- rows are one exactly where their numbers are
  pub same_row : (i j : ℕ) → i < n → j < n → same i j ≡ same (edge_at l i).number (edge_at l j).number
  same_row i j h k =
      elim (which (same i j)) [
        | inl e ↦ e ∙ sym (same_eq (edge_at l i).number (edge_at l j).number
            (ap (λ (x : ℕ). (edge_at l x).number) (same_true i j e)))
        | inr e ↦ e ∙ sym (same_false (edge_at l i).number (edge_at l j).number
            (λ q. differ i j e (number_injective t i j h k q)))
      ]

  module _ (i : ℕ) (h : i < n) where
    -- the nodes where the edge of row i starts and ends
    pub start_cell : get_or l (i * edge_width + 1) (pos 0) ≡ pos (edge (edge_map l n) (edge_at l i).number).start
    start_cell = (cells_of_lem t i h).start ∙ ap (λ (e : Edge). pos e.start) (sym (edge_of t i h))

    pub end-cell : get_or l (i * edge_width + 2) (pos 0) ≡ pos (edge (edge_map l n) (edge_at l i).number).end
    end-cell = (cells_of_lem t i h).end ∙ ap (λ (e : Edge). pos e.end) (sym (edge_of t i h))

    pub ends_is : (k : ℕ) → ends_at l i (pos k) ≡ same k (edge (edge_map l n) (edge_at l i).number).start
        || same k (edge (edge_map l n) (edge_at l i).number).end
    ends_is k =
        let e = edge (edge_map l n) (edge_at l i).number in
        ap₂ ◌||◌ (ap (λ (z : ℤ). same_z z (pos k)) start_cell ∙ same-pos e.start k ∙ same_sym e.start k)
        (ap (λ (z : ℤ). same_z z (pos k)) end-cell ∙ same-pos e.end k ∙ same_sym e.end k)

    pub joins_is : (k c : ℕ) → c ≡ count_of (leaves_node l (pos k)) (positions n) → ends_at l i (pos k) && same c 2
        ≡ joins_at (edge_map l n) (edge_at l i).number k
    joins_is k c e = ap₂ (λ (b : Bool) (x : ℕ). b && same x 2) (ends_is k) (e ∙ sym (ends_count t k))

    pub isolated_is : (u v : ℤ) (a b : ℕ) → u ≡ get_or l (i * edge_width + 1) (pos 0) → v
        ≡ get_or l (i * edge_width + 2) (pos 0) → a ≡ count_of (leaves_node l u) (positions n) → b
        ≡ count_of (leaves_node l v) (positions n) → not (same_z u v) && same a 1 && same b 1
        ≡ edge_isolated (edge_map l n) (edge_at l i).number
    unfolding edge_isolated
    isolated_is u v a b p q x y =
        let m = edge_map l n in
        let e = edge m (edge_at l i).number in
        let f : u ≡ pos e.start = p ∙ start_cell in
        let g : v ≡ pos e.end = q ∙ end-cell in
        let first : not (same_z u v) ≡ not (same e.start e.end) =
        ap not (ap₂ same_z f g ∙ same-pos e.start e.end) in
        let second : a ≡ edge_ends m e.start = x ∙ ap (λ (z : ℤ). count_of (leaves_node l z) (positions n)) f
        ∙ sym (ends_count t e.start) in
        let third : b ≡ edge_ends m e.end = y ∙ ap (λ (z : ℤ). count_of (leaves_node l z) (positions n)) g
        ∙ sym (ends_count t e.end) in
        ap₂ ◌&&◌ (ap₂ (λ (c : Bool) (k : ℕ). c && same k 1) first second) (ap (λ (k : ℕ). same k 1) third)

-- ---- one of two tests, the second asked where the first does not hold

pub first_holds : {v r x : Bool} (y : Bool) → v ≡ r → r ≡ true → r ≡ x → v ≡ x || y
first_holds y is e f = is ∙ e ∙ ap (λ (b : Bool). b || y) (sym e ∙ f)

pub second_asked : {v r s x y : Bool} → v ≡ s → r ≡ false → r ≡ x → s ≡ y → v ≡ x || y
second_asked {y} is e f g = is ∙ g ∙ ap (λ (b : Bool). b || y) (sym e ∙ f)

-- ---- 16 and 17

-- two nodes, those of them that s takes, and of these one that t takes
none_shared : (s t : ℕ → Bool) (x y : ℕ) → same (length (keep s (x ∷ y ∷ []))) 0 ≡ not (s y || s x)
unfolding same
none_shared s t x y = go (s x) (s y)
  where
    go : (a b : Bool) → eqb (length (cond a (x ∷ cond b (y ∷ []) []) (cond b (y ∷ []) []))) 0 ≡ not (b || a)
    go true true = refl
    go true false = refl
    go false true = refl
    go false false = refl

one_found : (s t : ℕ → Bool) (x y : ℕ) → is_some (find t (keep s (x ∷ y ∷ []))) ≡ (s x && t x) || (s y && t y)
one_found s t x y = go (s x) (s y) (t x) refl (t y) refl
  where
    go : (a b c : Bool) → t x ≡ c → (d : Bool) → t y ≡ d
        → is_some (find t (cond a (x ∷ cond b (y ∷ []) []) (cond b (y ∷ []) []))) ≡ (a && t x) || (b && t y)
    go true true true e d f = rw e
    go true true false e true f = rw (e, f)
    go true true false e false f = rw (e, f)
    go true false true e d f = rw e
    go true false false e d f = rw e
    go false true c e true f = rw f
    go false true c e false f = rw f
    go false false c e d f = refl

reason_cases : (x y a b : Bool) → x ≡ a → y ≡ b → first_reason ((16, x) ∷ (17, not y) ∷ []) ≡ cond a 16 (cond b 0 17)
unfolding first_reason
reason_cases x y true b e f = rw e
reason_cases x y false true e f = rw (e, f)
reason_cases x y false false e f = rw (e, f)

pub reason_is : (m : Map) (a b : ℕ) → first_reason (joint_reasons m a b) ≡ (let e = edge m a in let other = edge m b in
    cond (same a b || not ((same e.start other.start || same e.start other.end)
    || (same e.end other.start || same e.end other.end))) 16
    (cond (joins_at m b e.end || joins_at m b e.start) 0 17))
unfolding shared_nodes joint
reason_is m a b =
    let e = edge m a in
    let other = edge m b in
    let s : ℕ → Bool = λ k. same k other.start || same k other.end in
    let t : ℕ → Bool = λ k. same (edge_ends m k) 2 in
    reason_cases (same a b || same (length (shared_nodes m a b)) 0) (is_some (joint m a b))
    (same a b || not (s e.start || s e.end)) (joins_at m b e.end || joins_at m b e.start)
    (ap (λ (x : Bool). same a b || x) (none_shared s t e.end e.start)) (one_found s t e.end e.start)

-- ---- by row

module _ {l : List ℤ} {n : ℕ} (t : EdgeRows l n) (i j : ℕ) (hi : i < n) (hj : j < n) where
  abbrev m : Map
  m = edge_map l n

  abbrev a : ℕ
  a = (edge_at l i).number

  abbrev b : ℕ
  b = (edge_at l j).number

  -- a node of row i is one of row j, and joins the two
  abbrev pub shared_at : ℕ → Bool
  shared_at k = same k (edge m b).start || same k (edge m b).end

  abbrev pub shared : Bool
  shared = shared_at (edge m a).start || shared_at (edge m a).end

  abbrev pub joined : Bool
  joined = joins_at m b (edge m a).end || joins_at m b (edge m a).start

  pub joint_told : {x y z : Bool} → same i j ≡ x → shared ≡ y → joined ≡ z
      → cond (x || not y) 16 (cond z 0 17) ≡ first_reason (joint_reasons m a b)
  joint_told ex ey ez = sym (reason_is m a b
      ∙ (λ k. cond ((sym (same_row t i j hi hj) ∙ ex) k || not (ey k)) 16 (cond (ez k) 0 17)))
