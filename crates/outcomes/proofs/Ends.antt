-- What a caller of `outcomes::find_ends` learns of the numbers that it passed. Assumes nothing.
use Rattle.std.specs.Prelude.{Option, Some, None}
use Rattle.std.proofs.lemmas.Option.{same_Some}
use mathlib.Core.Path.{◌≡◌, refl, ap}
use mathlib.Core.Bool.{Bool, true, ◌||◌}
use mathlib.Core.List.{List}
use Prim.Native.Nat.{ℕ, ◌<◌}
use lib.IntN.{ℤ, pos, nat_abs}
use mir.Syntax.{w64}
use mir.Val.{of_z, to_z, SFits}
use mir.Facts.{to_z-of_z}
use Rattle.lists.specs.Tables.{place}
use Rattle.lists.proofs.Bools.{or_left, or_right}
use Rattle.tables.specs.Tables.{same_z, column}
use Rattle.map.specs.declared.Head.{Head}
use Rattle.map.specs.Limits.{node_width}
use Rattle.map.specs.Rows.{map_of, lent}
use Rattle.map.specs.Reasons.{no_node}
use Rattle.map_rows.specs.Rows.{node_at}
use Rattle.outcomes.specs.Outcomes.{Formed, end_rows}
use Rattle.outcomes.proofs.Formed.{node_none}
use Rattle.outcomes.proofs.FoundRows.{node_in, node-number}

-- two lookups by their one answer
both_at : (p q : Option ℕ) {u v : ℕ} → end_rows p q ≡ Some (u, v) → (p ≡ Some u) × (q ≡ Some v)
both_at (Some i) (Some j) e = let s = same_Some (i, j) _ e in (ap (λ (x : ℕ × ℕ). Some x.0) s, ap (λ (x : ℕ × ℕ). Some x.1) s)
both_at (Some i) None e = (cc, cc)
both_at None q e = (cc, cc)

one_missing : (p q : Option ℕ) {x y : Bool} → (p ≡ None → x ≡ true) → (q ≡ None → y ≡ true) → end_rows p q ≡ None
    → x || y ≡ true
one_missing (Some i) (Some j) {x} {y} s t e = cc
one_missing (Some i) None {x} {y} s t e = or_right x y (t refl)
one_missing None q {x} {y} s t e = or_left y (s refl)

-- rows in use, of the nodes numbered a and b
pub record EndsFound (nodes : List ℤ) (n : ℕ) (a b : ℤ) (u v : ℕ) : Type 0 where
  pub start_in : u < n
  pub end_in : v < n
  pub start : a ≡ pos (node_at nodes u).number
  pub end : b ≡ pos (node_at nodes v).number

module _ {nodes edges faces : List ℤ} {h : Head} (f : Formed nodes edges faces h) where
  abbrev row : ℤ → Option ℕ
  row z = place (same_z z) 0 (column node_width nodes (nat_abs h.nodes))

  abbrev missing : ℤ → Bool
  missing = no_node (map_of (lent nodes edges faces h))

  module _ {a b : ℤ} (fa : SFits w64 a) (fb : SFits w64 b) {r : Option (ℕ × ℕ)}
      (e : r ≡ end_rows (row (to_z w64 (of_z w64 a))) (row (to_z w64 (of_z w64 b)))) where
    told : {x : Option (ℕ × ℕ)} → r ≡ x → end_rows (row a) (row b) ≡ x
    told k = rw (← to_z-of_z {w = w64} fa, ← to_z-of_z {w = w64} fb, ← e) k

    pub ends_found : {u v : ℕ} → r ≡ Some (u, v) → EndsFound nodes (nat_abs h.nodes) a b u v
    ends_found {u} {v} k =
        let p = both_at (row a) (row b) (told k) in
        record {
          start_in = node_in f a u p.0;
          end_in = node_in f b v p.1;
          start = node-number f a u p.0;
          end = node-number f b v p.1;
        }

    pub ends_missing : r ≡ None → missing a || missing b ≡ true
    ends_missing k = one_missing (row a) (row b) (node_none f a) (node_none f b) (told k)
