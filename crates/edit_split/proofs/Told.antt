-- The reasons of a split from what the tests answered, in the map's terms. Assumes nothing.
use Rattle.std.specs.Prelude.{None}
use mathlib.Core.Path.{◌≡◌, refl, sym, ap, ◌∙◌}
use mathlib.Core.Bool.{Bool, true, ◌&&◌}
use mathlib.Core.List.{List, ◌∷◌, ◌++◌}
use Prim.Native.Nat.{ℕ, ◌<◌}
use lib.Dec.{lit<, lit≤}
use lib.IntN.{ℤ, pos, nat_abs}
use mir.Syntax.{w64}
use mir.Val.{of_z, to_z, SFits}
use mir.Facts.{to_z-of_z}
use borrow.Author.Tests.{not-false}
use Rattle.lists.specs.Tables.{place}
use Rattle.tables.specs.Tables.{same_z, column}
use Rattle.curves.specs.Curves.{coordinate}
use Rattle.map.specs.declared.Counts.{Counts}
use Rattle.map.specs.declared.Head.{Head}
use Rattle.map.specs.declared.Variant.{Variant}
use Rattle.map.specs.declared.Variant.TheVariants.{New, Mod}
use Rattle.map.specs.Limits.{edge_width}
use Rattle.map.specs.Rows.{Map, Sizes, map_of, sizes_of, counts, lent}
use Rattle.map.specs.Reasons.{first_reason, outside, split_reasons, Reasons, no_edge, reasons}
use Rattle.map.proofs.Reasons.{first_hit, first_miss, first_zero}
use Rattle.map_rows.specs.Rows.{edge_at}
use Rattle.head.specs.Heads.{Few, sizes_in, room_at}
use Rattle.outcomes.specs.Outcomes.{Formed}
use Rattle.outcomes.specs.Variants.{split_ticket}
use Rattle.outcomes.proofs.Formed.{room_at_lem, edge_none}
use Rattle.outcomes.proofs.FoundRows.{edge_there_lem, edge_is}
use Rattle.edit_split.specs.Cuts.{point_reasons, split_numbers}

-- the reasons of the point, of numbers as they were passed
pub point_told : (nodes edges : List ℤ) (i : ℕ) {n k : ℕ} {x y : ℤ} {r : ℕ} → n ≡ k → SFits w64 x → SFits w64 y
    → r ≡ first_reason (point_reasons nodes n edges i (to_z w64 (of_z w64 x)) (to_z w64 (of_z w64 y)))
    → first_reason (point_reasons nodes k edges i x y) ≡ r
point_told nodes edges i en fx fy e =
    let x = to_z-of_z {w = w64} fx in
    let y = to_z-of_z {w = w64} fy in
    sym (e ∙ (λ j. first_reason (point_reasons nodes (en j) edges i (x j) (y j))))

-- and those after them
pub split_told : (nodes edges : List ℤ) (n i : ℕ) (late : Reasons) {x y : ℤ} {r : ℕ} → SFits w64 x → SFits w64 y
    → r ≡ first_reason (point_reasons nodes n edges i (to_z w64 (of_z w64 x)) (to_z w64 (of_z w64 y)) ++ late)
    → first_reason (point_reasons nodes n edges i x y ++ late) ≡ r
split_told nodes edges n i late fx fy e =
    let x = to_z-of_z {w = w64} fx in
    let y = to_z-of_z {w = w64} fy in
    sym (e ∙ (λ j. first_reason (point_reasons nodes n edges i (x j) (y j) ++ late)))

-- a point that was not turned down is in range, and neither 20 nor 21 holds
module _ (x y : ℤ) (a b : Bool) (late : Reasons)
    (e : first_reason ((5, outside x y) ∷ (10, a) ∷ (13, b) ∷ late) ≡ 0) where
  pub point_in : coordinate x && coordinate y ≡ true
  point_in = not-false (coordinate x && coordinate y) (first_zero 5 _ _ (lit< tt) e).0

  pub late_none : first_reason late ≡ 0
  late_none = (first_zero 13 _ _ (lit< tt) (first_zero 10 _ _ (lit< tt) (first_zero 5 _ _ (lit< tt) e).1).1).1

-- few numbers are given
pub few_numbers : (how : Variant) {n : Counts} → n ≡ split_numbers how → Few n
few_numbers New e = rw e (record { nodes = lit≤ tt; edges = lit≤ tt; faces = lit≤ tt })
few_numbers Mod e = rw e (record { nodes = lit≤ tt; edges = lit≤ tt; faces = lit≤ tt })

module _ {nodes edges faces : List ℤ} {h : Head} (f : Formed nodes edges faces h) (how : Variant) where
  abbrev m : Map
  m = map_of (lent nodes edges faces h)

  abbrev s : Sizes
  s = sizes_of (lent nodes edges faces h)

  split_is : (z x y : ℤ) → reasons s m (split_ticket how z x y) ≡ split_reasons how s m z x y
  unfolding reasons
  split_is z x y = go how
    where
      go : (k : Variant) → reasons s m (split_ticket k z x y) ≡ split_reasons k s m z x y
      go New = refl
      go Mod = refl

  -- a row that is missing is reason 4
  pub split_missing : (z x y : ℤ) → place (same_z z) 0 (column edge_width edges (nat_abs h.edges)) ≡ None
      → first_reason (reasons s m (split_ticket how z x y)) ≡ 4
  split_missing z x y e = ap first_reason (split_is z x y) ∙ first_hit 4 _ _ (edge_none f z e)

  -- the others, of edge row i
  module _ (i : ℕ) (b : i < nat_abs h.edges) (x y : ℤ) where
    tests : split_reasons how s m (pos (edge_at edges i).number) x y
        ≡ (4, no_edge m (pos (edge_at edges i).number)) ∷ point_reasons nodes (nat_abs h.nodes) edges i x y
        ++ room_at (sizes_in nodes edges faces) h (counts 1 1 0) (split_numbers how)
    unfolding map_of
    tests = rw (edge_is f i b, room_at_lem f (counts 1 1 0) (split_numbers how))

    pub split_reasons_lem : first_reason (reasons s m (split_ticket how (pos (edge_at edges i).number) x y))
        ≡ first_reason (point_reasons nodes (nat_abs h.nodes) edges i x y
        ++ room_at (sizes_in nodes edges faces) h (counts 1 1 0) (split_numbers how))
    split_reasons_lem = ap first_reason (split_is (pos (edge_at edges i).number) x y ∙ tests)
        ∙ first_miss 4 _ _ (edge_there_lem f i b)
