-- The first reason against a heal from its parts. Assumes nothing.
use mathlib.Core.Path.{◌≡◌, refl, sym, ap, ◌∙◌}
use mathlib.Core.Bool.{Bool, true, false, ◌||◌, true≢false}
use mathlib.Core.List.{List, [], ◌∷◌, ◌++◌}
use Prim.Native.Nat.{ℕ, ◌≤◌, ◌<◌}
use native.Mathlib.Nat.{le_trans}
use lib.Dec.{ltb, lit<, lit≤}
use lib.IntN.{ℤ, pos, nat_abs}
use lib.ListN.{length}
use borrow.Author.Tests.{not-false, ltb-false}
use Rattle.lists.specs.Tests.{same}
use Rattle.lists.specs.Scans.{is_some}
use Rattle.lists.proofs.Bools.{differ}
use Rattle.curves.specs.Curves.{points, max_points}
use Rattle.map.specs.declared.Counts.{Counts}
use Rattle.map.specs.declared.Head.{Head}
use Rattle.map.specs.declared.Variant.{Variant}
use Rattle.map.specs.declared.Variant.TheVariants.{New, Mod}
use Rattle.map.specs.Limits.{most_points, limit_of}
use Rattle.map.specs.Rows.{Map, map_of, sizes_of, edge, counts, lent}
use Rattle.map.specs.Darts.{departures, leaves, course}
use Rattle.map.specs.Edits.{shared_nodes, joint, parts, healed_curve}
use Rattle.map.specs.Reasons.{Reasons, first_reason, reasons, no_edge}
use Rattle.map.proofs.PointLimits.{most-fits}
use Rattle.map.proofs.Reasons.{first_hit, first_miss, first_zero, first_append, first_after}
use Rattle.map_rows.specs.Rows.{edge_at, edge_map}
use Rattle.head.specs.Heads.{Few}
use Rattle.outcomes.specs.Outcomes.{Formed}
use Rattle.outcomes.proofs.Formed.{spent_at_lem}
use Rattle.outcomes.proofs.FoundRows.{edge_there_lem}
use Rattle.reason_departures.specs.Turning.{joint_reasons}
use Rattle.outcomes.specs.Variants.{heal_ticket}
use Rattle.edit_heal.specs.Heals.{late_reasons, heal_numbers}

or_left : (x y : Bool) → x || y ≡ false → x ≡ false
or_left true y e = absurd (true≢false e)
or_left false y e = refl

-- few numbers are given
pub few_numbers : (how : Variant) {n : Counts} → n ≡ heal_numbers how → Few n
few_numbers Mod e = rw e (record { nodes = lit≤ tt; edges = lit≤ tt; faces = lit≤ tt })
few_numbers New e = rw e (record { nodes = lit≤ tt; edges = lit≤ tt; faces = lit≤ tt })

-- no more points than fit
pub late_few : (count : ℕ) (h : Head) (how : Variant) → first_reason (late_reasons count h how) ≡ 0
    → count ≤ max_points
late_few count h how e = let k = limit_of h.points in
    le_trans (ltb-false (most_points k) count (first_zero 18 _ _ (lit< tt) e).0) (most-fits k)

-- 16 and 17 do not hold
module _ (m : Map) (a b : ℕ) (e : first_reason (joint_reasons m a b) ≡ 0) where
  pub joint_some : is_some (joint m a b) ≡ true
  joint_some = not-false (is_some (joint m a b)) (first_zero 17 _ _ (lit< tt) (first_zero 16 _ _ (lit< tt) e).1).0

  pub edges_differ : a ≡ b → ⊥
  edges_differ = differ a b (or_left (same a b) (same (length (shared_nodes m a b)) 0)
      (first_zero 16 _ _ (lit< tt) e).0)

module _ {nodes edges faces : List ℤ} {h : Head} (f : Formed nodes edges faces h) (how : Variant) where
  abbrev whole : Map
  whole = map_of (lent nodes edges faces h)

  abbrev listed : ℤ → ℤ → Reasons
  listed y z = reasons (sizes_of (lent nodes edges faces h)) whole (heal_ticket how y z)

  -- ---- 4

  pub row_missing : (y z : ℤ) → no_edge whole y || no_edge whole z ≡ true → first_reason (listed y z) ≡ 4
  unfolding reasons
  row_missing y z e = go how
    where
      go : (k : Variant) → first_reason (reasons (sizes_of (lent nodes edges faces h)) whole (heal_ticket k y z)) ≡ 4
      go New = first_hit 4 _ _ e
      go Mod = first_hit 4 _ _ e

  -- ---- the others

  module _ (i j : ℕ) (hi : i < nat_abs h.edges) (hj : j < nat_abs h.edges) where
    abbrev m : Map
    m = edge_map edges (nat_abs h.edges)

    abbrev a : ℕ
    a = (edge_at edges i).number

    abbrev b : ℕ
    b = (edge_at edges j).number

    abbrev late : Reasons
    late = late_reasons (length (points (healed_curve m a b))) h how

    in_parts : first_reason (listed (pos a) (pos b))
        ≡ first_reason ((4, no_edge whole (pos a) || no_edge whole (pos b)) ∷ (joint_reasons m a b ++ late))
    unfolding reasons map_of first_reason healed_curve parts joint shared_nodes departures leaves course edge
    in_parts = go how
      where
        go : (k : Variant) → first_reason (reasons (sizes_of (lent nodes edges faces h)) whole
            (heal_ticket k (pos a) (pos b)))
            ≡ first_reason ((4, no_edge whole (pos a) || no_edge whole (pos b))
            ∷ (joint_reasons m a b ++ late_reasons (length (points (healed_curve m a b))) h k))
        go Mod = refl
        go New = ap (λ (x : Bool). first_reason ((4, no_edge whole (pos a) || no_edge whole (pos b)) ∷ (joint_reasons m a b
            ++ ((18, ltb (most_points (limit_of h.points)) (length (points (healed_curve m a b)))) ∷ (21, x) ∷ []))))
            (sym (spent_at_lem f (counts 0 1 0)))

    known : no_edge whole (pos a) || no_edge whole (pos b) ≡ false
    known = rw (edge_there_lem f i hi, edge_there_lem f j hj)

    pub early_reason : (r : ℕ) → 0 < r → r ≡ first_reason (joint_reasons m a b) → first_reason (listed (pos a) (pos b)) ≡ r
    early_reason r some e = in_parts ∙ first_miss 4 _ _ known ∙ first_append (joint_reasons m a b) late r some (sym e)

    pub late_reason : first_reason (joint_reasons m a b) ≡ 0 → first_reason (listed (pos a) (pos b)) ≡ first_reason late
    late_reason e = in_parts ∙ first_miss 4 _ _ known ∙ first_after (joint_reasons m a b) late refl e
