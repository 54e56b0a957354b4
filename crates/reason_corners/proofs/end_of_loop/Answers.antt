-- `reason_corners::end_of_loop` meets its contract. Assumes nothing.
use mathlib.Core.Path.{◌≡◌, sym, ap, ap₂, ◌∙◌}
use mathlib.Core.Bool.{Bool, true, false, cond, not, ◌&&◌, ◌||◌}
use Prim.Native.Nat.{ℕ, ◌*◌, ◌/◌}
use native.Mathlib.Omega.{arith}
use Rattle.plane.specs.Directions.{Way, before}
use Rattle.curves.specs.Curves.{curve_of, start_way}
use Rattle.curves.specs.Edits.{course}
use Rattle.map_rows.proofs.Rows.{edge-row_of}
use Rattle.darts.specs.Positions.{way_at, way_with}
use Rattle.links.proofs.FirstMet.{with_none}
use Rattle.reason_corners.proofs.Ends.{start_way_lem}
use Rattle.reason_corners.proofs.end_of_loop.Lts as lts
use Rattle.reason_corners.proofs.end_of_loop.Tie as tie
use Rattle.reason_corners.proofs.end_of_loop.Reads as reads
use Rattle.reason_corners.proofs.end_of_loop.Goals as goal

-- places in the code, by their names in what is generated
abbrev After-before-late : Type 0
After-before-late = lts.After-before4 tie.the-claims reads.Pre reads.Post

pub step_at-there-requires : goal.step_at-there-requires
step_at-there-requires c = let s = c in
    edge-row_of s.args.edges.ranged (s.args.q / 2) (let h = s.requires.1 in omega arith)

-- what the three comparisons tell of directions
told : (w : ℕ → Way) (v : Way) (q x : ℕ) (a b : Way) (first under late : Bool) → w x ≡ a → w q ≡ b → first ≡ before a v
    → under ≡ before b v → late ≡ before b a
    → (before (w x) v && not (before (w q) v) || before (w q) (w x) && (before (w x) v || not (before (w q) v)))
    ≡ (first && not under || late && (first || not under))
told w v q x a b first under late e f g h i = rw (e, f, g, h, i)

test : (c : After-before-late)
    → (let a = c.args in
    let w = way_with a.edges.rows.now a.edges.count a.c.now in
    let v = start_way (course true (curve_of a.c.now)) in
    (before (w (a.edges.count * 2)) v && not (before (w a.q) v) || before (w a.q) (w (a.edges.count * 2))
    && (before (w (a.edges.count * 2)) v || not (before (w a.q) v)))
    ≡ (c.before-first.result && not c.before-under.result || c.before-late.result
    && (c.before-first.result || not c.before-under.result)))
test c =
    let s = c in
    let a = s.args in
    let l = a.edges.rows.now in
    let w = way_with l a.edges.count a.c.now in
    let v = c.first_step-v.ensures.way in
    let o = c.first_step-own.ensures.way in
    let t = c.step_at-there.ensures.way in
    told w (start_way (course true (curve_of a.c.now))) a.q (a.edges.count * 2)
    (start_way (course false (curve_of a.c.now))) (way_at l a.q) c.before-first.result
    c.before-under.result c.before-late.result
    (start_way_lem l a.edges.count a.c.now)
    (with_none l a.edges.count a.c.now a.q (let h = s.requires.1 in omega arith))
    (c.before-first.ensures ∙ ap₂ before o v)
    (c.before-under.ensures ∙ ap₂ before t v)
    (c.before-late.ensures ∙ ap₂ before t o)

pub returns-then-first-under : goal.returns-then-first-under
returns-then-first-under c = let a = c.args in
    sym (ap (λ (b : Bool). cond b (a.edges.count * 2) a.q) (test c.before ∙ c.if-first-under.true))

pub returns-else-first-under : goal.returns-else-first-under
returns-else-first-under c = let a = c.args in
    sym (ap (λ (b : Bool). cond b (a.edges.count * 2) a.q) (test c.before ∙ c.if-first-under.false))
