-- One more line: the state after it is noted. Assumes nothing.
use mathlib.Core.Path.{◌≡◌, sym, ap, ◌∙◌, subst}
use mathlib.Core.Logic.{inl, inr}
use mathlib.Core.Bool.{Bool, true, false, not, beq, ◌&&◌, ◌||◌}
use mathlib.Core.List.{List, [], ◌∷◌, ◌++◌, Memᴰ}
use Prim.Native.Nat.{ℕ, suc, ◌+◌, ◌-◌, ◌*◌, ◌/◌, ◌%◌, ◌<◌, ◌≤◌}
use native.Mathlib.Omega.{arith}
use lib.ListN.{length, get_or, set, length-append, length-set}
use lib.Seq.{get_or-set_same, get_or-set_other}
use Rattle.lists.specs.Tests.{same}
use Rattle.lists.specs.Tables.{table}
use Rattle.lists.proofs.Bools.{eq1, equal?, same_refl, same_false, same_true, beq_true, beq_refl, not-true, and_is}
use Rattle.lists.proofs.Bools.{and-true, or_left, or_right}
use Rattle.lists.proofs.Appends.{any_append}
use Rattle.lists.proofs.Scans.{table_last, table_same}
use Rattle.piece_faces.specs.Bits.{span, vertex_of, related, Closed}
use Rattle.nesting.specs.Contents.{Line, line, listed}
use Rattle.nesting.specs.Claims.{Part}
use Rattle.nesting.proofs.Walks.{line_sound, Sound}
use Rattle.outline_rows.specs.Listing.{SoFar, line_at, noted_lines}

-- ---- vertices

vertex_half : (b : Bool) (x : ℕ) → vertex_of b x / 2 ≡ x
vertex_half true x = omega arith
vertex_half false x = omega arith

vertex_odd : (b : Bool) (x : ℕ) → same (vertex_of b x % 2) 1 ≡ b
vertex_odd true x = let e : vertex_of true x % 2 ≡ 1 = omega arith in ap (λ n. same n 1) e ∙ same_refl 1
vertex_odd false x =
    let e : vertex_of false x % 2 ≡ 0 = omega arith in ap (λ n. same n 1) e ∙ same_false 0 1 (λ q. omega arith)

vertex_inside : (b : Bool) (x : ℕ) → x < span → vertex_of b x < span * 2
vertex_inside true x h = omega arith
vertex_inside false x h = omega arith

-- a place has one row, of one kind
vertex_once : (b c : Bool) (x y : ℕ) → vertex_of b x ≡ vertex_of c y → (b ≡ c) × (x ≡ y)
vertex_once b c x y e = (
  sym (vertex_odd b x) ∙ ap (λ n. same (n % 2) 1) e ∙ vertex_odd c y,
  sym (vertex_half b x) ∙ ap (λ n. n / 2) e ∙ vertex_half c y,
)

-- ---- notes

module _ (notes : List ℕ) (left d : ℕ) (b : Bool) (x : ℕ) (some_left : 1 ≤ left) (fits : left * 2 ≤ length notes) where
  abbrev after : List ℕ
  after = set (set notes (left * 2 - 2) d) (left * 2 - 1) (vertex_of b x)

  at_depth : get_or after ((left - 1) * 2) 0 ≡ d
  at_depth =
      get_or-set_other (set notes (left * 2 - 2) d) (left * 2 - 1) ((left - 1) * 2) (vertex_of b x) 0 (λ e. omega arith)
      ∙ subst (λ i. get_or (set notes (left * 2 - 2) d) i 0 ≡ d) (omega arith)
      (get_or-set_same notes (left * 2 - 2) d 0 (omega arith))

  at_place : get_or after ((left - 1) * 2 + 1) 0 ≡ vertex_of b x
  at_place = subst (λ i. get_or after i 0 ≡ vertex_of b x) (omega arith)
      (get_or-set_same (set notes (left * 2 - 2) d) (left * 2 - 1) (vertex_of b x) 0
      (omega (arith, length-set notes (left * 2 - 2) d)))

  -- the line that is noted
  noted_line : line_at after (left - 1) ≡ line d b x
  noted_line = λ i. line (at_depth i) ((ap (λ n. same (n % 2) 1) at_place ∙ vertex_odd b x) i)
      ((ap (λ n. n / 2) at_place ∙ vertex_half b x) i)

  kept_at : (j : ℕ) → left * 2 ≤ j → get_or after j 0 ≡ get_or notes j 0
  kept_at j h = get_or-set_other (set notes (left * 2 - 2) d) (left * 2 - 1) j (vertex_of b x) 0 (λ e. omega arith)
      ∙ get_or-set_other notes (left * 2 - 2) j d 0 (λ e. omega arith)

  -- the lines before it
  kept_line : (i : ℕ) → left ≤ i → line_at after i ≡ line_at notes i
  kept_line i h =
      let e = kept_at (i * 2) (omega arith) in
      let f = kept_at (i * 2 + 1) (omega arith) in
      λ j. line (e j) (same (f j % 2) 1) (f j / 2)

  noted_more : (total : ℕ) (ls : List Line) → length ls + left ≡ total → ls ≡ noted_lines notes total (length ls)
      → ls ++ line d b x ∷ [] ≡ noted_lines after total (length (ls ++ line d b x ∷ []))
  noted_more total ls count noted =
      let place : left - 1 ≡ total - suc (0 + length ls) = omega arith in
      let new = line d b x in
      let long : suc (length ls) ≡ length (ls ++ new ∷ []) = omega (arith, length-append ls (new ∷ [])) in
      let was : ℕ → Line = λ j. line_at notes (total - suc j) in
      let is : ℕ → Line = λ j. line_at after (total - suc j) in
      let kept = table_same is was 0 (length ls) (λ j l h. kept_line (total - suc j) (omega arith)) in
      ap (λ l. l ++ new ∷ []) (noted ∙ sym kept)
      ∙ ap (λ l. table is 0 (length ls) ++ l ∷ []) (sym noted_line ∙ ap (line_at after) place)
      ∙ sym (table_last is 0 (length ls)) ∙ ap (table is 0) long

-- ---- marks

or_none : (a b : Bool) → b ≡ false → a || (b || false) ≡ a
or_none a b e = ap (λ z. a || (z || false)) e ∙ eq1 (λ a. a || false) (λ a. a) tt a

listed_more : (ls : List Line) (d : ℕ) (b : Bool) (x : ℕ) (c : Bool) (y : ℕ)
    → listed (ls ++ line d b x ∷ []) c y ≡ listed ls c y || (beq b c && same x y || false)
listed_more ls d b x c y = any_append (λ l. beq l.piece c && same l.number y) ls (line d b x ∷ [])

marked_more : (seen : List ℕ) (ls : List Line) (d : ℕ) (b : Bool) (x : ℕ) → length seen ≡ span * 2 → x < span
    → ((c : Bool) (y : ℕ) → y < span → same (get_or seen (vertex_of c y) 0) 0 ≡ not (listed ls c y)) → (c : Bool) (y : ℕ)
    → y < span → same (get_or (set seen (vertex_of b x) 1) (vertex_of c y) 0) 0 ≡ not (listed (ls ++ line d b x ∷ []) c y)
marked_more seen ls d b x long h marked c y k = elim (equal? (vertex_of c y) (vertex_of b x)) [
  | inl e ↦
      let q = vertex_once b c x y (sym e) in
      let here = and_is (ap (beq b) (sym q.0) ∙ beq_refl b) (ap (same x) (sym q.1) ∙ same_refl x) in
      ap (λ i. same (get_or (set seen (vertex_of b x) 1) i 0) 0) e
      ∙ ap (λ n. same n 0) (get_or-set_same seen (vertex_of b x) 1 0 (omega (arith, vertex_inside b x h)))
      ∙ same_false 1 0 (λ q. omega arith)
      ∙ sym (ap not (listed_more ls d b x c y ∙ or_right (listed ls c y) _ (or_left false here)))
  | inr o ↦
      let there = not-true (beq b c && same x y) (λ t.
      let q = and-true (beq b c) (same x y) t in
      o (λ i. vertex_of (sym (beq_true b c q.0) i) (sym (same_true x y q.1) i))) in
      ap (λ n. same n 0) (get_or-set_other seen (vertex_of b x) (vertex_of c y) 1 0 o) ∙ marked c y k
      ∙ sym (ap not (listed_more ls d b x c y ∙ or_none (listed ls c y) _ there))
]

-- ---- the state

module _ (g : List ℕ) (all : List Part) (closed : Closed g all) (left : ℕ) (notes seen : List ℕ) (ls : List Line)
    (s : SoFar all left notes seen ls) where
  pub sound : Sound (related g) all closed ls
  sound = record { once = s.once; inside = s.inside }

  pub one_more : (d : ℕ) (b : Bool) (x v : ℕ) → v ≡ vertex_of b x → x < span → 1 ≤ left → left * 2 ≤ length notes
      → length seen ≡ span * 2 → Memᴰ (b, x) all → listed ls b x ≡ false
      → SoFar all (left - 1) (set (set notes (left * 2 - 2) d) (left * 2 - 1) v) (set seen v 1) (ls ++ line d b x ∷ [])
  one_more d b x v e h some_left fits long m off =
      let more = ls ++ line d b x ∷ [] in
      let kept = line_sound (related g) all closed b x d ls m off sound in
      subst (λ w. SoFar all (left - 1) (set (set notes (left * 2 - 2) d) (left * 2 - 1) w) (set seen w 1) more)
      (sym e) (record {
        count = omega (arith, length-append ls (line d b x ∷ []), s.count);
        noted = noted_more notes left d b x some_left fits (length all) ls s.count s.noted;
        once = kept.once;
        inside = kept.inside;
        marked = marked_more seen ls d b x long h s.marked;
      })
