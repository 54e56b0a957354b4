-- What each return of `list_pieces` and `list_faces` tells: nothing more is related, one would be listed twice, or what
-- is under one is listed and then the others. Assumes nothing.
use Rattle.std.specs.Prelude.{Option as Left, Some, None, IfSome}
use Rattle.std.proofs.lemmas.Option.{IfSome_then}
use mathlib.Core.Path.{◌≡◌, refl, sym, ap, ◌∙◌, subst}
use mathlib.Core.Logic.{◌⊎◌, inl, inr}
use mathlib.Core.Bool.{Bool, true, false, not, ◌||◌}
use mathlib.Core.List.{List, [], ◌∷◌, ◌++◌, Memᴰ}
use mathlib.Core.Option.{Option, none, some}
use Prim.Native.Nat.{ℕ, zero, suc, ◌+◌, ◌-◌, ◌*◌, ◌<◌, ◌≤◌}
use native.Mathlib.Numerals.{add-one}
use native.Mathlib.Omega.{arith}
use lib.Dec.{eqb}
use lib.ListN.{length, get_or, set}
use Rattle.lists.specs.Tests.{same}
use Rattle.lists.specs.Scans.{keep}
use Rattle.lists.proofs.Bools.{or-true, or-false, same_true, differ}
use Rattle.piece_faces.specs.Bits.{span, vertex_of, related, related_but, first_of, Closed}
use Rattle.nesting.specs.Contents.{Line, line, listed, fresh, each, lines}
use Rattle.nesting.specs.Claims.{Part}
use Rattle.nesting.proofs.Walks.{each_none, each_alike, depth_alike, stop, Sound}
use Rattle.outline_rows.specs.Listing.{SoFar, Room, Told, Lists, listed_from}
use Rattle.outline_rows.proofs.Rows.{First, rows_end, rows_first, row_in}
use Rattle.outline_rows.proofs.States.{sound, one_more}

-- what is left is no more
pub left_at-most : {n k : ℕ} {r : Left ℕ} → r ≡ Some k → IfSome r (λ k. k ≤ n) → k ≤ n
left_at-most {n} e m = subst (λ r. IfSome r (λ k. k ≤ n)) e m

flip : (b c : Bool) → not b ≡ c → b ≡ not c
flip true c e = ap not e
flip false c e = ap not e

-- ---- the test: nothing is left, or the mark is set

abbrev stops : ℕ → ℕ → Bool
stops left mark = eqb left 0 || not (eqb mark 0)

stops_why : (left mark : ℕ) → stops left mark ≡ true → (left ≡ 0) ⊎ (same mark 0 ≡ false)
unfolding same
stops_why left mark e = elim (or-true (eqb left 0) (not (eqb mark 0)) e) [
  | inl t ↦ inl (same_true left 0 t)
  | inr t ↦ inr (flip (eqb mark 0) true t)
]

pub stops_not : (left mark : ℕ) → stops left mark ≡ false → (1 ≤ left) × (same mark 0 ≡ true)
unfolding same
stops_not left mark e =
    let t = or-false (eqb left 0) (not (eqb mark 0)) e in
    let some_left : (left ≡ 0) → ⊥ = differ left 0 t.0 in
    (omega arith, flip (eqb mark 0) false t.1)

-- ---- over any neighbours

module _ (beneath : Bool → ℕ → List ℕ) (b : Bool) (x y d : ℕ) (ls : List Line) where
  -- y, not listed yet, under x: its own line, then what is under it but x
  opened : (left : ℕ) → 1 ≤ left → listed ls b y ≡ false → lines left beneath b y (some x) d ls
      ≡ each (λ z. lines (left - 1) beneath (not b) z (some y) (d + 1)) (keep (λ i. not (same i x)) (beneath b y))
      (some (ls ++ line d b y ∷ []))
  unfolding lines
  opened left h off =
      let long : left ≡ suc (left - 1) = omega arith in
      let ws = keep (λ i. not (same i x)) (beneath b y) in
      ap (λ n. lines n beneath b y (some x) d ls) long
      ∙ ap (λ o. each (λ z. lines (left - 1) beneath (not b) z (some y) (suc d)) ws (fresh o ls (line d b y))) off
      ∙ ap (λ e. each (λ z. lines (left - 1) beneath (not b) z (some y) e) ws (some (ls ++ line d b y ∷ [])))
      (sym (add-one d))

  module _ (all : List Part)
      (closed : (b : Bool) (x y : ℕ) → Memᴰ y (beneath b x) → Memᴰ (not b, y) all) where
    -- y is not listed: nothing is left, or it would be twice
    no_line : (left : ℕ) → (left ≡ 0) ⊎ (listed ls b y ≡ true) → lines left beneath b y (some x) d ls ≡ none
    unfolding lines
    no_line zero why = refl
    no_line (suc k) (inl e) = absurd (omega arith)
    no_line (suc k) (inr e) = stop beneath all closed k b y (some x) d ls e

-- bounds on the depth that are no less than what is not yet listed
pub alike : (g : List ℕ) (b : Bool) (x d : ℕ) → 1 ≤ d → (k k' : ℕ) (all : List Part) (closed : Closed g all)
    (ws : List ℕ) → ((w : ℕ) → Memᴰ w ws → Memᴰ (not b, w) all) → (ls : List Line)
    → Sound (related g) all closed ls → length all ≤ length ls + k → length all ≤ length ls + k'
    → each (λ z. lines k (related g) (not b) z (some x) d) ws (some ls)
    ≡ each (λ z. lines k' (related g) (not b) z (some x) d) ws (some ls)
alike g b x zero h k k' all closed = absurd (omega arith)
alike g b x (suc d) h k k' all closed =
    each_alike (related g) all closed k k' (depth_alike (related g) all closed k k') b x d

-- the row of the next that is found
pub next_row : (g : List ℕ) (v from led y : ℕ) → Some y ≡ first_of (related_but g v from led) → y < span
next_row g v from led y e = (rows_first g v led from y (sym e)).0

-- ---- what is listed under x, of kind b, from row `from` on; v is the place of x

module _ (b : Bool) {g : List ℕ} {x d left : ℕ} {notes seen : List ℕ} (room : Room g x d left notes seen) (from led : ℕ)
    (v : ℕ) (at : v ≡ vertex_of b x) where
  -- nothing more is related
  pub told_end : first_of (related_but g v from led) ≡ None
      → Lists g b x from led d left notes seen notes seen (Some left)
  told_end e = record {
    fewer = omega arith;
    told = λ all ls closed s. (
      ls,
      ap (λ ws. each (λ z. lines left (related g) (not b) z (some x) d) ws (some ls))
          (rows_end g (vertex_of b x) led from (ap (λ w. first_of (related_but g w from led)) (sym at) ∙ e)),
      s,
    );
  }

  -- y is the next, with its place u
  module _ (y : ℕ) (found : first_of (related_but g v from led) ≡ Some y) where
    first : First g (vertex_of b x) led from y
    first = rows_first g (vertex_of b x) led from y (ap (λ w. first_of (related_but g w from led)) (sym at) ∙ found)

    near : (all : List Part) → Closed g all → Memᴰ (not b, y) all
    near all closed = closed b x y
        (row_in g (vertex_of b x) led from y (subst (Memᴰ y) (sym first.1) (Memᴰ.head refl)))

    -- those after y
    abbrev after : List ℕ
    after = related_but g (vertex_of b x) (y + 1) led

    abbrev under : ℕ → ℕ → List Line → Option (List Line)
    under n z = lines n (related g) (not b) z (some x) d

    split : (ls : List Line) → listed_from g b x from led d left ls ≡ each (under left) after (under left y ls)
    split ls = ap (λ ws. each (under left) ws (some ls)) first.1

    module _ (u : ℕ) (at_y : u ≡ vertex_of (not b) y) where
      -- the mark of y tells whether it is listed
      mark : {all : List Part} {ls : List Line} → SoFar all left notes seen ls → (m : Bool)
          → same (get_or seen u 0) 0 ≡ m → listed ls (not b) y ≡ not m
      mark {all} {ls} s m e = flip (listed ls (not b) y) m (sym (s.marked (not b) y first.0)
          ∙ ap (λ i. same (get_or seen i 0) 0) (sym at_y) ∙ e)

      -- y is listed already, or nothing is left
      pub told_twice : stops left (get_or seen u 0) ≡ true → Lists g b x from led d left notes seen notes seen None
      told_twice test = record {
        fewer = tt;
        told = λ all ls closed s.
            split ls ∙ ap (each (under left) after) (no_line (related g) (not b) x y d ls all closed left
            (elim (stops_why left (get_or seen u 0) test) [ inl e ↦ inl e | inr e ↦ inr (mark s false e) ]))
            ∙ each_none (under left) after;
      }

      -- y is noted, and a call has listed what is under it
      module _ (test : stops left (get_or seen u 0) ≡ false) {notes₁ seen₁ : List ℕ}
          (noted : (notes₁ ≡ set (set notes (left * 2 - 2) d) (left * 2 - 1) u) × (seen₁ ≡ set seen u 1))
          {notes' seen' : List ℕ} {r₁ : Left ℕ}
          (call : Lists g (not b) y 0 x (d + 1) (left - 1) notes₁ seen₁ notes' seen' r₁) where
        new : stops left (get_or seen u 0) ≡ false → (1 ≤ left) × (same (get_or seen u 0) 0 ≡ true)
        new = stops_not left (get_or seen u 0)

        -- what is under y is listed first
        goes_on : (all : List Part) (ls : List Line) → SoFar all left notes seen ls
            → listed_from g b x from led d left ls
            ≡ each (under left) after (listed_from g (not b) y 0 x (d + 1) (left - 1) (ls ++ line d (not b) y ∷ []))
        goes_on all ls s = split ls ∙ ap (each (under left) after)
            (opened (related g) (not b) x y d ls left (new test).0 (mark s true (new test).1))

        inner : (r : Left ℕ) → r₁ ≡ r → (all : List Part) (ls : List Line) → Closed g all
            → SoFar all left notes seen ls
            → Told all notes' seen' (listed_from g (not b) y 0 x (d + 1) (left - 1) (ls ++ line d (not b) y ∷ [])) r
        inner r e all ls closed s =
            let more = ls ++ line d (not b) y ∷ [] in
            subst (Told all notes' seen' (listed_from g (not b) y 0 x (d + 1) (left - 1) more)) e
            (call.told all more closed
            (subst (λ w. SoFar all (left - 1) notes₁ w more) (sym noted.1)
            (subst (λ w. SoFar all (left - 1) w (set seen u 1) more) (sym noted.0)
            (one_more g all closed left notes seen ls s d (not b) y u at_y first.0 (new test).0 room.lines
            room.marks (near all closed) (mark s true (new test).1)))))

        -- one would be listed twice there
        pub told_twice_under : r₁ ≡ None → Lists g b x from led d left notes seen notes' seen' None
        told_twice_under e = record {
          fewer = tt;
          told = λ all ls closed s. goes_on all ls s ∙ ap (each (under left) after) (inner None e all ls closed s)
              ∙ each_none (under left) after;
        }

        -- then those after y
        pub told_more : (k : ℕ) → r₁ ≡ Some k → {notes'' seen'' : List ℕ} {r : Left ℕ}
            → Lists g b x (y + 1) led d k notes' seen' notes'' seen'' r
            → Lists g b x from led d left notes seen notes'' seen'' r
        told_more k e {notes''} {seen''} {r} rest = let h : k ≤ left - 1 = left_at-most e call.fewer in record {
          fewer = IfSome_then r rest.fewer (λ j l. omega arith);
          told = λ all ls closed s.
              let i = inner (Some k) e all ls closed s in
              subst (λ o. Told all notes'' seen'' o r)
              (sym (goes_on all ls s ∙ ap (each (under left) after) i.1
              ∙ alike g b x d room.under left k all closed after
              (λ w m. closed b x w (row_in g (vertex_of b x) led (y + 1) w m)) i.0
              (sound g all closed k notes' seen' i.0 i.2)
              (omega (arith, i.2.count)) (omega (arith, i.2.count))))
              (rest.told all i.0 closed i.2);
        }
