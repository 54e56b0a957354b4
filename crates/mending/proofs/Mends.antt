-- The claims on mended links, for all tables and lists. Assumes nothing.
use mathlib.Core.Path.{◌≡◌, refl, sym, ap, ap₂, fun_ext, ◌∙◌}
use mathlib.Core.Bool.{true, not}
use mathlib.Core.List.{List, [], Memᴰ}
use mathlib.Core.Logic.{◌≢◌}
use Prim.Native.Nat.{ℕ, zero, suc, ◌≤◌}
use native.Mathlib.Omega.{arith}
use borrow.Author.Tests.{not-false, le-ltb}
use lib.Dec.{ltb, lit<}
use lib.IntN.{ℤ, pos, nat_abs}
use lib.ListN.{length}
use Rattle.lists.specs.Scans.{all_of}
use Rattle.lists.proofs.Bools.{and_is}
use Rattle.tables.specs.Tables.{rows}
use Rattle.curves.specs.Curves.{points, max_points}
use Rattle.bounding_boxes.specs.declared.Extent.{Extent}
use Rattle.map.specs.declared.Head.{Head}
use Rattle.map.specs.Limits.{face_width}
use Rattle.map.specs.Rows.{Edge, Map, Lent, Sizes, map_of, lent_of, sizes_of, whole, face_rows, rectangle}
use Rattle.map.specs.Form.{departures_differ, rings_bear_one, ranged, formed, has_box, boxed, in_form}
use Rattle.map.specs.Links.{obeys_law}
use Rattle.map.specs.Reasons.{first_reason}
use Rattle.map.specs.Ticket.{list_unless}
use Rattle.map.proofs.RoundTrip.{writes_back, ranged-points}
use Rattle.map.proofs.Reasons.{first_miss, first_none, first_zero}
use Rattle.map.proofs.Laws.{formed-back, in_form_is, in_form-back}
use Rattle.map.proofs.Linked.{edges_once}
use Rattle.mending.specs.Mend.{sketched, mended, changes, mend_reasons, mend_unless, Mended, mend}
use Rattle.mending.specs.Claims.{Mends, MendedLawful, MendedInForm, LinksAlone, MendedLinksAlone}
use Rattle.mending.specs.Claims.{LawfulUntouched, MendedTwice, RefusedUntouched}
use Rattle.mending.proofs.Sketched.{Sketch, Boxed, sketched_is, in_form-sketched}
use Rattle.mending.proofs.Mended.{mended-lawful}
use Rattle.mending.proofs.Formed.{mended-formed}
use Rattle.mending.proofs.Tables.{rectangle_now, nodes_now, faces_now, head_now, few_now, size_now, whole_now}
use Rattle.mending.proofs.Tables.{ranged_now}
use Rattle.mending.proofs.Lawful.{lawful-empty, lawful_kept}

-- ---- a call by its first reason

-- what is left and answered for a first reason r
abbrev given : Lent → List ℤ → ℕ → Mended
given l list r =
    let listed = list_unless list (changes (map_of l)) r in
    record { lent = mend_unless l r; list = listed.list; answer = listed.answer }

module _ (l : Lent) (list : List ℤ) where
  abbrev reason : ℕ
  reason = first_reason (mend_reasons l list)

  by_reason : mend l list ≡ given l list reason
  unfolding mend
  by_reason = refl

  answers : (r : ℕ) → (given l list r).answer.refusal ≡ r
  answers zero = refl
  answers (suc r) = refl

  abbrev refused : ℕ → Mended
  refused r = record { lent = l; list = list; answer = record { refusal = r; value = pos 0 } }

  given-refused : (r : ℕ) → r ≢ 0 → given l list r ≡ refused r
  given-refused zero h = absurd (h refl)
  given-refused (suc r) h = refl

  -- the answer is the first reason
  refusal_is : (mend l list).answer.refusal ≡ reason
  refusal_is = ap (λ (o : Mended). o.answer.refusal) by_reason ∙ answers reason

pub refused-untouched : RefusedUntouched
refused-untouched l list h =
    let e = refusal_is l list in
    by_reason l list ∙ given-refused l list (reason l list) (λ q. h (e ∙ q)) ∙ ap (refused l list) (sym e)

-- ---- a call carried out

-- none of the reasons held
record Taken (l : Lent) (list : List ℤ) : Type 0 where
  whole : whole l ≡ true
  ranged : ranged l ≡ true
  sketch : Sketch (map_of l)
  boxed : Boxed l
  differ : departures_differ (map_of l) ≡ true
  rings : rings_bear_one (mended (map_of l)) ≡ true
  lent : (mend l list).lent ≡ lent_of (sizes_of l) (mended (map_of l))

taken : (l : Lent) (list : List ℤ) → Mends l list → Taken l list
taken l list h =
    let none : reason l list ≡ 0 = sym (refusal_is l list) ∙ h in
    let h₁ = first_zero 1 _ _ (lit< tt) none in
    let h₂ = first_zero 2 _ _ (lit< tt) h₁.1 in
    let h₁₁ = first_zero 11 _ _ (lit< tt) h₂.1 in
    let h₃₁ = first_zero 31 _ _ (lit< tt) h₁₁.1 in
    let drawn = sketched_is l (not-false (sketched l) h₂.0) in
    record {
      whole = not-false (whole l) h₁.0;
      ranged = drawn.0;
      sketch = drawn.1;
      boxed = drawn.2;
      differ = not-false (departures_differ (map_of l)) h₁₁.0;
      rings = not-false (rings_bear_one (mended (map_of l))) h₃₁.0;
      lent = ap (λ (o : Mended). o.lent) (by_reason l list) ∙ ap (mend_unless l) none;
    }

module _ (l : Lent) (list : List ℤ) (h : Mends l list) where
  t : Taken l list
  t = taken l list h

  abbrev m : Map
  m = map_of l

  abbrev s : Sizes
  s = sizes_of l

  few : (e : Edge) → Memᴰ e m.edges → length (points e.curve) ≤ max_points
  few e k = (ranged-points l t.ranged e k).most

  mended_in_form : formed (mended m) ≡ true
  mended_in_form = mended-formed m t.sketch t.differ t.rings

  -- what was lent, written again
  back : lent_of s m ≡ l
  back = writes_back (rectangle m.edges) l t.whole t.ranged t.boxed

  reads : map_of (lent_of s (mended m)) ≡ mended m
  reads = formed-back (mended m) mended_in_form s (few_now s m few)

  links_alone : LinksAlone l (lent_of s (mended m))
  links_alone =
      record {
        nodes = nodes_now s m ∙ ap (λ (x : Lent). x.nodes) back;
        faces = faces_now s m ∙ ap (λ (x : Lent). x.faces) back;
        head = head_now s m ∙ ap (λ (x : Lent). x.head) back;
        size = size_now s m few ∙ ap (λ (x : Lent). length x.edges) back;
        edges = reads;
      }

  is_whole : whole (lent_of s (mended m)) ≡ true
  is_whole = whole_now s m few (ap whole back ∙ t.whole)

  is_boxed : boxed (lent_of s (mended m)) ≡ true
  unfolding boxed
  is_boxed =
      let l' = lent_of s (mended m) in
      ap (λ (q : Map). all_of (has_box (rectangle q.edges)) (face_rows l')) reads
      ∙ ap (λ (box : ℕ → Extent). all_of (has_box box) (face_rows l')) (fun_ext (rectangle_now m))
      ∙ ap₂ (λ (h : Head) (fs : List ℤ).
      all_of (has_box (rectangle m.edges)) (rows face_width (nat_abs h.faces) fs))
      links_alone.head links_alone.faces
      ∙ t.boxed

  is_in_form : in_form (lent_of s (mended m)) ≡ true
  unfolding in_form
  is_in_form = and_is (and_is (ranged_now s m few (ap ranged back ∙ t.ranged)) (ap formed reads ∙ mended_in_form)) is_boxed

pub mended_links_alone : MendedLinksAlone
mended_links_alone l list h = rw (taken l list h).lent (links_alone l list h)

pub mended_law : MendedLawful
mended_law l list h = ap obeys_law (mended_links_alone l list h).edges ∙ mended-lawful (map_of l)

pub mended-in_form : MendedInForm
mended-in_form l list h = rw (taken l list h).lent (is_whole l list h, is_in_form l list h)

-- ---- a lawful map

pub lawful-untouched : LawfulUntouched
lawful-untouched l w f law list =
    by_reason l list
    ∙ ap (given l list) none
    ∙ ap₂ (λ (x : Lent) (written : List ℤ). record {
      lent = x;
      list = (list_unless list written 0).list;
      answer = (list_unless list written 0).answer;
    }) (ap (lent_of (sizes_of l)) same ∙ in_form-back l w f) empty
  where
    formed_was : formed (map_of l) ≡ true
    formed_was = (in_form_is l f).formed

    same : mended (map_of l) ≡ map_of l
    same = lawful_kept (map_of l) (edges_once (map_of l) formed_was) law

    empty : changes (map_of l) ≡ []
    empty = lawful-empty (map_of l) (edges_once (map_of l) formed_was) law

    none : reason l list ≡ 0
    none =
        let k = in_form-sketched l f in
        let room = ap (λ (written : List ℤ). ltb (length list) (length written)) empty
        ∙ le-ltb (length list) 0 (omega arith) in
        first_miss 1 _ _ (ap not w)
        ∙ first_miss 2 _ _ (ap not k.0)
        ∙ first_miss 11 _ _ (ap not k.1.departures)
        ∙ first_miss 31 _ _ (ap not (ap rings_bear_one same ∙ k.1.rings))
        ∙ first_miss 20 _ _ room
        ∙ first_none

pub mended_twice : MendedTwice
mended_twice l list h =
    let f = mended-in_form l list h in
    lawful-untouched (mend l list).lent f.0 f.1 (mended_law l list h)
