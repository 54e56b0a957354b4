-- A map passes the tests just when it is good. Assumes nothing.
use mathlib.Core.Path.{◌≡◌}
use mathlib.Core.Bool.{true, ◌&&◌}
use Prim.Native.Nat.{ℕ, suc}
use native.Mathlib.Omega.{arith}
use borrow.Author.Tests.{leb-true, le-leb}
use lib.Dec.{leb}
use Rattle.lists.proofs.Bools.{and-true, and_is}
use Rattle.map.specs.Limits.{last_number}
use Rattle.map.specs.Rows.{Map}
use Rattle.map.specs.Form.{formed}
use Rattle.map.specs.Links.{obeys_law}
use Rattle.map.proofs.Laws.{formed_is}
use Rattle.grown.specs.Good.{Good, Numbered}
use Rattle.map_laws.proofs.Faces.{zero_in}
use Rattle.grown.proofs.Numbers.Carried.{ranks}
use Rattle.grown.proofs.Plane.Reached.{good_reached}
use Rattle.grown.proofs.Law.Lawful.{Lawful, formed-lawful, law_is}
use Rattle.grown.proofs.Forms.{good_formed}
use Rattle.grown.proofs.Ranges.{NextInRange}
use Rattle.certified.specs.Certified.{next_in_range, nexts_in_range, curves_clear, places_differ, sum_holds}
use Rattle.certified.specs.Certified.{faces_reached, in_plane, certified}
use Rattle.certified.specs.Claims.{CertifiedIff}
use Rattle.certified.proofs.Woven.{reached_says, reached_is, sum_says, sum_is, woven}
use Rattle.certified.proofs.Surveys.{curves_long, surveys_says, curves_are, places_are}

-- ---- next numbers

in_range : (n : ℕ) → next_in_range n ≡ true → NextInRange n
in_range n h = let k = and-true (leb 1 n) (leb n (suc last_number)) h in
    record { least = leb-true _ _ k.0; most = leb-true _ _ k.1 }

is_range : {n : ℕ} → NextInRange n → next_in_range n ≡ true
is_range r = and_is (le-leb _ _ r.least) (le-leb _ _ r.most)

pub nexts_are : (m : Map) → NextInRange m.next.nodes → NextInRange m.next.edges → NextInRange m.next.faces
    → nexts_in_range m ≡ true
unfolding nexts_in_range
nexts_are m a b c = and_is (and_is (is_range a) (is_range b)) (is_range c)

-- ---- the map

module _ (m : Map) where
  numbered_says : formed m ≡ true → nexts_in_range m ≡ true → Numbered m
  unfolding nexts_in_range
  numbered_says form h =
      let n = m.next in
      let k = and-true (next_in_range n.nodes && next_in_range n.edges) (next_in_range n.faces) h in
      let j = and-true (next_in_range n.nodes) (next_in_range n.edges) k.0 in
      let node = in_range m.next.nodes j.0 in
      let edge = in_range m.next.edges j.1 in
      record {
        numbers = (formed_is m form).rising;
        named = (formed_is m form).named;
        marked = (formed_is m form).bare;
        first_node = node.least;
        first_edge = edge.least;
        next_node = node.most;
        next_edge = edge.most;
        next_face = (in_range m.next.faces k.1).most;
      }

  -- face 0 is below the next face
  good_nexts : Good m → nexts_in_range m ≡ true
  good_nexts g =
      let n = g.numbered in
      let r = ranks m g in
      nexts_are m (record { least = n.first_node; most = n.next_node })
      (record { least = n.first_edge; most = n.next_edge })
      (record { least = omega (arith, (r.faces.bounds 0 (zero_in m.faces r.zero)).1); most = n.next_face })

  pub certified_good : certified m ≡ true → Good m
  unfolding certified in_plane
  certified_good h =
      let h₁ = and-true (formed m && nexts_in_range m) (in_plane m) h in
      let h₂ = and-true (formed m) (nexts_in_range m) h₁.0 in
      let h₃ = and-true _ (faces_reached m) h₁.1 in
      let h₄ = and-true _ (sum_holds m) h₃.0 in
      let h₅ = and-true _ (places_differ m) h₄.0 in
      let h₆ = and-true (obeys_law m) (curves_clear m) h₅.0 in
      let l : Lawful m = formed-lawful m h₂.0 (curves_long m h₆.1) h₆.0 in
      record {
        numbered = numbered_says h₂.0 h₂.1;
        woven = woven m h₂.0 l (sum_says m h₄.1) (reached_says m l.once h₃.1);
        surveyed = surveys_says m h₂.0 l h₆.1 h₅.1;
      }

  pub good_plane : Good m → in_plane m ≡ true
  unfolding in_plane
  good_plane g = and_is (and_is (and_is (and_is (law_is m g.woven.law) (curves_are m g.surveyed))
      (places_are m g.surveyed)) (sum_is m g.woven.planar.euler))
      (reached_is m g.woven.planar.edges_once (good_reached m g))

  pub good_certified : Good m → certified m ≡ true
  unfolding certified
  good_certified g = and_is (and_is (good_formed m g) (good_nexts g)) (good_plane g)

pub certified_iff : CertifiedIff
certified_iff m = (certified_good m, good_certified m)
