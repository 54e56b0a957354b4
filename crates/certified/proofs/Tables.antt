-- Tables that pass the tests, grown or not, are after every list of tickets as grown tables are, and pass again; grown
-- tables pass (specs/Claims.antt). Assumes nothing.
use mathlib.Core.Path.{◌≡◌, sym, ap, ◌∙◌}
use mathlib.Core.Bool.{true, ◌&&◌}
use native.Mathlib.Omega.{arith}
use lib.IntN.{nat_abs}
use lib.ListN.{length-map}
use Rattle.lists.proofs.Bools.{and-true, and_is}
use Rattle.map.specs.Limits.{node_width, edge_width, face_width}
use Rattle.map.specs.Rows.{Lent, Sizes, node_of, edge_of, face_row_of, node_rows, edge_rows, face_rows, map_of, sizes_of, whole}
use Rattle.map.specs.Form.{in_form}
use Rattle.map.proofs.RoundTrip.{Ranged, ranged_is}
use Rattle.map.proofs.Laws.{in_form_is, in_form-back}
use Rattle.tables.proofs.Filled.{rows_count}
use Rattle.tables.proofs.Tests.{within-most}
use Rattle.grown.specs.Good.{Good, Fits}
use Rattle.grown.specs.Claims.{Limited}
use Rattle.grown.proofs.Short.{in_form_short}
use Rattle.grown.proofs.Ranges.{next_in_range_lem, good_back, good_in_form, good_whole}
use Rattle.grown.proofs.Grows.{State, steps, grown_state, state_grown, whole_limited}
use Rattle.certified.specs.Certified.{nexts_in_range, in_plane, certified, certifies}
use Rattle.certified.specs.Claims.{CertifiesIff, CertifiedGrows, CertifiedStays, GrownCertified}
use Rattle.certified.proofs.Certified.{nexts_are, certified_good, good_plane}

module _ (l : Lent) (h : in_form l ≡ true) where
  r : Ranged l
  r = ranged_is l (in_form_is l h).ranged

  -- as many rows as the head says
  fits : Fits (sizes_of l) (map_of l)
  unfolding map_of
  fits = record {
    nodes = omega (
      arith,
      within-most _ _ l.head.nodes r.nodes,
      rows_count node_width (nat_abs l.head.nodes) l.nodes,
      length-map (node_rows l) node_of,
    );
    edges = omega (
      arith,
      within-most _ _ l.head.edges r.edges,
      rows_count edge_width (nat_abs l.head.edges) l.edges,
      length-map (edge_rows l) edge_of,
    );
    faces = omega (
      arith,
      within-most _ _ l.head.faces r.faces,
      rows_count face_width (nat_abs l.head.faces) l.faces,
      length-map (face_rows l) face_row_of,
    );
    short = in_form_short l h;
  }

  nexts : nexts_in_range (map_of l) ≡ true
  unfolding map_of
  nexts = nexts_are (map_of l) (next_in_range_lem l.head.next_node r.next_node)
      (next_in_range_lem l.head.next_edge r.next_edge) (next_in_range_lem l.head.next_face r.next_face)

  -- the map of tables in form is good if it is in the plane
  plane_good : in_plane (map_of l) ≡ true → Good (map_of l)
  unfolding certified
  plane_good p = certified_good (map_of l) (and_is (and_is (in_form_is l h).formed nexts) p)

pub certifies_iff : CertifiesIff
unfolding certifies
certifies_iff l w h = (
  λ e. plane_good l h (and-true (whole l && in_form l) (in_plane (map_of l)) e).1,
  λ g. and_is (and_is w h) (good_plane (map_of l) g),
)

-- tables that pass hold a good map that fits
record Passed (l : Lent) : Type 0 where
  limited : Limited (sizes_of l)
  state : State (sizes_of l) l

passed : (l : Lent) → certifies l ≡ true → Passed l
unfolding certifies
passed l e =
    let k = and-true (whole l && in_form l) (in_plane (map_of l)) e in
    let j = and-true (whole l) (in_form l) k.0 in
    record {
      limited = whole_limited l j.0;
      state = record {
        map = map_of l;
        good = plane_good l j.1 k.1;
        fits = fits l j.1;
        lent = sym (in_form-back l j.0 j.1);
      };
    }

state_certifies : {s : Sizes} {l : Lent} → Limited s → State s l → certifies l ≡ true
unfolding certifies
state_certifies {s} {l} h x = and_is (and_is
    (ap whole x.lent ∙ good_whole x.map x.good s x.fits h.some_face h.nodes h.edges h.faces)
    (ap in_form x.lent ∙ good_in_form x.map x.good s x.fits))
    (ap (λ k. in_plane (map_of k)) x.lent ∙ ap in_plane (good_back x.map x.good s)
    ∙ good_plane x.map x.good)

pub certified_grows : CertifiedGrows
certified_grows l h ts = state_grown (steps (sizes_of l) l ts (passed l h).state)

pub certified_stays : CertifiedStays
certified_stays l h ts = state_certifies (passed l h).limited (steps (sizes_of l) l ts (passed l h).state)

pub grown_certified : GrownCertified
grown_certified s h ts = state_certifies h (grown_state s h.some_face ts)
