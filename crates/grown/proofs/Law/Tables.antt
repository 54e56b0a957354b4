-- A ticket keeps the law in the tables: what the map after it comes to is read back from them. Assumes nothing.
use mathlib.Core.Path.{◌≡◌, refl, sym, ap, ◌∙◌, subst}
use mathlib.Core.Bool.{true, not}
use mathlib.Core.List.Memᴰ
use mathlib.Core.List.{List, [], ◌∷◌, ◌++◌, append-nil, append_assoc, Memᴰ}
use mathlib.Core.Option.{Option, none, some}
use Prim.Native.Nat.{ℕ, zero, suc, ◌+◌, ◌-◌, ◌≤◌}
use native.Mathlib.Nat.{le_trans, add-zero}
use native.Mathlib.Omega.{arith}
use borrow.Author.Tests.{not-false}
use lib.IntN.{ℤ}
use Rattle.lists.specs.Members.{Distinct}
use Rattle.lists.specs.Scans.{keep}
use Rattle.lists.specs.Tables.{table}
use Rattle.lists.proofs.Rising.{Rising, rising_distinct, rising_append, rising_keep}
use Rattle.planar_maps.specs.Map.{Dart, fwd, bwd, rev}
use Rattle.planar_maps.specs.Pieces.{nums}
use Rattle.planar_maps.specs.Rings.{same_dart}
use Rattle.planar_maps.proofs.Rings.{rev_in}
use Rattle.planar_maps.proofs.Turns.{rev-rev}
use Rattle.tables.proofs.Tests.{within-least}
use Rattle.rotation.specs.Law.{from}
use Rattle.rotation.proofs.Node.{lawful_in}
use Rattle.map.specs.Limits.{last_number}
use Rattle.map.specs.Rows.{Edge, Map, Lent, Sizes, edge, rectangle, map_of, lent_of, sizes_of, whole}
use Rattle.map.specs.Darts.{arcs, directed, leaves, next, way}
use Rattle.map.specs.Links.{obeys_law}
use Rattle.map.specs.Form.{in_form}
use Rattle.map.specs.Tickets.{Ticket, read}
use Rattle.map.specs.Reasons.{first_reason, reasons}
use Rattle.map.specs.Ticket.{carried, lent_reasons, unless, judged, ticket}
use Rattle.map.proofs.PointLimits.{most-fits}
use Rattle.map.proofs.RoundTrip.{Holds, reads_back, ranged_is}
use Rattle.map.proofs.Reasons.{first_zero}
use Rattle.map.proofs.Laws.{formed_is, in_form_is, in_form-points, edge_there_lem}
use Rattle.map_laws.proofs.Readings.{number_of, nums-rows, next_row, edge_at, row_has, has_dart, dart_has}
use Rattle.map_laws.proofs.Departures.{from_in, from_has}
use Rattle.grown.specs.Good.{Short}
use Rattle.grown.specs.Claims.{Given, edge_numbers}
use Rattle.grown.proofs.Law.Lawful.{Obeys, Lawful, law_is, formed-lawful}
use Rattle.grown.proofs.Law.Carried.{carried_obeys}
use Rattle.grown.proofs.Given.{carried-given}
use Rattle.grown.proofs.Short.{in_form_short, short_kept}

-- ---- the numbers of the edges after a ticket

-- some of the numbers that were there, and then the next ones
given_rising : {before after : List ℕ} {next then : ℕ} → 1 ≤ next → Rising 1 next before → Given before next after then
    → Rising 1 then after
given_rising {before} {after} {next} {then} low r g =
    let k = then - next in
    let e : next + k ≡ then = omega (arith, g.rises) in
    subst (λ (n : ℕ). Rising 1 n after) e (subst (Rising 1 (next + k)) (sym g.numbers)
    (more k next (keep g.stays before) low (rising_keep 1 next g.stays before r)))
  where
    more : (k n : ℕ) (ns : List ℕ) → 1 ≤ n → Rising 1 n ns → Rising 1 (n + k) (ns ++ table (λ i. i) n k)
    more zero n ns low r = rw (append-nil ns, add-zero n) r
    more (suc k) n ns low r =
        let next : n + 1 + k ≡ n + suc k = omega arith in
        subst (λ (i : ℕ). Rising 1 i (ns ++ table (λ i. i) n (suc k))) next
        (subst (Rising 1 (n + 1 + k)) (append_assoc ns (n ∷ []) (table (λ i. i) (n + 1) k))
        (more k (n + 1) (ns ++ n ∷ []) (omega arith) (rising_append 1 n ns low r)))

-- ---- a map with such numbers that obeys the law is read back

module _ (m : Map) (law : Obeys m) {N : ℕ} (rising : Rising 1 N (edge_numbers m)) (s : Sizes) (short : Short s m) where
  once_arcs : Distinct (nums (arcs m))
  once_arcs = subst Distinct (sym (nums-rows m)) (rising_distinct (edge_numbers m) rising.rises)

  -- a link names an edge from 1 on
  links : (d : Dart) → Memᴰ d (directed m) → 1 ≤ (next m d).edge
  links d k =
      let row = edge_there_lem m (next m d).edge (dart_has m in_next) in
      let least = (rising.bounds (edge m (next m d).edge).number (Memᴰ.map number_of row.0)).0 in
      let n = row.1 in
      omega arith
    where
      stays : Memᴰ (next m (rev (rev d))) (from (leaves m) (directed m) (leaves m (rev d)))
      stays =
          let at = from_has (leaves m) (directed m) (leaves m (rev d)) (rev_in (arcs m) k) refl in
          subst (λ (c : Dart). Memᴰ c (from (leaves m) (directed m) (leaves m (rev d))))
          (sym (law (leaves m (rev d)) (rev d) at))
          (lawful_in (way m) same_dart (from (leaves m) (directed m) (leaves m (rev d))) (rev d) at)

      in_next : Memᴰ (next m d) (directed m)
      in_next = subst (λ (c : Dart). Memᴰ (next m c) (directed m)) (rev-rev d)
          (from_in (leaves m) (directed m) (leaves m (rev d)) stays).0

  holds : (r : Edge) → Memᴰ r m.edges → Holds r
  holds r k =
      let at : edge m r.number ≡ r = edge_at m once_arcs k in
      let p = links (fwd r.number) (has_dart m (fwd r.number) (row_has m k)) in
      let q = links (bwd r.number) (has_dart m (bwd r.number) (row_has m k)) in
      let left = ap (λ (d : Dart). d.edge) (next_row m (fwd r.number) ∙ ap (λ (x : Edge). x.next_left) at) in
      let right = ap (λ (d : Dart). d.edge) (next_row m (bwd r.number) ∙ ap (λ (x : Edge). x.next_right) at) in
      let few = le_trans (short r k) (most-fits s.limit) in
      record { few = few; left = λ b z. omega arith; right = λ b z. omega arith }

  lawful-back : map_of (lent_of s m) ≡ m
  lawful-back = reads_back (rectangle m.edges) s m holds

-- ---- the theorem

module _ (l : Lent) (form : in_form l ≡ true) (law : obeys_law (map_of l) ≡ true) where
  in_form-lawful : Lawful (map_of l)
  in_form-lawful = formed-lawful (map_of l) (in_form_is l form).formed (λ r k. (in_form-points l form r k).least) law

  first_edge : 1 ≤ (map_of l).next.edges
  unfolding map_of
  first_edge = within-least 1 (suc last_number) l.head.next_edge
      (ranged_is l (in_form_is l form).ranged).next_edge

  carried-lawful : (t : Ticket) → first_reason (reasons (sizes_of l) (map_of l) t) ≡ 0
      → obeys_law (map_of (lent_of (sizes_of l) (carried (map_of l) t).0)) ≡ true
  carried-lawful t h =
      let obeys = carried_obeys (sizes_of l) (map_of l) in_form-lawful t h in
      let before = (formed_is (map_of l) (in_form_is l form).formed).numbers.edges.rising in
      let rising = given_rising first_edge before (carried-given (map_of l) t).edges in
      let L = in_form-lawful in
      let short = short_kept (sizes_of l) (map_of l) L.within L.anchored (in_form_short l form) t h in
      ap obeys_law (lawful-back (carried (map_of l) t).0 obeys rising (sizes_of l) short)
      ∙ law_is (carried (map_of l) t).0 obeys

-- after every ticket, carried out or turned down, all links obey the law, given that they did before; whatever the
-- tables
pub ticket-lawful : (l : Lent) (t : List ℤ) → obeys_law (map_of l) ≡ true → obeys_law (map_of (ticket l t).lent) ≡ true
unfolding ticket
ticket-lawful l t law = judge (read t)
  where
    carry : (k : Ticket) (n : ℕ) → first_reason (lent_reasons l ++ reasons (sizes_of l) (map_of l) k) ≡ n
        → obeys_law (map_of (unless l n (carried (map_of l) k)).lent) ≡ true
    carry k zero h =
        let h₁ = first_zero 1 (not (whole l)) _ (omega arith) h in
        let h₂ = first_zero 2 (not (in_form l)) (reasons (sizes_of l) (map_of l) k) (omega arith) h₁.1 in
        carried-lawful l (not-false (in_form l) h₂.0) law k h₂.1
    carry k (suc n) h = law

    judge : (o : Option Ticket) → obeys_law (map_of (judged l (map_of l) o).lent) ≡ true
    judge none = law
    judge (some k) = carry k _ refl
