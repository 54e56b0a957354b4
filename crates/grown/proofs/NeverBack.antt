-- Numbers are never given twice, on all tables and over lists of tickets (specs/Claims.antt): the numbers after a
-- ticket are read back from the tables, whose rows can hold all curves of the map. Assumes nothing.
use mathlib.Core.Path.{◌≡◌, refl, sym, ap, ◌∙◌, subst}
use mathlib.Core.Logic.{inl, inr}
use mathlib.Core.Bool.{true, not}
use mathlib.Core.List.Memᴰ
use mathlib.Core.List.{List, [], ◌∷◌, ◌++◌, map, flat_map, Memᴰ}
use mathlib.Core.Option.{Option, none, some}
use Prim.Native.Nat.{ℕ, zero, suc, ◌+◌, ◌*◌, ◌-◌}
use native.Mathlib.Nat.{le_trans}
use native.Mathlib.Omega.{arith}
use borrow.Author.Tests.{not-false}
use lib.IntN.{ℤ, pos}
use lib.ListN.{length, replicate}
use Rattle.lists.specs.Scans.{keep}
use Rattle.lists.proofs.Keeps.{keep_in}
use Rattle.lists.proofs.Maps.{map_twice}
use Rattle.lists.proofs.Members.{all_of_lem}
use Rattle.lists.proofs.Scans.{table_in}
use Rattle.tables.proofs.Filled.{reads, rows_flat}
use Rattle.map.specs.Limits.{node_width, edge_width, face_width}
use Rattle.map.specs.Rows.{Edge, Map, Lent, Sizes, empty_map, node_of, edge_of, face_row_of, map_of, node_cells}
use Rattle.map.specs.Rows.{edge_cells, face_cells, rectangle, lent_with, lent_of, sizes_of, whole}
use Rattle.map.specs.Form.{formed, in_form}
use Rattle.map.specs.Tickets.{Ticket, read}
use Rattle.map.specs.Reasons.{first_reason, reasons}
use Rattle.map.specs.Ticket.{carried, lent_reasons, unless, judged, ticket}
use Rattle.map.specs.Grow.{after, grow}
use Rattle.map.proofs.PointLimits.{most-fits}
use Rattle.map.proofs.RoundTrip.{nodes_wide, node-back, edge-wide, faces_wide}
use Rattle.map.proofs.Reasons.{first_zero}
use Rattle.map.proofs.Laws.{in_form_is}
use Rattle.map.proofs.Linked.{within_nodes}
use Rattle.map.proofs.Facts.{after-append}
use Rattle.map_laws.proofs.RowChanges.{node_number}
use Rattle.grown.specs.Good.{Short}
use Rattle.grown.specs.Claims.{Given, NumbersGiven, GivesNumbers, NotBack, NoneBack, NeverBack, GrownNeverBack}
use Rattle.grown.specs.Claims.{node_numbers, edge_numbers}
use Rattle.grown.proofs.Law.Lawful.{formed_anchored}
use Rattle.grown.proofs.Short.{in_form_short, short_kept}
use Rattle.grown.proofs.Given.{none_given, carried-given}

-- ---- numbers read back

module _ (s : Sizes) (m : Map) (short : Short s m) where
  nodes_back : node_numbers (map_of (lent_of s m)) ≡ node_numbers m
  unfolding map_of lent_with
  nodes_back = ap (map node_number) (reads node_width node_cells node_of m.nodes
      (replicate (s.nodes * node_width - length (flat_map node_cells m.nodes)) (pos 0)) (nodes_wide m.nodes)
      (λ n k. node-back n))

  edges_back : edge_numbers (map_of (lent_of s m)) ≡ edge_numbers m
  unfolding map_of lent_with edge_of edge_cells
  edges_back =
      ap (λ (rs : List (List ℤ)). map (λ (e : Edge). e.number) (map edge_of rs))
      (rows_flat edge_width edge_cells m.edges
      (replicate (s.edges * edge_width - length (flat_map edge_cells m.edges)) (pos 0))
      (all_of_lem m.edges (λ e k. edge-wide e (le_trans (short e k) (most-fits s.limit)))))
      ∙ ap (map (λ (e : Edge). e.number))
      (map_twice edge_of edge_cells (λ e. edge_of (edge_cells e)) m.edges (λ e k. refl))
      ∙ map_twice (λ (e : Edge). e.number) (λ e. edge_of (edge_cells e)) (λ e. e.number) m.edges (λ e k. refl)

  faces_back : (map_of (lent_of s m)).faces ≡ m.faces
  unfolding map_of lent_with
  faces_back =
      let box = rectangle m.edges in
      reads face_width (face_cells box) face_row_of m.faces
      (replicate (s.faces * face_width - length (flat_map (face_cells box) m.faces)) (pos 0))
      (faces_wide box m.faces) (λ f k. refl)

  next-back : (map_of (lent_of s m)).next ≡ m.next
  unfolding map_of lent_with
  next-back = refl

  given_back : (m₀ : Map) → NumbersGiven m₀ m → NumbersGiven m₀ (map_of (lent_of s m))
  given_back m₀ g = rw (next-back) (record {
    nodes = subst (λ (ns : List ℕ). Given (node_numbers m₀) m₀.next.nodes ns m.next.nodes) (sym nodes_back)
        g.nodes;
    edges = subst (λ (es : List ℕ). Given (edge_numbers m₀) m₀.next.edges es m.next.edges) (sym edges_back)
        g.edges;
    faces = subst (λ (fs : List ℕ). Given m₀.faces m₀.next.faces fs m.next.faces) (sym faces_back)
        g.faces;
  })

-- ---- every ticket, on all tables

module _ (l : Lent) (form : in_form l ≡ true) where
  is_formed : formed (map_of l) ≡ true
  is_formed = (in_form_is l form).formed

  carried-numbers : (t : Ticket) → first_reason (reasons (sizes_of l) (map_of l) t) ≡ 0
      → NumbersGiven (map_of l) (map_of (lent_of (sizes_of l) (carried (map_of l) t).0))
  carried-numbers t h =
      given_back (sizes_of l) (carried (map_of l) t).0
      (short_kept (sizes_of l) (map_of l) (within_nodes (map_of l) is_formed) (formed_anchored (map_of l) is_formed)
      (in_form_short l form) t h) (map_of l) (carried-given (map_of l) t)

pub gives_numbers : GivesNumbers
unfolding ticket
gives_numbers l t = judge (read t)
  where
    carry : (k : Ticket) (n : ℕ) → first_reason (lent_reasons l ++ reasons (sizes_of l) (map_of l) k) ≡ n
        → NumbersGiven (map_of l) (map_of (unless l n (carried (map_of l) k)).lent)
    carry k zero h =
        let h₁ = first_zero 1 (not (whole l)) _ (omega arith) h in
        let h₂ = first_zero 2 (not (in_form l)) (reasons (sizes_of l) (map_of l) k) (omega arith) h₁.1 in
        carried-numbers l (not-false (in_form l) h₂.0) k h₂.1
    carry k (suc n) h = none_given (map_of l)

    judge : (o : Option Ticket) → NumbersGiven (map_of l) (map_of (judged l (map_of l) o).lent)
    judge none = none_given (map_of l)
    judge (some k) = carry k _ refl

-- ---- over lists

given-not-back : {before after : List ℕ} {next then : ℕ} → Given before next after then → NotBack before next after then
given-not-back {before} {next = next} {then} g = record {
  rises = g.rises;
  old = λ n low k. elim (Memᴰ.append_cases (keep g.stays before) (subst (Memᴰ n) g.numbers k)) [
    | inl j ↦ (keep_in g.stays before j).0
    | inr j ↦ let w = table_in (λ i. i) next (then - next) j in absurd (omega (arith, w.1, w.3))
  ];
}

not-back-join : {a b c : List ℕ} {i j k : ℕ} → NotBack a i b j → NotBack b j c k → NotBack a i c k
not-back-join x y = record {
  rises = omega (arith, x.rises, y.rises);
  old = λ n low k. x.old n low (y.old n (omega (arith, x.rises)) k);
}

given_none_back : {m m' : Map} → NumbersGiven m m' → NoneBack m m'
given_none_back g = record {
  nodes = given-not-back g.nodes;
  edges = given-not-back g.edges;
  faces = given-not-back g.faces;
}

none_back_join : {a b c : Map} → NoneBack a b → NoneBack b c → NoneBack a c
none_back_join x y = record {
  nodes = not-back-join x.nodes y.nodes;
  edges = not-back-join x.edges y.edges;
  faces = not-back-join x.faces y.faces;
}

pub never_back : NeverBack
unfolding after
never_back l [] = given_none_back (none_given (map_of l))
never_back l (t ∷ ts) = none_back_join (given_none_back (gives_numbers l t)) (never_back (ticket l t).lent ts)

pub grown_never_back : GrownNeverBack
unfolding grow
grown_never_back s ts us =
    let l = lent_of s empty_map in
    subst (λ (x : Lent). NoneBack (map_of (after l ts).lent) (map_of x))
    (ap (λ g. g.lent) (sym (after-append l ts us))) (never_back (after l ts).lent us)
