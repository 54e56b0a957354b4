-- No ticket leaves a curve with more points than the map was created for; so what fits still fits after it. Assumes
-- nothing.
use mathlib.Core.Path.{◌≡◌, sym, ◌∙◌, subst}
use mathlib.Core.Bool.{true, cond, not}
use mathlib.Core.List.Memᴰ
use mathlib.Core.List.{List, [], ◌∷◌, ◌++◌, map, append_assoc, Memᴰ}
use Prim.Native.Nat.{ℕ, ◌+◌, ◌≤◌}
use native.Mathlib.Omega.{arith}
use lib.IntN.{nat_abs}
use lib.ListN.{length}
use Rattle.lists.specs.Tests.{same}
use Rattle.lists.proofs.Bools.{cond_has}
use Rattle.lists.proofs.Keeps.{keep_in}
use Rattle.lists.proofs.Members.{each_last}
use Rattle.planar_maps.specs.Pieces.{Within}
use Rattle.plane.specs.declared.Point.{Point}
use Rattle.curves.specs.Curves.{points, point}
use Rattle.curves.specs.Edits.{front, back}
use Rattle.map.specs.declared.Variant.{Variant}
use Rattle.map.specs.declared.Variant.TheVariants.{New, Mod}
use Rattle.map.specs.Limits.{most_points}
use Rattle.map.specs.Rows.{Edge, Map, Lent, Sizes, map_of, sizes_of, edge}
use Rattle.map.specs.Darts.{arcs}
use Rattle.map.specs.Form.{in_form}
use Rattle.map.specs.Tickets.{Ticket, AddIsoNode, MoveIsoNode, RemoveIsoNode, AddIsoEdge, RemoveIsoEdge, ChangeEdgeGeom}
use Rattle.map.specs.Tickets.{NewEdgesSplit, ModEdgeSplit, NewEdgeHeal, ModEdgeHeal, AddEdgeNewFaces, AddEdgeModFace}
use Rattle.map.specs.Tickets.{RemEdgeNewFace, RemEdgeModFace}
use Rattle.map.specs.Reasons.{first_reason, reasons, curve_in}
use Rattle.map.specs.Ticket.{carried}
use Rattle.map.proofs.RoundTrip.{recorded_curves}
use Rattle.map.proofs.Laws.{in_form_is, edge_there_lem}
use Rattle.map_laws.proofs.Reasons.{Split}
use Rattle.map_laws.proofs.Readings.{without}
use Rattle.map_laws.proofs.RowChanges.{node_number}
use Rattle.grown.specs.Good.{Good, Anchored, Short, Fits}
use Rattle.grown.proofs.Numbers.Carried.{room_kept}
use Rattle.grown.proofs.Curves.Survey.{Line, line_of, lines, line_number}
use Rattle.grown.proofs.Curves.Rows.{redrawn, add_iso_node_becomes, move_iso_node_becomes, remove_iso_node_becomes}
use Rattle.grown.proofs.Curves.Rows.{add_iso_edge_becomes, remove_iso_edge_becomes, change_edge_geom_becomes}
use Rattle.grown.proofs.Curves.Rows.{add_edge_becomes, remove_edge_becomes}
use Rattle.grown.proofs.Curves.Ends.{halves_few}
use Rattle.grown.proofs.Curves.Cut.{first_half, second_half}
use Rattle.grown.proofs.Curves.Halves.{healed_row, split_new_becomes, split_mod_becomes, heal_new_becomes}
use Rattle.grown.proofs.Curves.Halves.{heal_mod_becomes}
use Rattle.grown.proofs.Law.Lawful.{good_lawful}
use Rattle.grown.proofs.Law.Split.{off_ends}
use Rattle.map_laws.proofs.Reasons as facts

-- ---- the lines after a ticket

module _ (s : Sizes) where
  abbrev FewPoints : Line → Type 0
  FewPoints l = length (points l.curve) ≤ most_points s.limit

  abbrev Few : List Line → Type 0
  Few ls = (l : Line) → Memᴰ l ls → FewPoints l

  module _ {ls : List Line} (few : Few ls) where
    few_less : (e : ℕ) → Few (without line_number e ls)
    few_less e l k = few l (keep_in (λ r. not (same r.number e)) ls k).0

    few_more : (x : Line) → FewPoints x → Few (ls ++ x ∷ [])
    few_more x h = each_last ls few h

    few_at : (e : ℕ) (f : Line → Line) → ((l : Line) → FewPoints (f l))
        → Few (map (λ l. cond (same l.number e) (f l) l) ls)
    few_at e f h l k =
        let x = Memᴰ.of_map (λ r. cond (same r.number e) (f r) r) ls k in
        subst FewPoints x.2 (cond_has FewPoints (same x.0.number e) (h x.0) (few x.0 x.1))

  module _ (m : Map) (within : Within (map node_number m.nodes) (arcs m))
      (anchored : (r : Edge) → Memᴰ r m.edges → Anchored m r) (short : Short s m) where
    few : Few (lines m)
    few l k = let e = Memᴰ.of_map line_of m.edges k in subst FewPoints e.2 (short e.0 e.1)

    few_halves : (how : Variant) (e : ℕ) (p : Point) → Split how s m e p
        → (length (points (front p (edge m e).curve)) ≤ most_points s.limit)
        × (length (points (back p (edge m e).curve)) ≤ most_points s.limit)
    few_halves how e p h =
        let row = (edge_there_lem m e h.has).0 in
        let most = short (edge m e) row in
        let off = off_ends m p h.free within row (anchored (edge m e) row) in
        let k = halves_few p (edge m e).curve off.0 off.1 h.on in
        let k₀ = k.0 in
        let k₁ = k.1 in
        (omega arith, omega arith)

    carried_few : (t : Ticket) → first_reason (reasons s m t) ≡ 0 → Few (lines (carried m t).0)
    unfolding carried
    carried_few (AddIsoNode f x y) h = subst Few (sym (add_iso_node_becomes (point x y) m).lines) few
    carried_few (MoveIsoNode n x y) h = subst Few (sym (move_iso_node_becomes (nat_abs n) (point x y) m).lines) few
    carried_few (RemoveIsoNode n) h = subst Few (sym (remove_iso_node_becomes (nat_abs n) m).lines) few
    carried_few (AddIsoEdge u v c) h =
        subst Few (sym (add_iso_edge_becomes (nat_abs u) (nat_abs v) (curve_in c) m).lines)
        (few_more few _ (facts.add_lone_few s m u v c h))
    carried_few (RemoveIsoEdge e) h =
        subst Few (sym (remove_iso_edge_becomes (nat_abs e) m).lines) (few_less few (nat_abs e))
    carried_few (ChangeEdgeGeom e c) h =
        subst Few (sym (change_edge_geom_becomes (nat_abs e) (curve_in c) m).lines)
        (few_at few (nat_abs e) (redrawn (curve_in c)) (λ l. facts.change_few s m e c h))
    carried_few (NewEdgesSplit e x y) h =
        let k = few_halves New (nat_abs e) (point x y) (facts.split_new s m e x y h) in
        let a = first_half (line_of (edge m (nat_abs e))) m.next.nodes m.next.edges (point x y) in
        let b = second_half (line_of (edge m (nat_abs e))) m.next.nodes (m.next.edges + 1) (point x y) in
        subst Few (append_assoc (without line_number (nat_abs e) (lines m)) (a ∷ []) (b ∷ [])
        ∙ sym (split_new_becomes (nat_abs e) (point x y) m).lines)
        (few_more (few_more (few_less few (nat_abs e)) a k.0) b k.1)
    carried_few (ModEdgeSplit e x y) h =
        let k = few_halves Mod (nat_abs e) (point x y) (facts.split-mod s m e x y h) in
        subst Few (sym (split_mod_becomes (nat_abs e) (point x y) m).lines)
        (few_more (few_at few (nat_abs e)
        (λ l. first_half (line_of (edge m (nat_abs e))) m.next.nodes (nat_abs e) (point x y)) (λ l. k.0)) _ k.1)
    carried_few (NewEdgeHeal e f) h =
        subst Few (sym (heal_new_becomes (nat_abs e) (nat_abs f) m).lines)
        (few_more (few_less (few_less few (nat_abs f)) (nat_abs e)) _ (facts.heal_new_few s m e f h))
    carried_few (ModEdgeHeal e f) h =
        subst Few (sym (heal_mod_becomes (nat_abs e) (nat_abs f) m).lines)
        (few_less (few_at few (nat_abs e) (λ l. healed_row (nat_abs e) (nat_abs e) (nat_abs f) m)
        (λ l. facts.heal_mod_few s m e f h)) (nat_abs f))
    carried_few (AddEdgeNewFaces u v c) h =
        subst Few (sym (add_edge_becomes New (nat_abs u) (nat_abs v) (curve_in c) m).lines)
        (few_more few _ (facts.add_new_few s m u v c h))
    carried_few (AddEdgeModFace u v c) h =
        subst Few (sym (add_edge_becomes Mod (nat_abs u) (nat_abs v) (curve_in c) m).lines)
        (few_more few _ (facts.add_mod_few s m u v c h))
    carried_few (RemEdgeNewFace e) h = subst Few (sym (remove_edge_becomes New (nat_abs e) m).lines)
        (few_less few (nat_abs e))
    carried_few (RemEdgeModFace e) h = subst Few (sym (remove_edge_becomes Mod (nat_abs e) m).lines)
        (few_less few (nat_abs e))

    -- all curves are short if all were
    pub short_kept : (t : Ticket) → first_reason (reasons s m t) ≡ 0 → Short s (carried m t).0
    short_kept t h e k = carried_few t h (line_of e) (Memᴰ.map line_of k)

-- ---- maps in form, and good ones

pub in_form_short : (l : Lent) → in_form l ≡ true → Short (sizes_of l) (map_of l)
in_form_short l form e k = (recorded_curves l (in_form_is l form).ranged e k).most

pub fits_kept : (s : Sizes) (m : Map) → Good m → (t : Ticket) → first_reason (reasons s m t) ≡ 0 → Fits s m
    → Fits s (carried m t).0
fits_kept s m g t h f =
    let L = good_lawful m g in
    let r = room_kept s m g t h f in
    record {
      nodes = omega (arith, r.nodes);
      edges = omega (arith, r.edges);
      faces = omega (arith, r.faces);
      short = short_kept s m L.within L.anchored f.short t h;
    }
