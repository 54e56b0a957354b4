-- Curves of 2 to 12 points in range: where all of a map in form are such, all are after a ticket that is carried out.
-- Assumes nothing.
use mathlib.Core.Path.{◌≡◌, refl, sym, ◌∙◌, subst}
use mathlib.Core.Bool.{true, cond, not}
use mathlib.Core.List.Memᴰ
use mathlib.Core.List.{List, [], ◌∷◌, ◌++◌, map, append_assoc, Memᴰ}
use mathlib.Core.Logic.{◌≢◌, inl, inr}
use Prim.Native.Nat.{ℕ, ◌≤◌}
use native.Mathlib.Omega.{arith}
use lib.IntN.{nat_abs}
use lib.ListN.{length}
use Rattle.lists.specs.Tests.{same}
use Rattle.lists.proofs.Bools.{cond_has}
use Rattle.lists.proofs.Keeps.{keep_in}
use Rattle.lists.proofs.Members.{each-cons, each_last}
use Rattle.lists.proofs.Lookups.{without}
use Rattle.plane.specs.declared.Point.{Point}
use Rattle.plane.specs.Points.{InRange}
use Rattle.curves.specs.Curves.{Curve, points, point, last_point, max_points}
use Rattle.curves.specs.Tests.{on_curve}
use Rattle.curves.specs.Edits.{front, back, joined}
use Rattle.geometry.specs.Meaning.{Some}
use Rattle.geometry.proofs.Cutting.{cut-place}
use Rattle.geometry.proofs.Joining.{join_alike, join-given}
use Rattle.geometry.proofs.Theorems.{on_curve_iff}
use Rattle.planar_maps.specs.Map.{Dart}
use Rattle.map.specs.declared.Variant.{Variant}
use Rattle.map.specs.declared.Variant.TheVariants.{New, Mod}
use Rattle.map.specs.Rows.{Edge, Map, Sizes, edge}
use Rattle.map.specs.Darts.{directed}
use Rattle.map.specs.Darts as darts
use Rattle.map.specs.Form.{formed}
use Rattle.map.specs.Tickets.{Ticket, AddIsoNode, MoveIsoNode, RemoveIsoNode, AddIsoEdge, RemoveIsoEdge, ChangeEdgeGeom}
use Rattle.map.specs.Tickets.{NewEdgesSplit, ModEdgeSplit, NewEdgeHeal, ModEdgeHeal, AddEdgeNewFaces, AddEdgeModFace}
use Rattle.map.specs.Tickets.{RemEdgeNewFace, RemEdgeModFace}
use Rattle.map.specs.Reasons.{first_reason, reasons, curve_in}
use Rattle.map.specs.Ticket.{carried}
use Rattle.map.specs.Edits.{parts, healed_curve}
use Rattle.map.proofs.Laws.{edge_there_lem}
use Rattle.map.proofs.Linked.{within_nodes}
use Rattle.map.proofs.RoundTrip.{StoredTo, Stored}
use Rattle.map.proofs.Surplus.{course_stored}
use Rattle.map_laws.proofs.Readings.{dart_has, course_row}
use Rattle.map_laws.proofs.Reasons.{Sent, Split, Heal}
use Rattle.map_laws.proofs.Reasons as facts
use Rattle.map_laws.proofs.Drawn.{some_rest}
use Rattle.grown.proofs.Curves.Survey.{Line, line_of, lines, line_number}
use Rattle.grown.proofs.Curves.Rows.{redrawn, add_iso_node_becomes, move_iso_node_becomes, remove_iso_node_becomes}
use Rattle.grown.proofs.Curves.Rows.{add_iso_edge_becomes, remove_iso_edge_becomes, change_edge_geom_becomes}
use Rattle.grown.proofs.Curves.Rows.{add_edge_becomes, remove_edge_becomes, new_line}
use Rattle.grown.proofs.Curves.Halves.{split_new_becomes, split_mod_becomes, heal_new_becomes, heal_mod_becomes}
use Rattle.grown.proofs.Curves.Kept.{each_halves}
use Rattle.grown.proofs.Curves.Ends.{halves_few}
use Rattle.grown.proofs.Law.Lawful.{formed_anchored}
use Rattle.grown.proofs.Law.Split.{off_ends}
use Rattle.grown.proofs.Joint.{seamed}

-- ---- curves as they are sent, cut, turned round and joined

pub sent_stored : {m : Map} {c : Curve} {u v : ℕ} → Sent m c u v → Stored c
sent_stored s = record { least = s.least; most = s.most; in_range = s.in_range }

some_two : (a : Point) (r : List Point) → Some r → 2 ≤ length (a ∷ r)
some_two a [] h = absurd h
some_two a (b ∷ r) h = omega arith

pub halves_stored : {k : ℕ} (p : Point) (c : Curve) → c.first ≢ p → last_point c ≢ p → on_curve c p ≡ true → InRange p
    → StoredTo k c → StoredTo k (front p c) × StoredTo k (back p c)
halves_stored p c n l o i d =
    let place = cut-place p c.first c.rest n l ((on_curve_iff c p).0 o) in
    let few = halves_few p c n l o in
    let most = d.most in
    let halves = each_halves InRange p c i d.in_range in (
      record {
        least = some_two c.first (front p c).rest place.some_front;
        most = omega (arith, few.0, most);
        in_range = halves.0;
      },
      record {
        least = some_two p (back p c).rest place.some_back;
        most = omega (arith, few.1, most);
        in_range = halves.1;
      },
    )

joined_stored : (c d : Curve) → Stored c → Stored d → length (points (joined c d)) ≤ max_points → Stored (joined c d)
joined_stored c d s t few = record {
  least = some_two c.first (joined c d).rest (join_alike c.first c.rest d.rest
      (some_rest c.first c.rest s.least) (some_rest d.first d.rest t.least)).some';
  most = few;
  in_range = each-cons (s.in_range c.first (Memᴰ.head refl)) (λ p k.
      elim (join-given c.first c.rest d.rest k) [
        | inl j ↦ s.in_range p (Memᴰ.tail j)
        | inr j ↦ t.in_range p (Memᴰ.tail j)
      ]);
}

-- ---- lines whose curves are such

abbrev Plotted : Line → Type 0
Plotted l = Stored l.curve

abbrev All : List Line → Type 0
All ls = (l : Line) → Memᴰ l ls → Plotted l

all_without : (e : ℕ) (ls : List Line) → All ls → All (without line_number e ls)
all_without e ls h l k = h l (keep_in (λ l. not (same l.number e)) ls k).0

all_at : (e : ℕ) (f : Line → Line) (ls : List Line) → ((l : Line) → Plotted (f l)) → All ls
    → All (map (λ l. cond (same l.number e) (f l) l) ls)
all_at e f ls n h l k =
    let x = Memᴰ.of_map (λ l. cond (same l.number e) (f l) l) ls k in
    subst Plotted x.2 (cond_has Plotted (same x.0.number e) (n x.0) (h x.0 x.1))

module _ (s : Sizes) (m : Map) (h : formed m ≡ true)
    (old : (e : Edge) → Memᴰ e m.edges → Stored e.curve) where
  all_old : All (lines m)
  all_old l k = let e = Memᴰ.of_map line_of m.edges k in subst Plotted e.2 (old e.0 e.1)

  all_more : {c : Curve} (e u v : ℕ) → Stored c → All (lines m ++ new_line e u v c ∷ [])
  all_more e u v n = each_last {R = Plotted} (lines m) all_old n

  -- kinds 7 and 8
  halves : (how : Variant) (e : ℕ) (p : Point) → Split how s m e p
      → Stored (front p (edge m e).curve) × Stored (back p (edge m e).curve)
  halves how e p t =
      let row = (edge_there_lem m e t.has).0 in
      let off = off_ends m p t.free (within_nodes m h) row (formed_anchored m h (edge m e) row) in
      halves_stored p (edge m e).curve off.0 off.1 t.on t.in_range (old (edge m e) row)

  -- kinds 9 and 10
  course_in_lem : (d : Dart) → Memᴰ d (directed m) → Stored (darts.course m d)
  course_in_lem d k = subst Stored (sym (course_row m d)) (course_stored d.back (edge m d.edge).curve
      (old (edge m d.edge) (edge_there_lem m d.edge (dart_has m k)).0))

  healed : (e g : ℕ) → Heal m e g → Stored (healed_curve m e g)
  unfolding healed_curve
  healed e g t = joined_stored (darts.course m (parts m e g).0) (darts.course m (parts m e g).1)
      (course_in_lem (parts m e g).0 (seamed m e g t).first_in) (course_in_lem (parts m e g).1 (seamed m e g t).second_in)
      t.most

  by : {ks ls : List Line} → ks ≡ ls → All ls → All ks
  by q n = subst All (sym q) n

  carried_all : (t : Ticket) → first_reason (reasons s m t) ≡ 0 → All (lines (carried m t).0)
  unfolding carried
  carried_all (AddIsoNode f x y) z = by (add_iso_node_becomes (point x y) m).lines all_old
  carried_all (MoveIsoNode n x y) z = by (move_iso_node_becomes (nat_abs n) (point x y) m).lines all_old
  carried_all (RemoveIsoNode n) z = by (remove_iso_node_becomes (nat_abs n) m).lines all_old
  carried_all (AddIsoEdge u v c) z =
      by (add_iso_edge_becomes (nat_abs u) (nat_abs v) (curve_in c) m).lines
      (all_more _ _ _ (sent_stored (facts.add-lone s m u v c z).sent))
  carried_all (RemoveIsoEdge e) z =
      by (remove_iso_edge_becomes (nat_abs e) m).lines (all_without (nat_abs e) (lines m) all_old)
  carried_all (ChangeEdgeGeom e c) z =
      by (change_edge_geom_becomes (nat_abs e) (curve_in c) m).lines
      (all_at (nat_abs e) (redrawn (curve_in c)) (lines m) (λ l. sent_stored (facts.change s m e c z).sent) all_old)
  carried_all (NewEdgesSplit e x y) z =
      let n = halves New (nat_abs e) (point x y) (facts.split_new s m e x y z) in
      let rest = without line_number (nat_abs e) (lines m) in
      by ((split_new_becomes (nat_abs e) (point x y) m).lines ∙ sym (append_assoc rest (_ ∷ []) (_ ∷ [])))
      (each_last {R = Plotted} (rest ++ _ ∷ [])
      (each_last {R = Plotted} rest (all_without (nat_abs e) (lines m) all_old) n.0) n.1)
  carried_all (ModEdgeSplit e x y) z =
      let n = halves Mod (nat_abs e) (point x y) (facts.split-mod s m e x y z) in
      by (split_mod_becomes (nat_abs e) (point x y) m).lines
      (each_last {R = Plotted} _ (all_at (nat_abs e) (λ l. _) (lines m) (λ l. n.0) all_old) n.1)
  carried_all (NewEdgeHeal e g) z =
      by (heal_new_becomes (nat_abs e) (nat_abs g) m).lines
      (each_last {R = Plotted} _ (all_without (nat_abs e) (without line_number (nat_abs g) (lines m))
      (all_without (nat_abs g) (lines m) all_old))
      (healed (nat_abs e) (nat_abs g) (facts.heal_new s m e g z).0))
  carried_all (ModEdgeHeal e g) z =
      by (heal_mod_becomes (nat_abs e) (nat_abs g) m).lines
      (all_without (nat_abs g) _ (all_at (nat_abs e) (λ l. _) (lines m)
      (λ l. healed (nat_abs e) (nat_abs g) (facts.heal-mod s m e g z)) all_old))
  carried_all (AddEdgeNewFaces u v c) z =
      by (add_edge_becomes New (nat_abs u) (nat_abs v) (curve_in c) m).lines
      (all_more _ _ _ (sent_stored (facts.add_new s m u v c z).sent))
  carried_all (AddEdgeModFace u v c) z =
      by (add_edge_becomes Mod (nat_abs u) (nat_abs v) (curve_in c) m).lines
      (all_more _ _ _ (sent_stored (facts.add-mod s m u v c z).sent))
  carried_all (RemEdgeNewFace e) z =
      by (remove_edge_becomes New (nat_abs e) m).lines (all_without (nat_abs e) (lines m) all_old)
  carried_all (RemEdgeModFace e) z =
      by (remove_edge_becomes Mod (nat_abs e) m).lines (all_without (nat_abs e) (lines m) all_old)

pub carried_stored : (s : Sizes) (m : Map) (t : Ticket) → formed m ≡ true
    → ((e : Edge) → Memᴰ e m.edges → Stored e.curve) → first_reason (reasons s m t) ≡ 0
    → (e : Edge) → Memᴰ e (carried m t).0.edges → Stored e.curve
carried_stored s m t h old z e k = carried_all s m h old t z (line_of e) (Memᴰ.map line_of k)
