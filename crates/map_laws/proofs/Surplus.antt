-- Surplus points dropped (specs/Claims.antt): what is left of a curve, that sending it instead comes to the same, and
-- that tickets which did not get 6 before have the outcome that they had. Assumes nothing.
use mathlib.Core.Path.{◌≡◌, refl, sym, ap, ◌∙◌}
use mathlib.Core.Bool.{Bool, true, false, cond, not, ◌||◌}
use mathlib.Core.List.{List, ◌∷◌, ◌++◌}
use mathlib.Core.Logic.{◌≢◌, inl, inr}
use mathlib.Core.Option.{Option, none, some}
use Prim.Native.Nat.{ℕ}
use lib.IntN.{ℤ, pos, nat_abs}
use Rattle.lists.proofs.Bools.{which, or-false, agree}
use Rattle.curves.specs.Curves.{Curve, curve_of, is_run_to}
use Rattle.curves.specs.Tests.{neighbours_differ, straight_inside, is_simple}
use Rattle.curves.specs.Edits.{without_surplus}
use Rattle.geometry.proofs.Thinning.{surplus_points, surplus_last, surplus_bent, surplus_given, surplus_fewer}
use Rattle.geometry.proofs.Thinning.{surplus_none, surplus_differs, surplus_simple, surplus_once}
use Rattle.map.specs.declared.Variant.{Variant}
use Rattle.map.specs.declared.Variant.TheVariants.{New, Mod}
use Rattle.map.specs.Limits.{most_points}
use Rattle.map.specs.Rows.{Map, Lent, Sizes, map_of, sizes_of, whole}
use Rattle.map.specs.Form.{in_form}
use Rattle.map.specs.Tickets.{Ticket, AddIsoNode, MoveIsoNode, RemoveIsoNode, AddIsoEdge, RemoveIsoEdge}
use Rattle.map.specs.Tickets.{ChangeEdgeGeom, NewEdgesSplit, ModEdgeSplit, NewEdgeHeal, ModEdgeHeal}
use Rattle.map.specs.Tickets.{AddEdgeNewFaces, AddEdgeModFace, RemEdgeNewFace, RemEdgeModFace, read}
use Rattle.map.specs.Edits.{add_iso_edge, change_edge_geom, add_edge}
use Rattle.map.specs.Reasons.{Reasons, first_reason, reasons, no_node, no_edge, bad_curve, curve_in, curve_ticket_reasons}
use Rattle.map.specs.Reasons.{add_iso_edge_reasons, change_geom_reasons, add_edge_reasons}
use Rattle.map.specs.Ticket.{Outcome, unless, lent_reasons, carried, judged, ticket}
use Rattle.map.proofs.Reasons.{first_hit, first_miss}
use Rattle.map.proofs.RoundTrip.{curve-back, run_stored, stored_run}
use Rattle.map.proofs.Surplus.{surplus_stored}
use Rattle.map_laws.specs.Before.{curve_ticket_reasons_before, rule_before, judged_before, ticket_before}
use Rattle.map_laws.specs.Claims.{SurplusDropped, SurplusAlike, SameOutcome, numbers_left}

-- ---- what is left

pub surplus_dropped : SurplusDropped
surplus_dropped c = record {
  spots = surplus_points c;
  first = refl;
  last = surplus_last c;
  bent = surplus_bent c;
  given = surplus_given c;
  fewer = surplus_fewer c;
  none = surplus_none c;
  differ = surplus_differs c;
  simple = λ n. let k = surplus_simple c n in agree (is_simple (without_surplus c)) (is_simple c) k.0 k.1;
}

-- ---- the kinds that draw a curve

-- whether a named row is missing, the reasons from 7 on, and the edit with its value
record Drawing : Type 0 where
  missing : Bool
  rest : Curve → Reasons
  edit : Curve → Map × ℤ

abbrev lone : Sizes → Map → ℤ → ℤ → Drawing
lone s m u v = record {
  missing = no_node m u || no_node m v;
  rest = add_iso_edge_reasons s m (nat_abs u) (nat_abs v);
  edit = λ c. (add_iso_edge (nat_abs u) (nat_abs v) c m, pos m.next.edges);
}

abbrev redrawn : Map → ℤ → Drawing
redrawn m e = record {
  missing = no_edge m e;
  rest = change_geom_reasons m (nat_abs e);
  edit = λ c. (change_edge_geom (nat_abs e) c m, pos 0);
}

abbrev added : Variant → Sizes → Map → ℤ → ℤ → Drawing
added how s m u v = record {
  missing = no_node m u || no_node m v;
  rest = add_edge_reasons how s m (nat_abs u) (nat_abs v);
  edit = λ c. (add_edge how (nat_abs u) (nat_abs v) c m, pos m.next.edges);
}

-- ---- what is left, sent instead

module _ (s : Sizes) (sent : List ℤ) (run : is_run_to (most_points s.limit) sent ≡ true) where
  same-run : is_run_to (most_points s.limit) (numbers_left sent) ≡ is_run_to (most_points s.limit) sent
  same-run = stored_run (surplus_stored (run_stored sent run)) ∙ sym run

  same_differ : neighbours_differ (curve_of (numbers_left sent)) ≡ neighbours_differ (curve_of sent)
  same_differ = ap neighbours_differ (curve-back (curve_in sent)) ∙ surplus_differs (curve_of sent)

  same_left : curve_in (numbers_left sent) ≡ curve_in sent
  same_left = ap without_surplus (curve-back (curve_in sent)) ∙ surplus_once (curve_of sent)

  alike : (d : Drawing)
      → (curve_ticket_reasons s d.missing (numbers_left sent) d.rest
      ≡ curve_ticket_reasons s d.missing sent d.rest)
      × (d.edit (curve_in (numbers_left sent)) ≡ d.edit (curve_in sent))
  alike d = (
    (λ i. (4, d.missing) ∷ (5, not (same-run i)) ∷ (6, not (same_differ i)) ∷ d.rest (same_left i)),
    ap d.edit same_left,
  )

pub surplus_alike : SurplusAlike
unfolding reasons carried
surplus_alike = record {
  add-isolated = λ u v s m sent run. alike s sent run (lone s m u v);
  change = λ e s m sent run. alike s sent run (redrawn m e);
  add_new = λ u v s m sent run. alike s sent run (added New s m u v);
  add-mod = λ u v s m sent run. alike s sent run (added Mod s m u v);
}

-- ---- the rule before

module _ (l : Lent) where
  -- 1, 2, 4 and 5, which both rules have, and what follows them
  after : (b₁ b₂ b₄ b₅ : Bool) (x y : ℕ) (c d : Map × ℤ)
      → ((unless l y d).answer.refusal ≢ 6 → unless l x c ≡ unless l y d)
      → (unless l (cond b₁ 1 (cond b₂ 2 (cond b₄ 4 (cond b₅ 5 y)))) d).answer.refusal ≢ 6
      → unless l (cond b₁ 1 (cond b₂ 2 (cond b₄ 4 (cond b₅ 5 x)))) c
      ≡ unless l (cond b₁ 1 (cond b₂ 2 (cond b₄ 4 (cond b₅ 5 y)))) d
  after true b₂ b₄ b₅ x y c d k h = refl
  after false true b₄ b₅ x y c d k h = refl
  after false false true b₅ x y c d k h = refl
  after false false false true x y c d k h = refl
  after false false false false x y c d k h = k h

  -- 6 before, where it does not hold: no point is surplus
  module _ (sent : List ℤ) (d : Drawing) where
    abbrev equal : Bool
    equal = not (neighbours_differ (curve_of sent))

    abbrev given : ℕ → Outcome
    given r = unless l r (d.edit (curve_of sent))

    from_six : (given (first_reason ((6, equal || straight_inside (curve_of sent)) ∷ d.rest (curve_of sent)))
        ).answer.refusal ≢ 6
        → unless l (first_reason ((6, equal) ∷ d.rest (curve_in sent))) (d.edit (curve_in sent))
        ≡ given (first_reason ((6, equal || straight_inside (curve_of sent)) ∷ d.rest (curve_of sent)))
    from_six h = elim (which (equal || straight_inside (curve_of sent))) [
      | inl e ↦ absurd (h (ap (λ (r : ℕ). (given r).answer.refusal) (first_hit 6 _ (d.rest (curve_of sent)) e)))
      | inr e ↦ let k = or-false equal (straight_inside (curve_of sent)) e in
          ap (λ (r : ℕ). unless l r (d.edit (curve_in sent))) (first_miss 6 _ (d.rest (curve_in sent)) k.0)
          ∙ ap (λ (c : Curve). unless l (first_reason (d.rest c)) (d.edit c)) (surplus_none (curve_of sent) k.1)
          ∙ sym (ap given (first_miss 6 _ (d.rest (curve_of sent)) e))
    ]

    drawn : (given (first_reason (lent_reasons l ++ curve_ticket_reasons_before (sizes_of l) d.missing sent d.rest))
        ).answer.refusal ≢ 6
        → unless l (first_reason (lent_reasons l ++ curve_ticket_reasons (sizes_of l) d.missing sent d.rest))
        (d.edit (curve_in sent))
        ≡ given (first_reason (lent_reasons l ++ curve_ticket_reasons_before (sizes_of l) d.missing sent d.rest))
    unfolding first_reason
    drawn h =
        let bad = bad_curve (most_points (sizes_of l).limit) sent in
        after (not (whole l)) (not (in_form l)) d.missing bad _ _ _ _ from_six h

  same-judged : (m : Map) (t : Option Ticket) → (judged_before l m t).answer.refusal ≢ 6
      → judged l m t ≡ judged_before l m t
  unfolding reasons carried rule_before
  same-judged m none h = refl
  same-judged m (some (AddIsoNode f x y)) h = refl
  same-judged m (some (MoveIsoNode n x y)) h = refl
  same-judged m (some (RemoveIsoNode n)) h = refl
  same-judged m (some (AddIsoEdge u v c)) h = drawn c (lone (sizes_of l) m u v) h
  same-judged m (some (RemoveIsoEdge e)) h = refl
  same-judged m (some (ChangeEdgeGeom e c)) h = drawn c (redrawn m e) h
  same-judged m (some (NewEdgesSplit e x y)) h = refl
  same-judged m (some (ModEdgeSplit e x y)) h = refl
  same-judged m (some (NewEdgeHeal e f)) h = refl
  same-judged m (some (ModEdgeHeal e f)) h = refl
  same-judged m (some (AddEdgeNewFaces u v c)) h = drawn c (added New (sizes_of l) m u v) h
  same-judged m (some (AddEdgeModFace u v c)) h = drawn c (added Mod (sizes_of l) m u v) h
  same-judged m (some (RemEdgeNewFace e)) h = refl
  same-judged m (some (RemEdgeModFace e)) h = refl

pub same_outcome : SameOutcome
unfolding ticket ticket_before
same_outcome l t h = same-judged l (map_of l) (read t) h
