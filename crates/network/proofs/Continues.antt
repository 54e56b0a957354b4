-- An operation leaves the year as it was, and next numbers never fall. Assumes nothing.
use mathlib.Core.Path.{◌≡◌, refl, ap, ◌∙◌}
use mathlib.Core.Bool.{Bool, true, false, cond}
use mathlib.Core.List.{List, ◌++◌}
use mathlib.Core.Option.{Option, none, some}
use Prim.Native.Nat.{ℕ, zero, suc, ◌≤◌}
use native.Mathlib.Omega.{arith}
use lib.IntN.{ℤ, pos}
use Rattle.lists.proofs.Bools.{and-true}
use Rattle.map.specs.Reasons.{first_reason}
use Rattle.tables.proofs.Tests.{within-back}
use Rattle.network.specs.Rows.{Network, Lent, network_of, lent_of, sizes_of, isolated}
use Rattle.network.specs.Form.{ranged, formed, in_form}
use Rattle.network.specs.Operations.{Operation, AddNode, MoveNode, RemoveNode, AddLink, ChangeLink, RemoveLink}
use Rattle.network.specs.Operations.{NewLogLinkSplit, ModLogLinkSplit, NewGeoLinkSplit, ModGeoLinkSplit}
use Rattle.network.specs.Operations.{NewLinkHeal, ModLinkHeal, read}
use Rattle.network.specs.Edits.{add_node, move_node, remove_node, add_link, change_link, remove_link, split, cleared}
use Rattle.network.specs.Edits.{heal}
use Rattle.network.specs.Reasons.{reasons}
use Rattle.network.specs.Operation.{carried, lent_reasons, unless, judged, operation}
use Rattle.network.specs.Claims.{Formed, Continues}
use Rattle.network.proofs.RoundTrip.{ranged_is}

-- the same of networks
record Later (m m' : Network) : Type 0 where
  year : m'.year ≡ m.year
  next_node : m.next_node ≤ m'.next_node
  next_link : m.next_link ≤ m'.next_link

cleared-later : (m m' : Network) (n : ℕ) → Later m m' → Later m (cleared n m')
unfolding cleared remove_node
cleared-later m m' n h = go (isolated m' n)
  where
    go : (t : Bool) → Later m (cond t (remove_node n m') m')
    go true = record { year = h.year; next_node = h.next_node; next_link = h.next_link }
    go false = h

carried_later : (m : Network) (t : Operation) → Later m (carried m t).0
unfolding carried add_node move_node remove_node add_link change_link remove_link split heal
carried_later m (AddNode p) = record { year = refl; next_node = omega arith; next_link = omega arith }
carried_later m (MoveNode n p) = record { year = refl; next_node = omega arith; next_link = omega arith }
carried_later m (RemoveNode n) = record { year = refl; next_node = omega arith; next_link = omega arith }
carried_later m (AddLink u v c) = record { year = refl; next_node = omega arith; next_link = omega arith }
carried_later m (ChangeLink k c) = record { year = refl; next_node = omega arith; next_link = omega arith }
carried_later m (RemoveLink k) = record { year = refl; next_node = omega arith; next_link = omega arith }
carried_later m (NewLogLinkSplit k) = record { year = refl; next_node = omega arith; next_link = omega arith }
carried_later m (ModLogLinkSplit k) = record { year = refl; next_node = omega arith; next_link = omega arith }
carried_later m (NewGeoLinkSplit k x y) = record { year = refl; next_node = omega arith; next_link = omega arith }
carried_later m (ModGeoLinkSplit k x y) = record { year = refl; next_node = omega arith; next_link = omega arith }
carried_later m (NewLinkHeal e f) = cleared-later m _ _
    (record { year = refl; next_node = omega arith; next_link = omega arith })
carried_later m (ModLinkHeal e f) = cleared-later m _ _
    (record { year = refl; next_node = omega arith; next_link = omega arith })

pub continues_refl : (l : Lent) → Continues l l
continues_refl l = record { year = refl; next_node = omega arith; next_link = omega arith }

pub continues_trans : {a b c : Lent} → Continues a b → Continues b c → Continues a c
continues_trans h k = record {
  year = k.year ∙ h.year;
  next_node = omega (arith, h.next_node, k.next_node);
  next_link = omega (arith, h.next_link, k.next_link);
}

judged_continues : (l : Lent) → Formed l → (t : Option Operation) → Continues l (judged l (network_of l) t).lent
unfolding network_of lent_of in_form
judged_continues l g none = continues_refl l
judged_continues l g (some t) = go (first_reason (lent_reasons l ++ reasons (sizes_of l) (network_of l) t))
  where
    go : (r : ℕ) → Continues l (unless l r (carried (network_of l) t)).lent
    go (suc r) = continues_refl l
    go zero =
        let h = carried_later (network_of l) t in
        let y = (ranged_is l (and-true (ranged l) (formed (network_of l)) g.in_form).0).year in
        record {
          year = ap pos h.year ∙ within-back 2004 2005 l.head.year y;
          next_node = h.next_node;
          next_link = h.next_link;
        }

pub operation_continues : (l : Lent) → Formed l → (t : List ℤ) → Continues l (operation l t).lent
unfolding operation
operation_continues l g t = judged_continues l g (read t)
