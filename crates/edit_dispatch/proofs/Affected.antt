-- What is looked up before a routine is what its ticket names; a ticket turned down leaves the rectangles, and one that
-- is carried out leaves rows whose rectangles are set. Assumes nothing.
use mathlib.Core.Path.{◌≡◌, refl, sym, ap, ◌∙◌, subst}
use mathlib.Core.Bool.{Bool, true, false, cond, true≢false}
use mathlib.Core.Logic.{◌≢◌}
use mathlib.Core.List.{List, [], ◌∷◌}
use mathlib.Core.Option
use mathlib.Core.Option.{Option, none, some}
use Prim.Native.Nat.{ℕ, zero, suc, ◌%◌}
use native.Mathlib.Omega.{arith}
use lib.IntN.{ℤ, pos, nat_abs}
use lib.ListN.{length, get_or, drop}
use Rattle.lists.specs.Tests.{same}
use Rattle.lists.specs.Scans.{is_some}
use Rattle.map.specs.declared.Head.{Head}
use Rattle.map.specs.declared.Variant.TheVariants.{New, Mod}
use Rattle.map.specs.Rows.{Edge, Lent, map_of, sizes_of, rectangle, lent_with, at_nodes}
use Rattle.map.specs.Tickets.{Ticket, AddIsoNode, MoveIsoNode, RemoveIsoNode, AddIsoEdge, RemoveIsoEdge, ChangeEdgeGeom}
use Rattle.map.specs.Tickets.{one, two, three, curve, one_curve, two_curve}
use Rattle.map.specs.Edits.{add_iso_node, move_iso_node, remove_iso_node}
use Rattle.map.specs.Ticket.{Outcome, done, unless, carried}
use Rattle.outcomes.specs.Outcomes.{reason_against, unless_with, edited, decided}
use Rattle.outcomes.specs.Variants.{split_ticket, heal_ticket, add_ticket, remove_ticket}
use Rattle.edit_rectangles.specs.declared.Affected.{Affected}
use Rattle.edit_rectangles.specs.FacePairs.{affected_before, affected_after}
use Rattle.edit_rectangles.proofs.Covers.{named_edges, draws, named_pairs}
use Rattle.edit_dispatch.specs.declared.Routine.{Routine}
use Rattle.edit_dispatch.specs.declared.Routine.TheVariants.{AddNode, MoveNode, RemoveNode, AddIsolatedEdge}
use Rattle.edit_dispatch.specs.declared.Routine.TheVariants.{RemoveIsolatedEdge, ChangeCurve, Split, Heal}
use Rattle.edit_dispatch.specs.declared.Routine.TheVariants.{AddEdge, RemoveEdge}
use Rattle.edit_dispatch.specs.Shaped.{shaped, shaped_rows, read_for, edges_named, draws_edge}

-- ---- what numbers are read as

no_some : {k : Ticket} → none ≡ some k → ⊥
no_some e = true≢false (sym (ap is_some e))

some_is : {a k : Ticket} → some a ≡ some k → a ≡ k
some_is {a} e = ap (λ (o : Option Ticket). Option.get_or o a) e

module _ (P : Ticket → Type 0) {k : Ticket} where
  one_has : (g : ℤ → Ticket) (r : List ℤ) → P (g (get_or r 0 (pos 0))) → one g r ≡ some k → P k
  one_has g [] p e = absurd (no_some e)
  one_has g (a ∷ []) p e = subst P (some_is e) p
  one_has g (a ∷ b ∷ r) p e = absurd (no_some e)

  two_has : (g : ℤ → ℤ → Ticket) (r : List ℤ) → P (g (get_or r 0 (pos 0)) (get_or r 1 (pos 0))) → two g r ≡ some k → P k
  two_has g [] p e = absurd (no_some e)
  two_has g (a ∷ r) p e = one_has (g a) r p e

  three_has : (g : ℤ → ℤ → ℤ → Ticket) (r : List ℤ)
      → P (g (get_or r 0 (pos 0)) (get_or r 1 (pos 0)) (get_or r 2 (pos 0))) → three g r ≡ some k → P k
  three_has g [] p e = absurd (no_some e)
  three_has g (a ∷ r) p e = two_has (g a) r p e

  curve_has : (g : List ℤ → Ticket) (r : List ℤ) → P (g r) → curve g r ≡ some k → P k
  curve_has g r p e = go (same (length r % 2) 0) e
    where
      go : (b : Bool) → cond b (some (g r)) none ≡ some k → P k
      go true q = subst P (some_is q) p
      go false q = absurd (no_some q)

  one_curve_has : (g : ℤ → List ℤ → Ticket) (r : List ℤ) → ((c : List ℤ) → P (g (get_or r 0 (pos 0)) c))
      → one_curve g r ≡ some k → P k
  one_curve_has g [] p e = absurd (no_some e)
  one_curve_has g (a ∷ r) p e = curve_has (g a) r (p r) e

  two_curve_has : (g : ℤ → ℤ → List ℤ → Ticket) (r : List ℤ) → ((u v : ℤ) (c : List ℤ) → P (g u v c))
      → two_curve g r ≡ some k → P k
  two_curve_has g [] p e = absurd (no_some e)
  two_curve_has g (a ∷ r) p e = one_curve_has (g a) r (λ c. p a (get_or r 0 (pos 0)) c) e

-- ---- the edges that a ticket names, and whether it draws one, by its routine

module _ (l : List ℤ) (n : ℕ) where
  pub record Says (r : Routine) (t : List ℤ) (k : Ticket) : Type 0 where
    pub named : named_pairs l n (named_edges k) ≡ affected_before (edges_named r) l n t
    pub draws : draws k ≡ draws_edge r

  pub says : (r : Routine) (t : List ℤ) (k : Ticket) → read_for r (drop 1 t) ≡ some k → Says r t k
  says AddNode t k e = three_has (Says AddNode t) AddIsoNode (drop 1 t) (record { named = refl; draws = refl }) e
  says MoveNode t k e = three_has (Says MoveNode t) MoveIsoNode (drop 1 t) (record { named = refl; draws = refl }) e
  says RemoveNode t k e = one_has (Says RemoveNode t) RemoveIsoNode (drop 1 t) (record { named = refl; draws = refl }) e
  says AddIsolatedEdge t k e = two_curve_has (Says AddIsolatedEdge t) AddIsoEdge (drop 1 t)
      (λ u v c. record { named = refl; draws = refl }) e
  says RemoveIsolatedEdge [] k e = absurd (no_some e)
  says RemoveIsolatedEdge (z ∷ r) k e = one_has (Says RemoveIsolatedEdge (z ∷ r)) RemoveIsoEdge r
      (record { named = refl; draws = refl }) e
  says ChangeCurve [] k e = absurd (no_some e)
  says ChangeCurve (z ∷ r) k e = one_curve_has (Says ChangeCurve (z ∷ r)) ChangeEdgeGeom r
      (λ c. record { named = refl; draws = refl }) e
  says (Split how) [] k e = absurd (no_some e)
  says (Split New) (z ∷ r) k e = three_has (Says (Split New) (z ∷ r)) (split_ticket New) r
      (record { named = refl; draws = refl }) e
  says (Split Mod) (z ∷ r) k e = three_has (Says (Split Mod) (z ∷ r)) (split_ticket Mod) r
      (record { named = refl; draws = refl }) e
  says (Heal how) [] k e = absurd (no_some e)
  says (Heal New) (z ∷ r) k e = two_has (Says (Heal New) (z ∷ r)) (heal_ticket New) r
      (record { named = refl; draws = refl }) e
  says (Heal Mod) (z ∷ r) k e = two_has (Says (Heal Mod) (z ∷ r)) (heal_ticket Mod) r
      (record { named = refl; draws = refl }) e
  says (AddEdge New) t k e = two_curve_has (Says (AddEdge New) t) (add_ticket New) (drop 1 t)
      (λ u v c. record { named = refl; draws = refl }) e
  says (AddEdge Mod) t k e = two_curve_has (Says (AddEdge Mod) t) (add_ticket Mod) (drop 1 t)
      (λ u v c. record { named = refl; draws = refl }) e
  says (RemoveEdge how) [] k e = absurd (no_some e)
  says (RemoveEdge New) (z ∷ r) k e = one_has (Says (RemoveEdge New) (z ∷ r)) (remove_ticket New) r
      (record { named = refl; draws = refl }) e
  says (RemoveEdge Mod) (z ∷ r) k e = one_has (Says (RemoveEdge Mod) (z ∷ r)) (remove_ticket Mod) r
      (record { named = refl; draws = refl }) e

-- the faces whose rectangles are set are those of the ticket
module _ (edges now : List ℤ) (h after : Head) (r : Routine) (t : List ℤ) {k : Ticket}
    (reads : read_for r (drop 1 t) ≡ some k) where
  pub affected_told : {named count : ℕ} {draw : Bool} {b a : Affected} → named ≡ edges_named r → count
      ≡ nat_abs h.edges → b ≡ affected_before named edges count t → draw ≡ draws_edge r → a
      ≡ affected_after draw now h after b → a
      ≡ affected_after (draws k) now h after (named_pairs edges (nat_abs h.edges) (named_edges k))
  affected_told n e b d a =
      let said = says edges (nat_abs h.edges) r t k reads in
      a
      ∙ (λ i. affected_after ((d ∙ sym said.draws) i) now h after
      ((b ∙ (λ j. affected_before (n j) edges (e j) t) ∙ sym said.named) i))

-- ---- what the rows came to

module _ (l : Lent) (x : Outcome) where
  -- a ticket that is turned down
  pub turned_down_lem : (o : Option Ticket) → x ≡ shaped_rows l o → x.answer.refusal ≢ 0 → x ≡ shaped l o
  turned_down_lem none e ne = e
  turned_down_lem (some k) e ne = go (reason_against l k) refl
    where
      go : (n : ℕ) → reason_against l k ≡ n → x ≡ decided l k
      go zero q = absurd (ne (ap (λ (y : Outcome). y.answer.refusal) e ∙ rw q))
      go (suc n) q = e ∙ rw q

  -- one that is carried out
  pub record CarriedOut (o : Option Ticket) : Type 0 where
    pub ticket : Ticket
    pub reads : o ≡ some ticket
    pub none : reason_against l ticket ≡ 0
    pub lent : lent_with (rectangle (map_of l).edges) (sizes_of l) (carried (map_of l) ticket).0 ≡ x.lent
    pub answer : x.answer ≡ record { refusal = 0; value = (carried (map_of l) ticket).1 }

  pub carried_out : (o : Option Ticket) → x ≡ shaped_rows l o → x.answer.refusal ≡ 0 → CarriedOut o
  carried_out none e z = absurd (not-zero (sym (ap (λ (y : Outcome). y.answer.refusal) e) ∙ z))
    where
      not-zero : {n : ℕ} → suc n ≡ 0 → ⊥
      not-zero q = omega arith
  carried_out (some k) e z = go (reason_against l k) refl
    where
      go : (n : ℕ) → reason_against l k ≡ n → CarriedOut (some k)
      go zero q =
          let is : x ≡ unless_with (rectangle (map_of l).edges) l 0 (carried (map_of l) k) = e ∙ rw q in
          record {
            ticket = k;
            reads = refl;
            none = q;
            lent = sym (ap (λ (y : Outcome). y.lent) is);
            answer = ap (λ (y : Outcome). y.answer) is;
          }
      go (suc n) q =
          let is : suc n ≡ 0 = sym (ap (λ (y : Outcome). y.answer.refusal) e ∙ rw q) ∙ z in
          absurd (omega arith)

pub decided-zero : (l : Lent) (k : Ticket) → reason_against l k ≡ 0 → decided l k ≡ done l (carried (map_of l) k)
decided-zero l k z = rw z

-- ---- kinds 1 to 3 affect no rectangle

module _ (l : Lent) where
  same_edges : (k : Ticket) → (carried (map_of l) k).0.edges ≡ (map_of l).edges → decided l k ≡ edited l k
  same_edges k e = go (reason_against l k)
    where
      go : (n : ℕ) → unless l n (carried (map_of l) k)
          ≡ unless_with (rectangle (map_of l).edges) l n (carried (map_of l) k)
      go zero = ap (λ (es : List Edge). unless_with (rectangle es) l 0 (carried (map_of l) k)) e
      go (suc n) = refl

  pub add-rows : (f x y : ℤ) → decided l (AddIsoNode f x y) ≡ edited l (AddIsoNode f x y)
  unfolding carried add_iso_node
  add-rows f x y = same_edges (AddIsoNode f x y) refl

  pub move_rows : (n x y : ℤ) → decided l (MoveIsoNode n x y) ≡ edited l (MoveIsoNode n x y)
  unfolding carried move_iso_node at_nodes
  move_rows n x y = same_edges (MoveIsoNode n x y) refl

  pub remove_rows : (n : ℤ) → decided l (RemoveIsoNode n) ≡ edited l (RemoveIsoNode n)
  unfolding carried remove_iso_node
  remove_rows n = same_edges (RemoveIsoNode n) refl
