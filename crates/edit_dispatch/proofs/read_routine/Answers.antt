-- `edit_dispatch::read_routine` meets its contract: a first number of no kind, or another count than its kind's, is no
-- ticket. Assumes nothing.
use Rattle.std.specs.Prelude.{Some, None}
use Rattle.std.specs.Prelude as std
use Rattle.std.proofs.lemmas.Option.{same_Some}
use borrow.Author.Rules.{rules}
use mathlib.Core.Path.{◌≡◌, sym, ap, ◌∙◌, subst}
use mathlib.Core.Bool.{true, false}
use mathlib.Core.List.{List}
use mathlib.Core.Option.{none}
use Prim.Native.Nat.{◌-◌}
use lib.IntN.{ℤ}
use lib.ListN.{length}
use mir.Syntax.{w64}
use mir.Val.{of_z, to_z}
use Rattle.map.specs.Tickets.{read}
use Rattle.edit_dispatch.specs.declared.Kind.{Kind}
use Rattle.edit_dispatch.specs.declared.Routine.{Routine}
use Rattle.edit_dispatch.specs.Shaped.{Asked, kind_sent, kind_for, count_fits}
use Rattle.edit_dispatch.proofs.Counts.{unfit}
use Rattle.edit_dispatch.proofs.Reading.{first_none, first_some, sent_none, sent_some}
use Rattle.edit_dispatch.proofs.read_routine.Goals as goal

pub returns-in_err-z-clause-unknown : goal.returns-in_err-z-clause-unknown
returns-in_err-z-clause-unknown c = λ e. first_none c.args.t.now c.in_err-z.ensures.value

module _ (t : List ℤ) {z y : ℤ} (first : Some z ≡ std.slice_get t 0) (back : y ≡ z) where
  at_first : {o : std.Option Kind} → o ≡ kind_sent y → kind_sent (std.get_or t 0 (std.pos 0)) ≡ o
  at_first e = sym (e ∙ ap kind_sent (back ∙ (first_some t first).1))

  unknown : None ≡ kind_sent y → read t ≡ none
  unknown e = sent_none t (at_first e)

  module _ {k : Kind} (e : Some k ≡ kind_sent y) where
    kind_is : k ≡ kind_for k.routine
    kind_is = (sent_some t (at_first e)).0

    miscounted : false ≡ count_fits k (length t - 1) → read t ≡ none
    miscounted f =
        (sent_some t (at_first e)).1
        ∙ unfit k.routine t (first_some t first).0
        (sym (f ∙ ap (λ (q : Kind). count_fits q (length t - 1)) kind_is))

    asked : true ≡ count_fits k (length t - 1) → Asked k.routine t
    asked f =
        record {
          some = (first_some t first).0;
          fits = sym (f ∙ ap (λ (q : Kind). count_fits q (length t - 1)) kind_is);
          reads = (sent_some t (at_first e)).1;
        }

pub returns-in_err-k-clause-unknown : goal.returns-in_err-k-clause-unknown
returns-in_err-k-clause-unknown c =
    let back : to_z w64 (of_z w64 c.in_ok-z.z.now) ≡ c.in_ok-z.z.now = search rules in
    λ e. unknown c.args.t.now c.in_ok-z.ensures.value back c.in_err-k.ensures

pub returns-else-count_fits-clause-unknown : goal.returns-else-count_fits-clause-unknown
returns-else-count_fits-clause-unknown c =
    let back : to_z w64 (of_z w64 c.in_ok-z.z.now) ≡ c.in_ok-z.z.now = search rules in
    λ e. miscounted c.args.t.now c.in_ok-z.ensures.value back c.in_ok-k.ensures c.if-count_fits.ensures

pub returns-then-count_fits-clause-known : goal.returns-then-count_fits-clause-known
returns-then-count_fits-clause-known c =
    let back : to_z w64 (of_z w64 c.in_ok-z.z.now) ≡ c.in_ok-z.z.now = search rules in
    λ r e. subst (λ (q : Routine). Asked q c.args.t.now) (same_Some c.in_ok-k.k.routine r e)
    (asked c.args.t.now c.in_ok-z.ensures.value back c.in_ok-k.ensures c.if-count_fits.ensures)
