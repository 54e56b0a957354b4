-- `edit_dispatch::edit` meets its contract: without its kind's count a ticket is none, and any other is carried out as
-- it is read. Assumes nothing.
use mathlib.Core.Path.{refl, sym, ap, ◌∙◌}
use Rattle.map.specs.Rows.{lent}
use Rattle.edit_dispatch.specs.Shaped.{shaped}
use Rattle.edit_dispatch.proofs.Reading.{ticket-shaped, shaped_none}
use Rattle.edit_dispatch.proofs.edit.Goals as goal

pub returns-in_default : goal.returns-in_default
returns-in_default c =
    let a = c.args in
    shaped_none a.nodes.now a.edges.now a.faces.now a.h refl (c.read_routine.ensures.unknown c.in_default.is)
    ∙ sym (ticket-shaped c.requires a.t.now)

pub returns : goal.returns
returns c =
    let a = c.args in
    c.carry_out.ensures
    ∙ sym (ticket-shaped c.requires a.t.now
    ∙ ap (shaped (lent a.nodes.now a.edges.now a.faces.now a.h)) (c.read_routine.ensures.known _ c.in-Some.is).reads)

pub carry_out-requires : goal.carry_out-requires
carry_out-requires c =
    let k = c.read_routine.ensures.known _ c.in-Some.is in
    (c.requires, k.fits, k.some)
