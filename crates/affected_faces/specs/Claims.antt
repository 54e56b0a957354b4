-- What is proved of the faces that a ticket affects. Each statement has its proof in proofs/.
use Rattle.std.specs.Prelude.{◌≡◌, true, ℕ}
use mathlib.Core.List.{Memᴰ}
use Rattle.map.specs.Rows.{Map, Sizes, rectangle}
use Rattle.map.specs.Form.{formed}
use Rattle.map.specs.Tickets.{Ticket}
use Rattle.map.specs.Reasons.{first_reason, reasons}
use Rattle.map.specs.Ticket.{carried}
use Rattle.affected_faces.specs.Affected.{affected}

-- on every map in form a carried-out ticket leaves the rectangle of every face that is there after it and is not
-- affected
abbrev pub RectanglesKept : Type 0
RectanglesKept =
    (s : Sizes) (m : Map) (t : Ticket) → formed m ≡ true → first_reason (reasons s m t) ≡ 0
    → (f : ℕ) → Memᴰ f (carried m t).0.faces → (Memᴰ f (affected m t) → ⊥)
    → rectangle (carried m t).0.edges f ≡ rectangle m.edges f
