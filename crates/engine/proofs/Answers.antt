-- What a call answers where the first of its reasons holds. Assumes nothing.
use mathlib.Core.Path.{◌≡◌, refl, ap, ◌∙◌}
use mathlib.Core.Bool.{true, false, not}
use mathlib.Core.List.{List, [], ◌∷◌}
use mathlib.Core.Option.{Option, none, some}
use Prim.Native.Nat.{ℕ, zero, suc, ◌<◌}
use native.Mathlib.Omega.{arith}
use lib.Dec.{lit<}
use lib.IntN.{ℤ}
use Rattle.map.specs.Rows.{Map, Lent, Sizes, map_of, sizes_of, sizes_for, whole}
use Rattle.map.specs.Form.{in_form}
use Rattle.map.specs.Limits.{limit_of}
use Rattle.map.specs.Tickets.{Ticket, read}
use Rattle.map.specs.Reasons.{first_reason, reasons}
use Rattle.map.specs.Ticket.{lent_reasons, create_reasons, refused, unless, created_unless, carried, judged, ticket}
use Rattle.map.specs.Ticket.{emptied}
use Rattle.map.proofs.Reasons.{first_hit}
use Rattle.form.proofs.Lent.{lent_first}

module _ (l : Lent) where
  unless-turned : (n : ℕ) (c : Map × ℤ) → 0 < n → unless l n c ≡ refused l n
  unless-turned zero c more = absurd (omega arith)
  unless-turned (suc n) c more = refl

  created-turned : (n : ℕ) (s : Sizes) → 0 < n → created_unless l s n ≡ refused l n
  created-turned zero s more = absurd (omega arith)
  created-turned (suc n) s more = refl

  module _ {n : ℕ} (more : 0 < n) where
    judged-turned : first_reason (lent_reasons l) ≡ n → (o : Option Ticket) → judged l (map_of l) o ≡ refused l n
    judged-turned e none = ap (refused l) (lent_first l ((3, true) ∷ []) more e)
    judged-turned e (some t) =
        ap (λ (r : ℕ). unless l r (carried (map_of l) t)) (lent_first l (reasons (sizes_of l) (map_of l) t) more e)
        ∙ unless-turned n (carried (map_of l) t) more

    pub ticket-turned : (t : List ℤ) → first_reason (lent_reasons l) ≡ n → ticket l t ≡ refused l n
    unfolding ticket
    ticket-turned t e = judged-turned e (read t)

    pub emptied-turned : (k : ℤ) → first_reason (create_reasons l k) ≡ n → emptied l k ≡ refused l n
    unfolding emptied
    emptied-turned k e =
        let s = sizes_for (limit_of k) l in
        ap (created_unless l s) e ∙ created-turned n s more

  pub ticket_1 : (t : List ℤ) → whole l ≡ false → ticket l t ≡ refused l 1
  ticket_1 t w = ticket-turned {n = 1} (lit< tt) t (first_hit 1 (not (whole l)) ((2, not (in_form l)) ∷ []) (ap not w))
