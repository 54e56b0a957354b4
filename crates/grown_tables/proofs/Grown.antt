-- Tables that tickets left are such after every further ticket, and in form (specs/Claims.antt). Assumes nothing.
use mathlib.Core.Path.{◌≡◌, sym, ap, ◌∙◌}
use mathlib.Core.Bool.{true, not}
use mathlib.Core.List.{List, [], ◌∷◌, ◌++◌}
use native.Mathlib.Omega.{arith}
use borrow.Author.Tests.{not-false}
use lib.IntN.{ℤ}
use Rattle.map.specs.Limits.{is_record, limit_of}
use Rattle.map.specs.Rows.{Lent, lent, empty_map, lent_of, sizes_for, whole}
use Rattle.map.specs.Form.{in_form}
use Rattle.map.specs.Reasons.{first_reason}
use Rattle.map.specs.Ticket.{ticket, emptied, lent_reasons}
use Rattle.map.specs.Grow.{Grown, after, grow}
use Rattle.map.proofs.Facts.{after-append}
use Rattle.map.proofs.Reasons.{first_zero}
use Rattle.grown.proofs.Grows.{never_lent, whole_limited}
use Rattle.grown_tables.specs.Claims.{CreatedGrown, TicketGrown, GrownFormed}

-- ---- from the empty map on

pub grow_is : (l : Lent) (k : ℤ) (ts : List (List ℤ)) → whole l ≡ true → is_record k ≡ true
    → grow (sizes_for (limit_of k) l) ts ≡ after (emptied l k).lent ts
unfolding grow emptied first_reason
grow_is l k ts w r = rw (w, r)

pub created_grown : CreatedGrown
unfolding after
created_grown l k w r =
    let s = whole_limited l w in
    record {
      sizes = sizes_for (limit_of k) l;
      limited = record { some_face = s.some_face; nodes = s.nodes; edges = s.edges; faces = s.faces };
      tickets = [];
      left = sym (ap (λ (g : Grown). g.lent) (grow_is l k [] w r));
    }

-- ---- one ticket more

pub ticket_grown : TicketGrown
unfolding after grow
ticket_grown l t g = record {
  sizes = g.sizes;
  limited = g.limited;
  tickets = g.tickets ++ t ∷ [];
  left =
      ap (λ (x : Lent). (ticket x t).lent) g.left
      ∙ sym (ap (λ (x : Grown). x.lent) (after-append (lent_of g.sizes empty_map) g.tickets (t ∷ [])));
}

-- ---- conditions 1 and 2

pub grown_formed : GrownFormed
grown_formed nodes edges faces h g =
    let l = lent nodes edges faces h in
    let free = ap (λ (x : Lent). first_reason (lent_reasons x)) g.left
    ∙ never_lent g.sizes g.limited g.tickets in
    let one = first_zero 1 (not (whole l)) ((2, not (in_form l)) ∷ []) (omega arith) free in
    let two = first_zero 2 (not (in_form l)) [] (omega arith) one.1 in
    record { whole = not-false (whole l) one.0; in_form = not-false (in_form l) two.0 }
