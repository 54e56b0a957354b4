-- The call's answer, reason by reason. Assumes nothing.
use mathlib.Core.Path.{◌≡◌, refl, ap, ◌∙◌}
use mathlib.Core.Bool.{true}
use mathlib.Core.List.{List, [], flat_map}
use mathlib.Core.Option.{none, some, get_or}
use Prim.Native.Nat.{ℕ, zero, suc, ◌≤◌, ◌<◌}
use native.Mathlib.Omega.{arith}
use borrow.Author.Tests.{lt-ltb, le-ltb}
use lib.IntN.{ℤ, pos}
use lib.ListN.{length}
use Rattle.map.specs.Rows.{Lent, map_of, whole}
use Rattle.map.specs.Form.{in_form}
use Rattle.map.specs.Reasons.{first_reason}
use Rattle.map.specs.Ticket.{Listed, lent_reasons, list_unless}
use Rattle.form.proofs.Lent.{lent_first}
use Rattle.nesting.specs.Contents.{Line, contents, line_cells, contents_of}

abbrev pub refused : List ℤ → ℕ → Listed
refused list r = record { list = list; answer = record { refusal = r; value = pos 0 } }

unless_refused : (list written : List ℤ) (n : ℕ) → 0 < n → list_unless list written n ≡ refused list n
unless_refused list written zero less = absurd (omega arith)
unless_refused list written (suc n) less = refl

module _ (l : Lent) (list : List ℤ) where
  -- 1 or 2
  pub turned : {n : ℕ} → 0 < n → first_reason (lent_reasons l) ≡ n → contents_of l list ≡ refused list n
  unfolding contents_of
  turned {n} less e =
      let written = flat_map line_cells (get_or (contents (map_of l)) []) in
      ap (list_unless list written) (lent_first l _ less e) ∙ unless_refused list written n less

  module _ (w : whole l ≡ true) (g : in_form l ≡ true) where
    pub no_contents : contents (map_of l) ≡ none → contents_of l list ≡ refused list 28
    unfolding contents_of first_reason
    no_contents e = rw (w, g, e)

    module _ (ls : List Line) (e : contents (map_of l) ≡ some ls) where
      pub too_short : length list < length (flat_map line_cells ls) → contents_of l list ≡ refused list 20
      unfolding contents_of first_reason
      too_short s = rw (w, g, e, lt-ltb (length list) (length (flat_map line_cells ls)) s)

      pub in_list : length (flat_map line_cells ls) ≤ length list
          → contents_of l list ≡ list_unless list (flat_map line_cells ls) 0
      unfolding contents_of first_reason
      in_list s = rw (w, g, e, le-ltb (length list) (length (flat_map line_cells ls)) s)
