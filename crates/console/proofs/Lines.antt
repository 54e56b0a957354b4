-- The numbers of a line in a list, and the bytes of lines one after the other. Assumes nothing.
use mathlib.Core.Path.{◌≡◌, refl, sym, ap, ◌∙◌, subst}
use mathlib.Core.List.{List, [], ◌∷◌, ◌++◌}
use Rattle.std.specs.Prelude.{Option, Some, None}
use Rattle.std.specs.Option.{unwrap_or}
use Prim.Native.Nat.{ℕ, suc, ◌+◌, ◌≤◌, ◌<◌}
use native.Mathlib.Numerals.{add-one}
use native.Mathlib.Omega.{arith}
use lib.IntN.{ℤ, pos}
use lib.ListN.{length, get_or, take, drop, set, length-append}
use lib.Seq.{drop-cons, take-append_seam, length-take-le, take-suc-set, take_all, take_at}
use Rattle.lists.specs.Scans.{fold}
use Rattle.lists.proofs.Appends.{fold-append, each_append}
use Rattle.lists.proofs.Bools.{same_refl, same_eq, same_false}
use Rattle.map.specs.declared.Head.{Head}
use Rattle.curves.specs.Curves.{max_points}
use Rattle.map.specs.Limits.{TwelvePoints, node_width, edge_width, face_width}
use Rattle.map.specs.Rows.{Lent, lent, empty_map, head_of}
use Rattle.map.specs.Ticket.{emptied}
use Rattle.text.specs.Parsed.{ParsedAs}
use Rattle.console.specs.Lines.{line_answered, Desk, kept_bytes, served, Bytes, DeskServed}
use Rattle.console.specs.Lines.{finished, after_input, InputServed, program_table, program_tables, ProgramServed}

-- the numbers stand at the front of the list
pub parsed_numbers : (o : Option (List ℤ)) (before : List ℤ) (r : Option ℕ) (after : List ℤ) → ParsedAs o before r after
    → (unwrap_or r 0 ≤ length after) × (take (unwrap_or r 0) after ≡ unwrap_or o [])
parsed_numbers (Some zs) before r after (e, f) =
    rw (e, f) (simp length-append (omega arith), take-append_seam zs (drop (length zs) before))
parsed_numbers None before r after (e, f) = rw e (omega arith, refl)

-- what holds of tables holds of those that are equal
pub lent_as : (P : Lent → Type 0) {n e f m d g : List ℤ} {h : Head} → P (lent n e f h) → m ≡ n → d ≡ e → g ≡ f
    → P (lent m d g h)
lent_as P {h} p q r s = subst P (λ i. lent (sym q i) (sym r i) (sym s i) h) p

pub same_desk : {l m : Lent} {x y : List ℕ} → l ≡ m → x ≡ y
    → ◌≡◌ {A = Desk} (record { lent = l; line = x }) (record { lent = m; line = y })
same_desk e f = λ i. record { lent = e i; line = f i }

-- one byte more, after a line that has not ended
module _ (d : Desk) (b : ℕ) where
  pub line-ended : b ≡ 10 → record { lent = (line_answered d.lent d.line).lent; line = [] } ≡ served d b
  unfolding served
  line-ended e = rw (same_eq b 10 e)

  pub line_longer : (b ≡ 10 → ⊥) → length d.line < kept_bytes → record { lent = d.lent; line = d.line ++ b ∷ [] } ≡ served d b
  unfolding served
  line_longer e g =
      let all = take_all kept_bytes (d.line ++ b ∷ []) (simp length-append (omega arith)) in
      rw (same_false b 10 e, all)

  pub line-full : (b ≡ 10 → ⊥) → length d.line ≡ kept_bytes → d ≡ served d b
  unfolding served
  line-full e g = rw (same_false b 10 e, take_at d.line (b ∷ []) kept_bytes g)

-- the byte at i and then those after it
pub served_turn : (d : Desk) (bytes : List ℕ) (i : ℕ) → i < length bytes → fold served d (drop i bytes)
    ≡ fold served (served d (get_or bytes i 0)) (drop (i + 1) bytes)
served_turn d bytes i h = rw (drop-cons bytes i 0 h, add-one i)

-- ---- the input

pub each_byte : (l : List ℕ) → ((i : ℕ) → get_or l i 0 < 256) → Bytes l
each_byte [] h = tt
each_byte (b ∷ l) h = (h 0, each_byte l (λ i. h (suc i)))

pub none_served : (d : Desk) → DeskServed d d
none_served d = record { bytes = []; are_bytes = tt; leaves = refl }

-- some bytes and then others
pub more_served : {d e f : Desk} (bytes : List ℕ) → Bytes bytes → DeskServed d e → f ≡ fold served e bytes
    → DeskServed d f
more_served {d} bytes b s q = record {
  bytes = s.bytes ++ bytes;
  are_bytes = each_append (λ n. n < 256) s.bytes bytes s.are_bytes b;
  leaves = q ∙ ap (λ (e : Desk). fold served e bytes) s.leaves ∙ sym (fold-append served d s.bytes bytes);
}

-- its end, after a line that has not ended
module _ (d : Desk) where
  pub finished-line : (length d.line ≡ 0 → ⊥) → finished d ≡ (line_answered d.lent d.line).lent
  unfolding finished
  finished-line h = rw (same_false (length d.line) 0 h)

  pub finished_none : length d.line ≡ 0 → finished d ≡ d.lent
  unfolding finished
  finished_none e = rw (same_eq (length d.line) 0 e)

pub input_served : {start before after : Lent} {rest : Desk} → DeskServed (record { lent = start; line = [] }) rest
    → start ≡ before → after ≡ finished rest → InputServed before after
input_served s e f = record {
  bytes = s.bytes;
  are_bytes = s.are_bytes;
  leaves = f ∙ ap finished s.leaves ∙ ap (λ (l : Lent). after_input l s.bytes) e;
}

pub program_served : (h : Head) (after : Lent) → h ≡ head_of TwelvePoints empty_map
    → InputServed
    (emptied (lent (program_table node_width) (program_table edge_width) (program_table face_width) h) (pos max_points)).lent
    after
    → ProgramServed after.head
unfolding program_tables
program_served h after e s = record {
  bytes = s.bytes;
  are_bytes = s.are_bytes;
  leaves = ap (λ (l : Lent). l.head) s.leaves
      ∙ ap (λ (k : Head). (after_input
      (emptied (lent (program_table node_width) (program_table edge_width) (program_table face_width) k) (pos max_points)
      ).lent s.bytes).head) e;
}
