-- What is printed for bytes, part by part, and what is written of it. Assumes nothing.
use Rattle.std.specs.Prelude.{◌≡◌, Bool, List, [], ◌∷◌, ◌++◌, ℕ, ◌+◌, ◌-◌, ◌^◌, ◌≤◌, ◌<◌, ◌⊎◌, pos, Option, None, Some, IsNone, IsSome, length, take, drop}
use Rattle.std.proofs.Common.{refl, sym, ap, subst, ◌∙◌, append_assoc, add-one, arith}
use Rattle.std.proofs.Math.ListN.{get_or, length-append}
use Rattle.std.proofs.Math.Seq.{drop-cons, length-take-le}
use Rattle.std.specs.Io.KnownBytes.{Appends, Consumes, IsAtEnd}
use Rattle.lists.specs.Scans.{fold}
use Rattle.lists.proofs.Appends.{fold-append, each_append}
use Rattle.lists.proofs.Bools.{same_refl, same_eq, same_false}
use Rattle.curves.specs.Curves.{max_points}
use Rattle.map.specs.declared.Head.{Head}
use Rattle.map.specs.Limits.{TwelvePoints, node_width, edge_width, face_width}
use Rattle.map.specs.Rows.{Lent, lent, empty_map, head_of}
use Rattle.map.specs.Ticket.{emptied}
use Rattle.console.specs.declared.channel.Streams.{Streams}
use Rattle.console.specs.Lines.{Desk, line_answered, served, finished, after_input, Bytes, DeskServed, program_table, program_tables}
use Rattle.console.specs.Texts.{done_text}
use Rattle.console.specs.Wrote.{Wrote}
use Rattle.console.specs.Printed.{byte_printed, printed, rest_printed, input_printed, Took, Ends, Told, ProgramTold}
use Rattle.console.proofs.Wrote.{appends_none, appends_more, none_before}

-- ---- the text

pub printed_append : (rows : Bool) (d : Desk) (bytes more : List ℕ) → printed rows d (bytes ++ more)
    ≡ printed rows d bytes ++ printed rows (fold served d bytes) more
printed_append rows d [] more = refl
printed_append rows d (b ∷ bytes) more =
    ap (λ (t : List ℕ). byte_printed rows d b ++ t) (printed_append rows (served d b) bytes more)
    ∙ sym (append_assoc (byte_printed rows d b) (printed rows (served d b) bytes)
    (printed rows (fold served (served d b) bytes) more))

-- the byte at i and then those after it
pub printed_turn : (rows : Bool) (d : Desk) (bytes : List ℕ) (i : ℕ) → i < length bytes → printed rows d (drop i bytes)
    ≡ byte_printed rows d (get_or bytes i 0) ++ printed rows (served d (get_or bytes i 0)) (drop (i + 1) bytes)
printed_turn rows d bytes i h = rw (drop-cons bytes i 0 h, add-one i)

module _ (rows : Bool) (d : Desk) where
  pub ended-printed : (b : ℕ) → b ≡ 10 → byte_printed rows d b ≡ done_text rows (line_answered d.lent d.line)
  unfolding byte_printed
  ended-printed b e = rw (same_eq b 10 e)

  pub none-printed : (b : ℕ) → (b ≡ 10 → ⊥) → byte_printed rows d b ≡ []
  unfolding byte_printed
  none-printed b e = rw (same_false b 10 e)

  pub line-printed : (length d.line ≡ 0 → ⊥) → rest_printed rows d ≡ done_text rows (line_answered d.lent d.line)
  unfolding rest_printed
  line-printed h = rw (same_false (length d.line) 0 h)

  pub no_line_printed : length d.line ≡ 0 → rest_printed rows d ≡ []
  unfolding rest_printed
  no_line_printed e = rw (same_eq (length d.line) 0 e)

-- ---- what is taken and written

consumes_none : (o : Option (List ℕ)) → Consumes o o []
consumes_none None = tt
consumes_none (Some xs) = refl

consumes_more : (x y z : Option (List ℕ)) (bytes more : List ℕ) → Consumes x y bytes → Consumes y z more
    → Consumes x z (bytes ++ more)
consumes_more None y z bytes more f g = tt
consumes_more (Some xs) None z bytes more f g = absurd f
consumes_more (Some xs) (Some ys) None bytes more f g = absurd g
consumes_more (Some xs) (Some ys) (Some zs) bytes more f g =
    f ∙ ap (λ (l : List ℕ). bytes ++ l) g ∙ sym (append_assoc bytes more zs)

module _ {R W : Type 0} (remaining : R → Option (List ℕ)) (contents : W → Option (List ℕ)) (rows : Bool) where
  pub took_none : (s : Streams R W) (d : Desk) → Took remaining contents rows s s d d
  took_none s d = record {
    bytes = [];
    are_bytes = tt;
    leaves = refl;
    fails_once = λ h. refl;
    takes = λ n. consumes_none (remaining s.input);
    writes = λ n. appends_none (contents s.output);
  }

  -- more bytes are read, and then served
  module _ (start before read after : Streams R W) (from mid to : Desk) (more : List ℕ)
      (t : Took remaining contents rows start before from mid)
      (fails : IsSome before.failure → read ≡ before) (none : read.output ≡ before.output)
      (takes : IsNone read.failure → Consumes (remaining before.input) (remaining read.input) more)
      (w : Wrote contents read after (printed rows mid more)) where
    failed : IsSome start.failure → read ≡ start
    failed h =
        let e = t.fails_once h in
        fails (subst (λ (s : Streams R W). IsSome s.failure) (sym e) h) ∙ e

    none_read : IsNone after.failure → IsNone read.failure
    none_read = none_before read.failure after.failure (λ h. ap (λ (s : Streams R W). s.failure) (w.fails_once h))

    none_taken : IsNone after.failure → IsNone before.failure
    none_taken n =
        none_before before.failure read.failure (λ h. ap (λ (s : Streams R W). s.failure) (fails h)) (none_read n)

    pub took_more : Bytes more → to ≡ fold served mid more
        → (u : Took remaining contents rows start after from to) × (length u.bytes ≡ length t.bytes + length more)
    took_more b e = (
      record {
        bytes = t.bytes ++ more;
        are_bytes = each_append (λ n. n < 256) t.bytes more t.are_bytes b;
        leaves = e ∙ ap (λ (d : Desk). fold served d more) t.leaves ∙ sym (fold-append served from t.bytes more);
        fails_once = λ h. w.fails_once (subst (λ (s : Streams R W). IsSome s.failure) (sym (failed h)) h) ∙ failed h;
        takes = λ n.
            consumes_more (remaining start.input) (remaining before.input) (remaining after.input) t.bytes more
            (t.takes (none_taken n))
            (subst (λ (i : R). Consumes (remaining before.input) (remaining i) more) (sym w.reads_none) (takes (none_read n)));
        writes = λ n.
            rw (printed_append rows from t.bytes more, ← t.leaves)
            (appends_more (contents start.output) (contents before.output) (contents after.output)
            (printed rows from t.bytes) (printed rows mid more) (t.writes (none_taken n))
            (subst (λ (o : W). Appends (contents o) (contents after.output) (printed rows mid more)) none (w.writes n)));
      },
      length-append t.bytes more,
    )

  pub desk_served : {before after : Streams R W} {from to : Desk} → Took remaining contents rows before after from to
      → DeskServed from to
  desk_served t = record { bytes = t.bytes; are_bytes = t.are_bytes; leaves = t.leaves }

  -- the input has ended
  module _ (start mid after : Streams R W) (l before to : Lent) (rest : Desk)
      (t : Took remaining contents rows start mid (record { lent = l; line = [] }) rest)
      (w : Wrote contents mid after (rest_printed rows rest)) where
    none_failed : IsNone after.failure → IsNone mid.failure
    none_failed = none_before mid.failure after.failure (λ h. ap (λ (s : Streams R W). s.failure) (w.fails_once h))

    pub told : Ends remaining mid t.bytes → l ≡ before → to ≡ finished rest
        → Told remaining contents rows start after before to
    told ends e f = record {
      bytes = t.bytes;
      are_bytes = t.are_bytes;
      leaves = f ∙ ap finished t.leaves ∙ ap (λ (l : Lent). after_input l t.bytes) e;
      fails_once = λ h.
          w.fails_once (subst (λ (s : Streams R W). IsSome s.failure) (sym (t.fails_once h)) h) ∙ t.fails_once h;
      takes = λ n.
          subst (λ (i : R). Consumes (remaining start.input) (remaining i) t.bytes) (sym w.reads_none) (t.takes (none_failed n));
      ends = λ n.
          subst (λ (i : R). IsAtEnd (remaining i) ⊎ (2 ^ 64 - 1 ≤ length t.bytes)) (sym w.reads_none) (ends (none_failed n));
      writes = λ n.
          subst (λ (l : Lent). Appends (contents start.output) (contents after.output) (input_printed rows l t.bytes)) e
          (rw (← t.leaves)
          (appends_more (contents start.output) (contents mid.output) (contents after.output)
          (printed rows (record { lent = l; line = [] }) t.bytes) (rest_printed rows rest) (t.writes (none_failed n))
          (w.writes n)));
    }

  pub program_told : (before after : Streams R W) (h : Head) (left : Lent) → h ≡ head_of TwelvePoints empty_map
      → Told remaining contents rows before after
      (emptied (lent (program_table node_width) (program_table edge_width) (program_table face_width) h) (pos max_points)).lent
      left
      → ProgramTold remaining contents rows before after left.head
  unfolding program_tables
  program_told before after h left e t = record {
    left = left;
    told = subst (λ (k : Head). Told remaining contents rows before after
        (emptied (lent (program_table node_width) (program_table edge_width) (program_table face_width) k) (pos max_points)).lent
        left) e t;
    head = refl;
  }
