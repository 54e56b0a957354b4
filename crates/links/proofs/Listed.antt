-- Departures written to the front of a list, and the first one met clockwise of those that are listed. Assumes nothing.
use Rattle.std.specs.Prelude.{Option}
use Rattle.std.specs.Option.{unwrap_or}
use mathlib.Core.Path.{◌≡◌, sym, ap, ap₂, ◌∙◌}
use mathlib.Core.Bool.{Bool, true, false}
use mathlib.Core.List.{List, [], ◌∷◌}
use Prim.Native.Nat.{ℕ, ◌+◌, ◌*◌, ◌-◌, ◌<◌, ◌≤◌}
use native.Mathlib.Nat.{sub-zero}
use native.Mathlib.Numerals.{add-one}
use native.Mathlib.Omega.{arith}
use lib.IntN.{ℤ}
use lib.ListN.{length, get_or, take, drop, set, length-set, drop_of_length-le}
use lib.Seq.{drop-cons, sets, length-sets, sets-eq, take-append_seam}
use Rattle.lists.specs.Scans.{keep, fold}
use Rattle.lists.specs.Tables.{table}
use Rattle.lists.proofs.Scans.{table_step, table-end, length-table}
use Rattle.lists.proofs.Keeps.{keep-le}
use Rattle.plane.specs.Directions.{Way}
use Rattle.rotation.specs.Law.{first_clockwise}
use Rattle.links.specs.declared.Choice.{Choice}
use Rattle.links.specs.Linking.{positions, leaves_node, departures_of, chosen_of, answer}
use Rattle.links.proofs.Choices.{no_choice, scan_all}
use Rattle.links.proofs.FirstMet.{first_any, first_none}

-- ---- written

module _ (f : ℕ → Bool) where
  -- what is left from p on
  abbrev pub left : ℕ → ℕ → List ℕ
  left p n = keep f (table (λ q. q) p (n - p))

  -- what stands there after p
  pub record Written (n p : ℕ) (l : List ℕ) (k : ℕ) (l' : List ℕ) (k' : ℕ) : Type 0 where
    pub long : length l' ≡ length l
    pub most : k' ≤ k + 1
    pub rest : sets l' k' (left (p + 1) n) ≡ sets l k (left p n)
    pub count : k' + length (left (p + 1) n) ≡ k + length (left p n)

  pub left_all : (n : ℕ) → left 0 n ≡ keep f (table (λ q. q) 0 n)
  left_all n = rw sub-zero

  pub left_end : (p n : ℕ) → n ≤ p → left p n ≡ []
  left_end p n h = rw (table-end (λ q. q) p n h)

  module _ (l : List ℕ) (k p n : ℕ) where
    module _ (l' : List ℕ) (k' : ℕ) (h : p < n) where
      pub written_hit : f p ≡ true → l' ≡ set l k p → k' ≡ k + 1 → Written n p l k l' k'
      written_hit e x y =
          let step : left p n ≡ p ∷ left (p + 1) n = rw (table_step (λ q. q) p n h, e) in
          record {
            long = ap length x ∙ length-set l k p;
            most = omega arith;
            rest = ap₂ (λ (u : List ℕ) (j : ℕ). sets u j (left (p + 1) n)) x (y ∙ add-one k)
                ∙ ap (sets l k) (sym step);
            count = omega (arith, y, ap length step);
          }

      pub written_miss : f p ≡ false → l' ≡ l → k' ≡ k → Written n p l k l' k'
      written_miss e x y =
          let step : left p n ≡ left (p + 1) n = rw (table_step (λ q. q) p n h, e) in
          record {
            long = ap length x;
            most = omega arith;
            rest = ap₂ (λ (u : List ℕ) (j : ℕ). sets u j (left (p + 1) n)) x y ∙ ap (sets l k) (sym step);
            count = omega (arith, y, ap length step);
          }

-- the departures stand at the front
module _ (l : List ℤ) (n : ℕ) (node : ℤ) (list : List ℕ) (room : n * 2 ≤ length list) where
  pub departures-listed : {after : List ℕ} {r : ℕ} → r ≡ length (departures_of l n node) → after
      ≡ sets list 0 (departures_of l n node) → (r ≤ n * 2) × (length after ≡ length list)
      × (take r after ≡ departures_of l n node)
  departures-listed {after} {r} er e =
      let ds = departures_of l n node in
      let few : length ds ≤ n * 2 =
      omega (arith, keep-le (leaves_node l node) (positions n), length-table (λ p. p) 0 (n * 2)) in (
        omega (arith, few, er),
        ap length e ∙ length-sets list 0 ds,
        ap₂ take er (e ∙ sets-eq ds list 0 (omega (arith, few))) ∙ take-append_seam ds (drop (0 + length ds) list),
      )

-- ---- chosen

module _ (way : ℕ → Way) (v : Way) where
  -- the scan of all, p standing for none
  pub settled_all : (p : ℕ) (ds : List ℕ) → unwrap_or (answer (fold (chosen_of way v) no_choice ds)) p
      ≡ first_clockwise way v p ds
  settled_all p [] = sym (first_none way v p)
  settled_all p (d ∷ ds) = ap (λ (o : Option ℕ). unwrap_or o p) (scan_all way v (d ∷ ds)) ∙ first_any way v d ds d p

  -- a turn of the loop at place k
  module _ (f : ℕ → Bool) (l : List ℕ) (h : Choice) (k : ℕ) where
    -- the choice after all that are left
    abbrev pub chosen_from : Choice
    chosen_from = fold (chosen_of way v) h (keep f (drop k l))

    pub chosen_hit : k < length l → f (get_or l k 0) ≡ true → chosen_from
        ≡ fold (chosen_of way v) (chosen_of way v h (get_or l k 0)) (keep f (drop (k + 1) l))
    chosen_hit t e = rw (drop-cons l k 0 t, e, add-one k)

    pub chosen_miss : k < length l → f (get_or l k 0) ≡ false → chosen_from
        ≡ fold (chosen_of way v) h (keep f (drop (k + 1) l))
    chosen_miss t e = rw (drop-cons l k 0 t, e, add-one k)

    pub chosen-end : length l ≤ k → chosen_from ≡ h
    chosen-end t = rw (drop_of_length-le l t)
