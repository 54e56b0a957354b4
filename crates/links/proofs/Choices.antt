-- The scan for the first departure met clockwise: a choice, with the departures that are left, answers what the law
-- says of them all. Assumes nothing.
use Rattle.std.specs.Prelude.{Option, Some, None, IfSome}
use Rattle.std.specs.Option.{option_or}
use mathlib.Core.Path.{◌≡◌, refl, sym, ap, ◌∙◌}
use mathlib.Core.Bool.{Bool, true, false, cond}
use mathlib.Core.List.{List, [], ◌∷◌}
use Prim.Native.Nat.{ℕ, ◌+◌, ◌-◌, ◌<◌, ◌≤◌}
use Rattle.lists.specs.Scans.{keep, fold}
use Rattle.lists.specs.Tables.{table}
use Rattle.lists.proofs.Scans.{table_step, table-end}
use Rattle.lists.proofs.Bools.{cond_has}
use Rattle.plane.specs.Directions.{Way, before}
use Rattle.rotation.specs.Law.{greatest, pick, first_clockwise}
use Rattle.links.specs.declared.Choice.{Choice}
use Rattle.links.specs.Linking.{later_of, chosen_of, answer, first_met}

-- no choice yet
abbrev pub no_choice : Choice
no_choice = record { all = None; below = None }

module _ (way : ℕ → Way) (v : Way) where
  -- the first met of a choice and what is left
  met : Option ℕ → Option ℕ → List ℕ → Option ℕ
  met a (Some b) ds = Some (greatest way b (keep (λ d. before (way d) v) ds))
  met (Some a) None ds = Some (pick way (greatest way a ds) (keep (λ d. before (way d) v) ds))
  met None None ds = first_met way v ds

  met-end : (a b : Option ℕ) → option_or b a ≡ met a b []
  unfolding met pick
  met-end (Some a) (Some b) = refl
  met-end None (Some b) = refl
  met-end (Some a) None = refl
  met-end None None = refl

  met_step : (a b : Option ℕ) (d : ℕ) (ds : List ℕ) (t : Bool) → before (way d) v ≡ t
      → met (Some (later_of way a d (way d))) (cond t (Some (later_of way b d (way d))) b) ds ≡ met a b (d ∷ ds)
  unfolding met pick first_clockwise
  met_step (Some a) (Some b) d ds true e = rw e
  met_step None (Some b) d ds true e = rw e
  met_step (Some a) None d ds true e = rw e
  met_step None None d ds true e = rw e
  met_step (Some a) (Some b) d ds false e = rw e
  met_step None (Some b) d ds false e = rw e
  met_step (Some a) None d ds false e = rw e
  met_step None None d ds false e = rw e

  scan : (h : Choice) (ds : List ℕ) → answer (fold (chosen_of way v) h ds) ≡ met h.all h.below ds
  scan h [] = met-end h.all h.below
  scan h (d ∷ ds) = scan (chosen_of way v h d) ds ∙ met_step h.all h.below d ds (before (way d) v) refl

  -- the scan of all
  pub scan_all : (ds : List ℕ) → answer (fold (chosen_of way v) no_choice ds) ≡ first_met way v ds
  unfolding met
  scan_all ds = scan no_choice ds

  -- ---- a turn of the loop at position i

  module _ (f : ℕ → Bool) (h : Choice) (i n : ℕ) where
    -- the choice after all that are left
    abbrev pub left : Choice
    left = fold (chosen_of way v) h (keep f (table (λ p. p) i (n - i)))

    pub scan_hit : i < n → f i ≡ true → left
        ≡ fold (chosen_of way v) (chosen_of way v h i) (keep f (table (λ p. p) (i + 1) (n - (i + 1))))
    scan_hit t e = rw (table_step (λ p. p) i n t, e)

    pub scan_miss : i < n → f i ≡ false → left ≡ fold (chosen_of way v) h (keep f (table (λ p. p) (i + 1) (n - (i + 1))))
    scan_miss t e = rw (table_step (λ p. p) i n t, e)

    pub scan_end : n ≤ i → left ≡ h
    scan_end t = rw (table-end (λ p. p) i n t)

  -- ---- the choice made of parts

  module _ (h : Choice) (p : ℕ) (w : Way) (r : ℕ) (is : w ≡ way p) (all : r ≡ later_of way h.all p w) where
    latest : r ≡ later_of way h.all p (way p)
    latest = all ∙ ap (later_of way h.all p) is

    -- p does not come before v
    pub chosen_past : before w v ≡ false → record { all = Some r; below = h.below } ≡ chosen_of way v h p
    chosen_past e =
        let f : before (way p) v ≡ false = ap (λ (x : Way). before x v) (sym is) ∙ e in
        λ i. record {
          all = Some (latest i);
          below = cond (sym f i) (Some (later_of way h.below p (way p))) h.below;
        }

    -- p does
    pub chosen_under : (b : ℕ) → b ≡ later_of way h.below p w → before w v ≡ true
        → record { all = Some r; below = Some b } ≡ chosen_of way v h p
    chosen_under b g e =
        let f : before (way p) v ≡ true = ap (λ (x : Way). before x v) (sym is) ∙ e in
        let k = g ∙ ap (later_of way h.below p) is in
        λ i. record { all = Some (latest i); below = cond (sym f i) (Some (k i)) h.below }

  -- what is chosen has what all that are passed have
  module _ (P : ℕ → Type 0) where
    later_has : (o : Option ℕ) (p : ℕ) (w : Way) → P p → IfSome o P → P (later_of way o p w)
    later_has (Some k) p w h g = cond_has P (before (way k) w) h g
    later_has None p w h g = h

    below_has : (t : Bool) (o : Option ℕ) (k : ℕ) → P k → IfSome o P → IfSome (cond t (Some k) o) P
    below_has true o k h g = h
    below_has false o k h g = g

    pub chosen_has : (h : Choice) (p : ℕ) → P p → IfSome h.all P → IfSome h.below P
        → IfSome (chosen_of way v h p).all P × IfSome (chosen_of way v h p).below P
    chosen_has h p a x y = (
      later_has h.all p (way p) a x,
      below_has (before (way p) v) h.below (later_of way h.below p (way p)) (later_has h.below p (way p) a y) y,
    )
