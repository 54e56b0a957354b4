-- What holds after every list of tickets (specs/Claims.antt), proved ticket by ticket: the tables always hold a good
-- map that fits. Assumes nothing.
use mathlib.Core.Path.{◌≡◌, refl, sym, ap, ap₂, ◌∙◌, subst}
use mathlib.Core.Logic.{◌≢◌}
use mathlib.Core.Bool.{true, not}
use mathlib.Core.List.Memᴰ
use mathlib.Core.List.{List, [], ◌∷◌, ◌++◌, Memᴰ}
use mathlib.Core.Option.{Option, none, some}
use Prim.Native.Nat.{ℕ, zero, suc, ◌≤◌}
use native.Mathlib.Omega.{arith}
use lib.IntN.{ℤ}
use Rattle.planar_maps.specs.Map.{Dart}
use Rattle.map.specs.Limits.{max_nodes, max_edges, max_faces, node_width, edge_width, face_width}
use Rattle.map.specs.Rows.{Map, Lent, Sizes, empty_map, map_of, lent_of, sizes_of, whole}
use Rattle.map.specs.Darts.{directed, bears}
use Rattle.map.specs.Form.{in_form}
use Rattle.map.specs.Links.{obeys_law}
use Rattle.map.specs.Tickets.{Ticket, read}
use Rattle.map.specs.Reasons.{first_reason, reasons}
use Rattle.map.specs.Ticket.{carried, lent_reasons, unless, judged, ticket}
use Rattle.map.specs.Grow.{after, grow}
use Rattle.map.specs.Sound.{Sound}
use Rattle.map.proofs.RoundTrip.{whole_tables}
use Rattle.tables.proofs.Filled.{whole_rows_lem}
use Rattle.map.proofs.Reasons.{first_zero}
use Rattle.grown.specs.Good.{Good, Fits}
use Rattle.grown.specs.Claims.{GrownMap, Grows, Limited, NeverLent}
use Rattle.grown.proofs.Law.Lawful.{law_is}
use Rattle.grown.proofs.Short.{fits_kept}
use Rattle.grown.proofs.Sounds.{good_sound}
use Rattle.grown.proofs.Ranges.{good_back, sizes_back, good_in_form, good_whole}
use Rattle.grown.proofs.Growth.{good_kept, empty_good}

-- ---- what is carried from ticket to ticket

-- the tables hold a good map that fits
pub record State (s : Sizes) (l : Lent) : Type 0 where
  pub map : Map
  pub good : Good map
  pub fits : Fits s map
  pub lent : l ≡ lent_of s map

module _ (s : Sizes) (m : Map) (g : Good m) (f : Fits s m) where
  pub here : State s (lent_of s m)
  here = record { map = m; good = g; fits = f; lent = refl }

  -- what nothing turns down in the tables nothing turns down in the map
  pub free : (t : Ticket)
      → first_reason (lent_reasons (lent_of s m) ++ reasons (sizes_of (lent_of s m)) (map_of (lent_of s m)) t) ≡ 0
      → first_reason (reasons s m t) ≡ 0
  free t h =
      let l = lent_of s m in
      let h₁ = first_zero 1 (not (whole l)) _ (omega arith) h in
      let h₂ = first_zero 2 (not (in_form l)) (reasons (sizes_of l) (map_of l) t) (omega arith) h₁.1 in
      ap₂ (λ (z : Sizes) (x : Map). first_reason (reasons z x t)) (sym (sizes_back m g s f)) (sym (good_back m g s))
      ∙ h₂.1

  carry : (t : Ticket) (n : ℕ)
      → first_reason (lent_reasons (lent_of s m) ++ reasons (sizes_of (lent_of s m)) (map_of (lent_of s m)) t) ≡ n
      → State s (unless (lent_of s m) n (carried (map_of (lent_of s m)) t)).lent
  carry t zero h = record {
    map = (carried m t).0;
    good = good_kept s m g t (free t h);
    fits = fits_kept s m g t (free t h) f;
    lent = ap₂ (λ (z : Sizes) (x : Map). lent_of z (carried x t).0) (sizes_back m g s f) (good_back m g s);
  }
  carry t (suc n) h = here

  judge : (o : Option Ticket) → State s (judged (lent_of s m) (map_of (lent_of s m)) o).lent
  judge none = here
  judge (some t) = carry t _ refl

-- one ticket
step : (s : Sizes) (l : Lent) (t : List ℤ) → State s l → State s (ticket l t).lent
unfolding ticket
step s l t x = subst (λ (k : Lent). State s (judged k (map_of k) (read t)).lent) (sym x.lent)
    (judge s x.map x.good x.fits (read t))

-- a list of tickets
pub steps : (s : Sizes) (l : Lent) (ts : List (List ℤ)) → State s l → State s (after l ts).lent
unfolding after
steps s l [] x = x
steps s l (t ∷ ts) x = steps s (ticket l t).lent ts (step s l t x)

pub grown_state : (s : Sizes) → 1 ≤ s.faces → (ts : List (List ℤ)) → State s (grow s ts).lent
unfolding grow
grown_state s h ts = steps s (lent_of s empty_map) ts
    (here s empty_map empty_good (
    record {
      nodes = omega arith;
      edges = omega arith;
      faces = h;
      short = λ e k. absurd (Memᴰ.not-nil k);
    }))

-- whole tables are within the limits
pub whole_limited : (l : Lent) → whole l ≡ true → Limited (sizes_of l)
whole_limited l h =
    let w = whole_tables l h in
    let f = whole_rows_lem face_width 1 max_faces l.faces w.2 in
    record {
      some_face = f.least;
      nodes = (whole_rows_lem node_width 0 max_nodes l.nodes w.0).most;
      edges = (whole_rows_lem edge_width 0 max_edges l.edges w.1).most;
      faces = f.most;
    }

-- ---- the theorem

-- what is lent in such a state
pub state_grown : {s : Sizes} {l : Lent} → State s l → GrownMap l
state_grown {s} {l} x =
    let m = x.map in
    let back : map_of l ≡ m = ap map_of x.lent ∙ good_back m x.good s in
    record {
      sound = subst Sound (sym back) (good_sound m x.good);
      in_form = ap in_form x.lent ∙ good_in_form m x.good s x.fits;
      lawful = ap obeys_law back ∙ law_is m x.good.woven.law;
      borne =
          subst (λ (q : Map). (f : ℕ) → Memᴰ f q.faces → f ≢ 0
          → (d : Dart) × Memᴰ d (directed q) × (bears q d ≡ f)) (sym back) x.good.woven.borne;
    }

pub grows : Grows
grows s h ts = state_grown (grown_state s h ts)

pub never_lent : NeverLent
unfolding first_reason
never_lent s h ts = go (grown_state s h.some_face ts)
  where
    go : State s (grow s ts).lent → first_reason (lent_reasons (grow s ts).lent) ≡ 0
    go x =
        let w : whole (grow s ts).lent ≡ true = ap whole x.lent
        ∙ good_whole x.map x.good s x.fits h.some_face h.nodes h.edges h.faces in
        rw (w, (grows s h.some_face ts).in_form)
