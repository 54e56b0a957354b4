-- A split that is healed at once gives the sheet back (specs/Claims.antt): in every state that tickets can reach, hence
-- on every grown map. Assumes nothing.
use mathlib.Core.Path.{◌≡◌, refl, sym, ap, ap₂, ◌∙◌, subst}
use mathlib.Core.Bool.{true, false, not, ◌&&◌}
use mathlib.Core.List.{[], ◌∷◌, ◌++◌, map, flat_map}
use mathlib.Core.Option.{Option, some}
use Prim.Native.Nat.{ℕ, zero, suc, ◌+◌, ◌*◌, ◌≤◌, ◌<◌}
use native.Mathlib.Nat.{add-zero}
use native.Mathlib.Omega.{arith}
use borrow.Author.Tests.{le-ltb, lt-ltb, not-false}
use lib.Dec.{ltb, lit<}
use lib.IntN.{ℤ, pos, nat_abs}
use lib.ListN.{length, length-append, length-map}
use lib.Signed.{non_neg}
use Rattle.lists.specs.Members.{Distinct}
use Rattle.lists.specs.Scans.{is_some}
use Rattle.lists.proofs.Bools.{same_false, and-true, or_no, or_left, or_right}
use Rattle.lists.proofs.Perms.{perm_length}
use Rattle.tables.specs.Tables.{filled}
use Rattle.plane.specs.declared.Point.{Point}
use Rattle.curves.specs.Curves.{Curve, point, points}
use Rattle.map.specs.declared.Variant.TheVariants.{New, Mod}
use Rattle.map.specs.declared.Answer.{Answer}
use Rattle.map.specs.Limits.{PointLimit, most_points, last_number, face_width}
use Rattle.map.specs.Rows.{Map, Lent, Sizes, map_of, face_cells, lent_with, lent_of, head_of, sizes_of, whole, has_edge}
use Rattle.map.specs.Rows.{edge, given, without_edge, counts}
use Rattle.map.specs.Tickets.{Ticket, NewEdgesSplit, ModEdgeSplit, NewEdgeHeal, ModEdgeHeal, read}
use Rattle.map.specs.Edits.{split, heal, healed_curve}
use Rattle.map.specs.Reasons.{Reasons, first_reason, reasons, heal_reasons, no_edge, spent}
use Rattle.map.specs.Ticket.{Outcome, refused, carried, lent_reasons, unless, judged, ticket}
use Rattle.map.specs.Grow.{grow}
use Rattle.map.proofs.Reasons.{first_hit, first_miss, first_none, first_zero, first_after}
use Rattle.map.proofs.Laws.{edge_there_lem}
use Rattle.map_laws.proofs.Readings.{number_of, nums-rows}
use Rattle.map_laws.proofs.Reasons.{Split, split_new, split-mod}
use Rattle.grown.specs.Good.{Good, Fits}
use Rattle.grown.specs.Claims.{Limited, raised, restored, Cancels, SplitCancelled, links_renamed, renumbered}
use Rattle.grown.specs.Claims.{renewed, Renews, SplitRenewed, Spends, SplitSpent}
use Rattle.grown.proofs.Short.{fits_kept}
use Rattle.grown.proofs.Law.Lawful.{good_lawful}
use Rattle.grown.proofs.Law.Split.{new_halves, kept_halves}
use Rattle.grown.proofs.Growth.{good_kept}
use Rattle.grown.proofs.Ranges.{good_back, sizes_back, good_in_form, good_whole}
use Rattle.grown.proofs.Grows.{State, free, grown_state, whole_limited}
use Rattle.grown.proofs.SplitsRows.{rows_m}
use Rattle.grown.proofs.Rectangles.{renumbered-rectangle}
use Rattle.grown.proofs.Rejoined.{Rejoin, rejoin}
use Rattle.grown.proofs.HealsBack.{kept_back, new_back}

-- ---- a ticket on the tables of a good map

abbrev tried : Lent → Ticket → Outcome
tried l t = judged l (map_of l) (some t)

unless-zero : (l : Lent) (n : ℕ) (c : Map × ℤ) → (unless l n c).answer.refusal ≡ 0 → n ≡ 0
unless-zero l zero c h = refl
unless-zero l (suc n) c h = h

module _ (s : Sizes) (m : Map) (g : Good m) (f : Fits s m) (t : Ticket) where
  -- what a ticket that is carried out tells
  record Out : Type 0 where
    limited : Limited s
    free : first_reason (reasons s m t) ≡ 0
    good : Good (carried m t).0
    fits : Fits s (carried m t).0
    lent : (tried (lent_of s m) t).lent ≡ lent_of s (carried m t).0

  carried_out : (tried (lent_of s m) t).answer.refusal ≡ 0 → Out
  carried_out h =
      let l = lent_of s m in
      let z = unless-zero l _ (carried (map_of l) t) h in
      let w = not-false (whole l) (first_zero 1 (not (whole l)) _ (lit< tt) z).0 in
      let q = free s m g f t z in
      record {
        limited = subst Limited (sizes_back m g s f) (whole_limited l w);
        free = q;
        good = good_kept s m g t q;
        fits = fits_kept s m g t q f;
        lent =
            ap (λ (n : ℕ). (unless l n (carried (map_of l) t)).lent) z
            ∙ ap₂ (λ (y : Sizes) (x : Map). lent_of y (carried x t).0) (sizes_back m g s f) (good_back m g s);
      }

  -- the answer goes by the map alone
  answered : Limited s → (n : ℕ) → first_reason (reasons s m t) ≡ n
      → tried (lent_of s m) t ≡ unless (lent_of s m) n (carried m t)
  unfolding first_reason
  answered w n h =
      ap (λ (k : ℕ). unless l k (carried (map_of l) t)) (first ∙ ap₂ by (sizes_back m g s f) (good_back m g s) ∙ h)
      ∙ ap (λ (x : Map). unless l n (carried x t)) (good_back m g s)
    where
      l : Lent
      l = lent_of s m

      by : Sizes → Map → ℕ
      by z x = first_reason (reasons z x t)

      first : first_reason (lent_reasons (lent_of s m) ++ reasons (sizes_of (lent_of s m)) (map_of (lent_of s m)) t)
          ≡ first_reason (reasons (sizes_of (lent_of s m)) (map_of (lent_of s m)) t)
      first = rw (good_whole m g s f w.some_face w.nodes w.edges w.faces, good_in_form m g s f)

-- ---- no reason against the heal, but that no number is left

-- rows are named by plain numbers
plain : (m : Map) (e : ℤ) (rs : Reasons) → first_reason ((4, no_edge m e) ∷ rs) ≡ 0 → non_neg e ≡ true
plain m e rs h =
    let has = not-false (non_neg e && has_edge m (nat_abs e)) (first_zero 4 (no_edge m e) rs (lit< tt) h).0 in
    (and-true (non_neg e) (has_edge m (nat_abs e)) has).0

heal-free : (s : Sizes) (m m' : Map) (e n : ℕ) (a b : ℤ) → Rejoin m m' e n (nat_abs a) (nat_abs b)
    → length (points (edge m e).curve) ≤ most_points s.limit → non_neg a ≡ true → non_neg b ≡ true
    → first_reason (heal_reasons s m' a b) ≡ 0
heal-free s m m' e n a b j few ha hb =
    let i = nat_abs a in
    let k = nat_abs b in
    first_miss 4 _ _ (or_no {a = no_edge m' a} {b = no_edge m' b} (rw (ha, j.has_first)) (rw (hb, j.has_second)))
    ∙ first_miss 16 _ _ (or_no (same_false i k j.differ) j.shared)
    ∙ first_miss 17 _ _ (ap (λ (o : Option ℕ). not (is_some o)) j.joint)
    ∙ first_miss 18 _ _ (le-ltb (most_points s.limit) (length (points (healed_curve m' i k)))
    (subst (λ (c : Curve). length (points c) ≤ most_points s.limit) (sym j.curve) few))
    ∙ first_none

-- ---- the tables afterwards

head_raised : (k : PointLimit) (a b : ℕ) (m : Map) → head_of k (given (counts a b 0) m) ≡ raised a b (head_of k m)
head_raised k a b m = λ i. record {
  nodes = pos (length m.nodes);
  edges = pos (length m.edges);
  faces = pos (length m.faces);
  next_node = pos (m.next.nodes + a);
  next_edge = pos (m.next.edges + b);
  next_face = pos (add-zero m.next.faces i);
  points = pos (most_points k);
}

restored_is : (s : Sizes) (m : Map) → lent_of s (given (counts 1 1 0) m) ≡ (restored (lent_of s m)).lent
unfolding lent_with
restored_is s m = λ i. record {
  nodes = (lent_of s m).nodes;
  edges = (lent_of s m).edges;
  faces = (lent_of s m).faces;
  head = head_raised s.limit 1 1 m i;
}

module _ (s : Sizes) (m : Map) (g : Good m) (f : Fits s m) where
  once : Distinct (map number_of m.edges)
  once = subst Distinct (nums-rows m) (good_lawful m g).once

  -- there are as many edges as before
  renumbered_head : (e h : ℕ) → has_edge m e ≡ true → head_of s.limit (renumbered e h m) ≡ head_of s.limit m
  unfolding renumbered
  renumbered_head e h has = λ i. record {
    nodes = pos (length m.nodes);
    edges = pos (count i);
    faces = pos (length m.faces);
    next_node = pos m.next.nodes;
    next_edge = pos m.next.edges;
    next_face = pos m.next.faces;
    points = pos (most_points s.limit);
  }
    where
      count : length (renumbered e h m).edges ≡ length m.edges
      count =
          length-append (map (links_renamed e h) (without_edge e m.edges)) _
          ∙ ap (λ (k : ℕ). k + 1) (length-map (without_edge e m.edges) (links_renamed e h))
          ∙ (let k = perm_length (rows_m m e (λ r. r) (λ r. refl) once has) in omega arith)

  renewed_is : (e h : ℕ) → has_edge m e ≡ true
      → lent_of s (given (counts 1 3 0) (renumbered e h m)) ≡ (renewed e h (lent_of s m)).lent
  unfolding lent_with renumbered
  renewed_is e h has = λ i. record {
    nodes = (lent_of s m).nodes;
    edges = (lent_of (sym (sizes_back m g s f) i) (renumbered e h (sym (good_back m g s) i))).edges;
    faces = filled (s.faces * face_width)
        (flat_map (face_cells (λ n. renumbered-rectangle m e h once has n i)) m.faces);
    head = (head_raised s.limit 1 3 (renumbered e h m) ∙ ap (raised 1 3) (renumbered_head e h has)) i;
  }

-- ---- the two pairs, on a good map

module _ (s : Sizes) (m : Map) (g : Good m) (f : Fits s m) (e x y : ℤ) where
  abbrev k : ℕ
  k = nat_abs e

  abbrev p : Point
  p = point x y

  -- the curve that is split has no more points than the map was created for
  few : has_edge m k ≡ true → length (points (edge m k).curve) ≤ most_points s.limit
  few has = f.short (edge m k) (edge_there_lem m k has).0

  -- ---- kinds 8 and 10

  abbrev t₈ : Ticket
  t₈ = ModEdgeSplit e x y

  abbrev t₁₀ : Ticket
  t₁₀ = ModEdgeHeal e (pos m.next.edges)

  cancel : (tried (lent_of s m) t₈).answer.refusal ≡ 0 → tried (tried (lent_of s m) t₈).lent t₁₀ ≡ restored (lent_of s m)
  unfolding reasons carried
  cancel h =
      ap (λ (l : Lent). tried l t₁₀) o.lent
      ∙ answered s m' o.good o.fits t₁₀ o.limited 0 reason
      ∙ (λ i. record { lent = lent_of (sizes_back m' o.good s o.fits i) (back i); answer = zero-answer })
      ∙ (λ i. record { lent = restored_is s m i; answer = zero-answer })
    where
      zero-answer : Answer
      zero-answer = record { refusal = 0; value = pos 0 }

      o : Out s m g f t₈
      o = carried_out s m g f t₈ h

      q : Split Mod s m k p
      q = split-mod s m e x y o.free

      m' : Map
      m' = split Mod k p m

      j : Rejoin m m' k m.next.nodes k m.next.edges
      j = rejoin m m' k _ k m.next.edges p g (kept_halves m k p (good_lawful m g) q.has q.free q.on)

      reason : first_reason (heal_reasons s m' e (pos m.next.edges)) ≡ 0
      reason = heal-free s m m' k _ e (pos m.next.edges) j (few q.has) (plain m e _ o.free) refl

      back : heal Mod k m.next.edges m' ≡ given (counts 1 1 0) m
      back = kept_back m k p g q.has q.free q.on

  -- ---- kinds 7 and 9

  abbrev t₇ : Ticket
  t₇ = NewEdgesSplit e x y

  abbrev t₉ : Ticket
  t₉ = NewEdgeHeal (pos m.next.edges) (pos (m.next.edges + 1))

  module _ (h : (tried (lent_of s m) t₇).answer.refusal ≡ 0) where
    o : Out s m g f t₇
    o = carried_out s m g f t₇ h

    q : Split New s m k p
    q = split_new s m e x y o.free

    abbrev m' : Map
    m' = split New k p m

    good' : Good m'
    unfolding carried
    good' = o.good

    fits' : Fits s m'
    unfolding carried
    fits' = o.fits

    lent' : (tried (lent_of s m) t₇).lent ≡ lent_of s m'
    unfolding carried
    lent' = o.lent

    j : Rejoin m m' k m.next.nodes m.next.edges (m.next.edges + 1)
    j =
        let halves = new_halves m k p (good_lawful m g) q.has q.free q.on in
        rejoin m m' k _ m.next.edges (m.next.edges + 1) p g halves

    -- nothing but 21 can turn the heal down
    answer : (n : ℕ) → first_reason ((21, spent m' (counts 0 1 0)) ∷ []) ≡ n
        → tried (tried (lent_of s m) t₇).lent t₉ ≡ unless (lent_of s m') n (carried m' t₉)
    unfolding reasons
    answer n z =
        let a = pos m.next.edges in
        let b = pos (m.next.edges + 1) in
        let rest = first_after (heal_reasons s m' a b) _ refl (heal-free s m m' k _ a b j (few q.has) refl refl) in
        ap (λ (l : Lent). tried l t₉) lent' ∙ answered s m' good' fits' t₉ o.limited n (rest ∙ z)

    renew : m.next.edges + 2 ≤ last_number
        → tried (tried (lent_of s m) t₇).lent t₉ ≡ renewed k (m.next.edges + 2) (lent_of s m)
    unfolding carried split
    renew low =
        answer 0 (first_miss 21 _ _ left ∙ first_none)
        ∙ (λ i. record {
          lent = lent_of (sizes_back m' good' s fits' i) (new_back m k p g q.has q.free q.on i);
          answer = record { refusal = 0; value = pos (m.next.edges + 2) };
        })
        ∙ (λ i. record {
          lent = renewed_is s m g f k (m.next.edges + 2) q.has i;
          answer = record { refusal = 0; value = pos (m.next.edges + 2) };
        })
      where
        left : spent m' (counts 0 1 0) ≡ false
        left =
            let z = good'.numbered in
            or_no
            (or_no
            (le-ltb (suc last_number) (m.next.nodes + 1 + 0) (omega arith))
            (le-ltb (suc last_number) (m.next.edges + 2 + 1) (omega arith)))
            (le-ltb (suc last_number) (m.next.faces + 0 + 0) (omega arith))

    spend : last_number < m.next.edges + 2
        → tried (tried (lent_of s m) t₇).lent t₉ ≡ refused (tried (lent_of s m) t₇).lent 21
    unfolding split
    spend high = answer 21 (first_hit 21 _ [] none) ∙ ap (λ (l : Lent). refused l 21) (sym lent')
      where
        none : spent m' (counts 0 1 0) ≡ true
        none =
            let z = lt-ltb (suc last_number) (m.next.edges + 2 + 1) (omega arith) in
            or_left (ltb (suc last_number) (m.next.faces + 0 + 0))
            (or_right (ltb (suc last_number) (m.next.nodes + 1 + 0)) (ltb (suc last_number) (m.next.edges + 2 + 1)) z)

-- ---- in every state, hence on every grown map

module _ (s : Sizes) (l : Lent) (z : State s l) where
  pub state_cancels : Cancels l
  unfolding ticket read lent_with
  state_cancels = subst Cancels (sym z.lent) (λ e x y. cancel s z.map z.good z.fits e x y)

  -- the next edge number as the head has it
  head_next : (map_of (lent_of s z.map)).next.edges ≡ z.map.next.edges
  head_next = ap (λ (m : Map). m.next.edges) (good_back z.map z.good s)

  abbrev Renewing : ℤ → ℤ → ℤ → ℕ → Type 0
  Renewing e x y n =
      let l = lent_of s z.map in
      let a = z.map.next.edges in
      n + 2 ≤ last_number
      → tried (tried l (NewEdgesSplit e x y)).lent (NewEdgeHeal (pos a) (pos (a + 1))) ≡ renewed (nat_abs e) (n + 2) l

  pub state_renews : Renews l
  unfolding ticket read lent_with
  state_renews = subst Renews (sym z.lent) (λ e x y h.
      subst (Renewing e x y) (sym head_next) (renew s z.map z.good z.fits e x y h))

  pub state_spends : Spends l
  unfolding ticket read lent_with
  state_spends = subst Spends (sym z.lent) (λ e x y h high.
      spend s z.map z.good z.fits e x y h (subst (λ (n : ℕ). last_number < n + 2) head_next high))

pub split_cancelled : SplitCancelled
split_cancelled s h ts = state_cancels s (grow s ts).lent (grown_state s h ts)

pub split-renewed : SplitRenewed
split-renewed s h ts = state_renews s (grow s ts).lent (grown_state s h ts)

pub split-spent : SplitSpent
split-spent s h ts = state_spends s (grow s ts).lent (grown_state s h ts)
