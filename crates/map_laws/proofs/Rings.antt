-- The ring that is walked lists just what `next` leads to: 2 * edges steps are enough to come round. It is read from
-- the links alone. Assumes nothing.
use mathlib.Core.Path.{◌≡◌, refl, sym, ap, ◌∙◌, subst}
use mathlib.Core.Logic.{◌⊎◌, inl, inr}
use mathlib.Core.Bool.{Bool, true, false, cond, true≢false}
use mathlib.Core.List.Memᴰ
use mathlib.Core.List.{List, [], ◌∷◌, Memᴰ}
use Prim.Native.Nat.{ℕ, zero, suc, ◌+◌, ◌*◌, ◌≤◌, min}
use native.Mathlib.Omega.{arith}
use lib.ListN.{length, length-map}
use Rattle.lists.specs.Tests.{iterate}
use Rattle.lists.specs.Members.{Distinct}
use Rattle.lists.proofs.Members.{each-cons, any_some, some_any}
use Rattle.lists.proofs.Perms.{distinct_length, injective_of_perm}
use Rattle.planar_maps.specs.Map.{Arc, Dart, darts, Linked}
use Rattle.planar_maps.specs.Pieces.{nums}
use Rattle.planar_maps.specs.Rings.{same_dart, Leads}
use Rattle.planar_maps.proofs.Rings.{next_in_lem, closed-turned, same_dart-true, same_dart_refl}
use Rattle.planar_maps.proofs.Hooks.{distinct_darts}
use Rattle.planar_maps.proofs.Leads.{leads_on, leads_join, leads_keep}
use Rattle.map.specs.Rows.{Map}
use Rattle.map.specs.Darts.{arcs, directed, leaves, next, bears, steps_to, ring, among, lowest_edge}

-- two maps whose links are the same have the same rings
module _ (m k : Map) (h : (d : Dart) → next m d ≡ next k d) where
  steps-same : (d : Dart) (j : ℕ) (c : Dart) → steps_to m d j c ≡ steps_to k d j c
  unfolding steps_to
  steps-same d zero c = refl
  steps-same d (suc j) c = rw (h c, steps-same d j (next k c))

  pub ring-same : length m.edges ≡ length k.edges → (d : Dart) → ring m d ≡ ring k d
  unfolding ring
  ring-same e d = ap (λ (j : ℕ). steps_to m d (2 * j) d) e ∙ steps-same d (2 * length k.edges) d

-- as many darts as twice the edges
darts-length : (es : List Arc) → length (darts es) ≡ 2 * length es
darts-length [] = refl
darts-length (a ∷ es) = omega (arith, darts-length es)

-- ---- the walk, with what was visited before

module _ (m : Map) (ds : List Dart) (into : (c : Dart) → Memᴰ c ds → Memᴰ (next m c) ds)
    (one : (b c : Dart) → Memᴰ b ds → Memᴰ c ds → next m b ≡ next m c → b ≡ c) (d : Dart) where
  -- W was visited and c comes now: nothing twice, and all but d were led to from W
  record Walk (W : List Dart) (c : Dart) : Type 0 where
    once : Distinct (c ∷ W)
    inside : (x : Dart) → Memᴰ x (c ∷ W) → Memᴰ x ds
    led : (x : Dart) → Memᴰ x (c ∷ W) → (x ≡ d) ⊎ ((y : Dart) × Memᴰ y W × (next m y ≡ x))

  walk_on : {W : List Dart} {c : Dart} → Walk W c → ((next m c ≡ d) → ⊥) → Walk (c ∷ W) (next m c)
  walk_on {W} {c} w ne = record {
    once = (λ k. again (w.led (next m c) k), w.once);
    inside = each-cons {p = λ x. Memᴰ x ds} (into c (w.inside c (Memᴰ.head refl))) w.inside;
    led = each-cons {p = λ x. (x ≡ d) ⊎ ((y : Dart) × Memᴰ y (c ∷ W) × (next m y ≡ x))}
        (inr (c, Memᴰ.head refl, refl))
        (λ x k. elim (w.led x k) [ inl e ↦ inl e | inr q ↦ inr (q.0, Memᴰ.tail q.1, q.2) ]);
  }
    where
      again : (next m c ≡ d) ⊎ ((y : Dart) × Memᴰ y W × (next m y ≡ next m c)) → ⊥
      again (inl e) = ne e
      again (inr q) = w.once.0 (Memᴰ.cast
          (sym (one q.0 c (w.inside q.0 (Memᴰ.tail q.1)) (w.inside c (Memᴰ.head refl)) q.2))
          q.1)

  -- there are steps left as long as the walk goes on
  walk_here : (k : ℕ) {W : List Dart} {c : Dart} → Walk W c → length ds ≤ length W + k → Memᴰ c (steps_to m d k c)
  unfolding steps_to
  walk_here zero {W} {c} w h = absurd (let e = distinct_length (c ∷ W) ds w.once w.inside in omega arith)
  walk_here (suc k) w h = Memᴰ.head refl

  -- what follows a dart of the walk is on the walk, or is d again
  walk_next : (k : ℕ) {W : List Dart} {c : Dart} → Walk W c → length ds ≤ length W + k → (x : Dart)
      → Memᴰ x (steps_to m d k c) → (next m x ≡ d) ⊎ Memᴰ (next m x) (steps_to m d k c)
  unfolding steps_to
  walk_next zero w h x i = absurd (Memᴰ.not-nil i)
  walk_next (suc k) {W} {c} w h x i = go (same_dart (next m c) d) refl
      (λ (u : Walk (c ∷ W) (next m c)). walk_next k u (omega arith))
      (λ (u : Walk (c ∷ W) (next m c)). walk_here k u (omega arith)) (Memᴰ.cases_cons i)
    where
      go : (b : Bool) → same_dart (next m c) d ≡ b
          → (Walk (c ∷ W) (next m c) → (x : Dart) → Memᴰ x (steps_to m d k (next m c)) → (next m x ≡ d)
          ⊎ Memᴰ (next m x) (steps_to m d k (next m c)))
          → (Walk (c ∷ W) (next m c) → Memᴰ (next m c) (steps_to m d k (next m c))) → (x ≡ c)
          ⊎ Memᴰ x (cond b [] (steps_to m d k (next m c))) → (next m x ≡ d)
          ⊎ Memᴰ (next m x) (c ∷ cond b [] (steps_to m d k (next m c)))
      go true e ih here (inl p) = inl (ap (next m) p ∙ same_dart-true (next m c) d e)
      go true e ih here (inr j) = absurd (Memᴰ.not-nil j)
      go false e ih here (inl p) = inr (Memᴰ.tail
          (Memᴰ.cast (ap (next m) p) (here
          (walk_on w (λ q. true≢false (sym (same_dart_refl d) ∙ ap (λ y. same_dart y d) (sym q) ∙ e))))))
      go false e ih here (inr j) = elim
          (ih (walk_on w (λ q. true≢false (sym (same_dart_refl d) ∙ ap (λ y. same_dart y d) (sym q) ∙ e))) x j) [
            | inl q ↦
                inl q
            | inr q ↦ inr (Memᴰ.tail q)
          ]

  -- nothing stands twice on the walk, nor what was visited before
  walk_once : (k : ℕ) {W : List Dart} {c : Dart} → Walk W c → Distinct (steps_to m d k c)
      × ((x : Dart) → Memᴰ x (steps_to m d k c) → Memᴰ x W → ⊥)
  unfolding steps_to
  walk_once zero w = (tt, λ x i j. Memᴰ.not-nil i)
  walk_once (suc k) {W} {c} w = go (same_dart (next m c) d) refl (λ (u : Walk (c ∷ W) (next m c)). walk_once k u)
    where
      go : (b : Bool) → same_dart (next m c) d ≡ b
          → (Walk (c ∷ W) (next m c) → Distinct (steps_to m d k (next m c))
          × ((x : Dart) → Memᴰ x (steps_to m d k (next m c)) → Memᴰ x (c ∷ W) → ⊥))
          → Distinct (c ∷ cond b [] (steps_to m d k (next m c)))
          × ((x : Dart) → Memᴰ x (c ∷ cond b [] (steps_to m d k (next m c))) → Memᴰ x W → ⊥)
      go true e ih = (
        (Memᴰ.not-nil, tt),
        each-cons {p = λ x. Memᴰ x W → ⊥} w.once.0 (λ x i. absurd (Memᴰ.not-nil i)),
      )
      go false e ih =
          let r = ih (walk_on w (λ q. true≢false (sym (same_dart_refl d) ∙ ap (λ y. same_dart y d) (sym q) ∙ e))) in (
            (λ i. r.1 c i (Memᴰ.head refl), r.0),
            each-cons {p = λ x. Memᴰ x W → ⊥} w.once.0 (λ x i j. r.1 x i (Memᴰ.tail j)),
          )

-- only what `next` leads to is walked
steps-lead : (m : Map) (d : Dart) (k : ℕ) {c : Dart} → Leads (next m) d c → {x : Dart} → Memᴰ x (steps_to m d k c)
    → Leads (next m) d x
unfolding steps_to
steps-lead m d zero r i = absurd (Memᴰ.not-nil i)
steps-lead m d (suc k) {c} r {x} i = go (same_dart (next m c) d) (steps-lead m d k (leads_on r)) (Memᴰ.cases_cons i)
  where
    go : (b : Bool) → (Memᴰ x (steps_to m d k (next m c)) → Leads (next m) d x) → (x ≡ c)
        ⊎ Memᴰ x (cond b [] (steps_to m d k (next m c))) → Leads (next m) d x
    go b ih (inl e) = subst (λ (y : Dart). Leads (next m) d y) (sym e) r
    go true ih (inr j) = absurd (Memᴰ.not-nil j)
    go false ih (inr j) = ih j

-- ---- `among` as membership

pub among_has : (r : List Dart) {c : Dart} → Memᴰ c r → among r c ≡ true
among_has r {c} i = some_any (same_dart c) r i (same_dart_refl c)

pub among_in : (r : List Dart) (c : Dart) → among r c ≡ true → Memᴰ c r
among_in r c e = let q = any_some (same_dart c) r e in Memᴰ.cast (same_dart-true c q.0 q.2) q.1

-- ---- the lowest edge

lowest_le : (e : ℕ) (r : List Dart) → lowest_edge e r ≤ e
lowest_le e [] = omega arith
lowest_le e (d ∷ r) = omega (arith, lowest_le (min e d.edge) r)

lowest_below : (e : ℕ) (r : List Dart) {x : Dart} → Memᴰ x r → lowest_edge e r ≤ x.edge
lowest_below e [] i = absurd (Memᴰ.not-nil i)
lowest_below e (d ∷ r) {x} i = go (Memᴰ.cases_cons i) (lowest_below (min e d.edge) r)
  where
    go : (x ≡ d) ⊎ Memᴰ x r → (Memᴰ x r → lowest_edge (min e d.edge) r ≤ x.edge)
        → lowest_edge (min e d.edge) r ≤ x.edge
    go (inl q) ih = omega (arith, lowest_le (min e d.edge) r, ap (λ (y : Dart). y.edge) q)
    go (inr k) ih = ih k

-- it is reached
lowest_is : (e b : ℕ) (r : List Dart) → b ≤ e → ((x : Dart) → Memᴰ x r → b ≤ x.edge) → b ≤ lowest_edge e r
lowest_is e b [] le h = le
lowest_is e b (d ∷ r) le h = lowest_is (min e d.edge) b r (omega (arith, h d (Memᴰ.head refl)))
    (λ x k. h x (Memᴰ.tail k))

-- ---- the rings of a linked map

module _ (m : Map) (l : Linked (arcs m) (leaves m) (next m) (bears m)) (dis : Distinct (nums (arcs m))) where
  -- no two darts have one next
  pub next_one : (b c : Dart) → Memᴰ b (directed m) → Memᴰ c (directed m) → next m b ≡ next m c → b ≡ c
  next_one = injective_of_perm (next m) (directed m) (distinct_darts (arcs m) dis) l.perm

  module _ (d : Dart) (i : Memᴰ d (directed m)) where
    start : Walk m (directed m) (λ c k. next_in_lem l k) next_one d [] d
    start = record {
      once = (Memᴰ.not-nil, tt);
      inside = each-cons {p = λ x. Memᴰ x (directed m)} i (λ x k. absurd (Memᴰ.not-nil k));
      led = each-cons {p = λ x. (x ≡ d) ⊎ ((y : Dart) × Memᴰ y [] × (next m y ≡ x))} (inl refl)
          (λ x k. absurd (Memᴰ.not-nil k));
    }

    enough : length (directed m) ≤ length {A = Dart} [] + 2 * length m.edges
    enough = omega (
      arith,
      darts-length (arcs m),
      length-map {B = Arc} m.edges (λ e. record { num = e.number; from = e.start; to = e.end }),
    )

    -- the ring holds its first dart and all that follow
    pub ring_here : Memᴰ d (ring m d)
    unfolding ring
    ring_here = walk_here m (directed m) (λ c k. next_in_lem l k) next_one d (2 * length m.edges) start enough

    ring-next : (x : Dart) → Memᴰ x (ring m d) → Memᴰ (next m x) (ring m d)
    unfolding ring
    ring-next x k = elim (walk_next m (directed m) (λ c k. next_in_lem l k) next_one d
        (2 * length m.edges) start enough x k) [ inl e ↦ Memᴰ.cast e ring_here | inr q ↦ q ]

    pub ring_has : {c : Dart} → Leads (next m) d c → Memᴰ c (ring m d)
    ring_has r = leads_keep (λ x. Memᴰ x (ring m d)) (next m) ring-next ring_here r

    pub ring_leads : {c : Dart} → Memᴰ c (ring m d) → Leads (next m) d c
    unfolding ring
    ring_leads k = steps-lead m d (2 * length m.edges) (zero, refl) k

    -- nothing stands twice on it
    pub ring_once : Distinct (ring m d)
    unfolding ring
    ring_once = (walk_once m (directed m) (λ c k. next_in_lem l k) next_one d (2 * length m.edges) start).0

    -- a dart is on the ring where the next one is
    pub ring_alike : (x : Dart) → Memᴰ x (directed m) → among (ring m d) (next m x) ≡ among (ring m d) x
    ring_alike = closed-turned l (λ x. among (ring m d) x)
        (λ x k e. among_has (ring m d) (ring-next x (among_in (ring m d) x e)))

  leads_in : {c d : Dart} → Memᴰ c (directed m) → Leads (next m) c d → Memᴰ d (directed m)
  leads_in i r = leads_keep (λ x. Memᴰ x (directed m)) (next m) (λ x k. next_in_lem l k) i r

  -- what is led to leads back
  pub leads_back : {c d : Dart} → Memᴰ c (directed m) → Leads (next m) c d → Leads (next m) d c
  leads_back {c} {d} i r = ring_leads d (leads_in i r) (among_in (ring m d) c (back r))
    where
      steps : (k : ℕ) → Memᴰ (iterate k (next m) c) (directed m)
          × (among (ring m d) (iterate k (next m) c) ≡ among (ring m d) c)
      steps zero = (i, refl)
      steps (suc k) = go (steps k)
        where
          go : Memᴰ (iterate k (next m) c) (directed m)
              × (among (ring m d) (iterate k (next m) c) ≡ among (ring m d) c)
              → Memᴰ (iterate (suc k) (next m) c) (directed m)
              × (among (ring m d) (iterate (suc k) (next m) c) ≡ among (ring m d) c)
          go q = (next_in_lem l q.0, ring_alike d (leads_in i r) (iterate k (next m) c) q.0 ∙ q.1)

      back : Leads (next m) c d → among (ring m d) c ≡ true
      back q = sym (steps q.0).1 ∙ ap (among (ring m d)) q.1 ∙ among_has (ring m d) (ring_here d (leads_in i r))

  -- two darts of one ring have the same ring, and so its lowest edge
  pub lowest_same : {c d : Dart} → Memᴰ c (directed m) → Leads (next m) c d → lowest_edge d.edge (ring m d)
      ≡ lowest_edge c.edge (ring m c)
  lowest_same {c} {d} i r = let p = half i r in let q = half (leads_in i r) (leads_back i r) in omega arith
    where
      half : {c d : Dart} → Memᴰ c (directed m) → Leads (next m) c d
          → lowest_edge c.edge (ring m c) ≤ lowest_edge d.edge (ring m d)
      half {c} {d} i r = lowest_is d.edge (lowest_edge c.edge (ring m c)) (ring m d)
          (lowest_below c.edge (ring m c) (ring_has c i r))
          (λ x k. lowest_below c.edge (ring m c) (ring_has c i (leads_join r (ring_leads d (leads_in i r) k))))
