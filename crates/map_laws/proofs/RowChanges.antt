-- What a map reads after one row is changed, appended or left out. Assumes nothing.
use mathlib.Core.Path.{◌≡◌, refl, sym, ap, ◌∙◌, subst}
use mathlib.Core.Logic.{inl, inr, ◌≢◌}
use mathlib.Core.Bool.{Bool, true, false, cond, not}
use mathlib.Core.List.Permᴰ
use mathlib.Core.List.{List, [], ◌∷◌, ◌++◌, map, map-append, Memᴰ, Permᴰ}
use mathlib.Core.Option.{none}
use Prim.Native.Nat.{ℕ}
use Rattle.lists.specs.Tests.{same}
use Rattle.lists.specs.Scans.{keep}
use Rattle.lists.specs.Members.{Distinct}
use Rattle.lists.proofs.Bools.{same_true, same_false, which}
use Rattle.lists.proofs.Keeps.{keep-map}
use Rattle.lists.proofs.Lookups.{look_first, look_second, look_one, look_without, has_without, without_perm, look_none}
use Rattle.lists.proofs.Maps.{map_twice}
use Rattle.plane.specs.Points.{origin}
use Rattle.planar_maps.specs.Map.{Arc, Dart, fwd, bwd, darts}
use Rattle.planar_maps.specs.Pieces.{nums}
use Rattle.map.specs.Rows.{Node, Edge, Map, node, edge, has_edge, at_edge, without_edge}
use Rattle.map.specs.Darts.{arcs, directed}
use Rattle.map.proofs.Laws.{edge_there_lem}
use Rattle.map_laws.proofs.Readings.{look, has, look_at, number_of, missing, arc_of, nums-rows, mapped_edge}
use Rattle.map_laws.proofs.Readings.{mapped_has}

darts-append : (xs ys : List Arc) → darts (xs ++ ys) ≡ darts xs ++ darts ys
darts-append [] ys = refl
darts-append (x ∷ xs) ys = ap (λ (l : List Dart). fwd x.num ∷ bwd x.num ∷ l) (darts-append xs ys)

darts-keep : (e : ℕ) (xs : List Arc) → darts (keep (λ a. not (same a.num e)) xs)
    ≡ keep (λ d. not (same d.edge e)) (darts xs)
darts-keep e [] = refl
darts-keep e (x ∷ xs) = step (same x.num e) (darts-keep e xs)
  where
    step : (b : Bool) → darts (keep (λ a. not (same a.num e)) xs) ≡ keep (λ d. not (same d.edge e)) (darts xs)
        → darts (cond (not b) (x ∷ keep (λ a. not (same a.num e)) xs) (keep (λ a. not (same a.num e)) xs))
        ≡ cond (not b) (fwd x.num ∷ cond (not b) (bwd x.num ∷ keep (λ d. not (same d.edge e)) (darts xs))
        (keep (λ d. not (same d.edge e)) (darts xs)))
        (cond (not b) (bwd x.num ∷ keep (λ d. not (same d.edge e)) (darts xs))
        (keep (λ d. not (same d.edge e)) (darts xs)))
    step true ih = ih
    step false ih = ap (λ (l : List Dart). fwd x.num ∷ bwd x.num ∷ l) ih

-- ---- edges

edge_missing : (m : Map) (e : ℕ) → has_edge m e ≡ false → edge m e ≡ missing
unfolding edge
edge_missing m e h = look_none number_of missing m.edges e h

-- the row e is changed
module _ (e : ℕ) (f : Edge → Edge) (m : Map)
    (keeps : (r : Edge) → Memᴰ r m.edges → r.number ≡ e → (f r).number ≡ e) where
  abbrev changed : Edge → Edge
  changed r = cond (same r.number e) (f r) r

  kept : (r : Edge) → Memᴰ r m.edges → (changed r).number ≡ r.number
  kept r k = step (same r.number e) refl
    where
      step : (b : Bool) → same r.number e ≡ b → (cond b (f r) r).number ≡ r.number
      step true s = keeps r k (same_true r.number e s) ∙ sym (same_true r.number e s)
      step false s = refl

  at_has : (x : ℕ) → has_edge (at_edge e f m) x ≡ has_edge m x
  unfolding at_edge
  at_has x = mapped_has m (at_edge e f m) changed refl kept x

  pub at_other : (x : ℕ) → x ≢ e → edge (at_edge e f m) x ≡ edge m x
  unfolding at_edge
  at_other x ne = elim (which (has_edge m x)) [
    | inl h ↦ mapped_edge m (at_edge e f m) changed refl kept x h ∙ (rw ((edge_there_lem m x h).1, same_false x e ne))
    | inr h ↦ edge_missing (at_edge e f m) x (at_has x ∙ h) ∙ sym (edge_missing m x h)
  ]

-- a row is appended
module _ (m m' : Map) (r : Edge) (E : m'.edges ≡ m.edges ++ r ∷ []) where
  pub more_old : (e : ℕ) → has_edge m e ≡ true → edge m' e ≡ edge m e
  unfolding edge
  more_old e h = ap (λ (es : List Edge). look number_of missing es e) E
      ∙ look_first number_of missing m.edges (r ∷ []) e h

  pub more_new : has_edge m r.number ≡ false → edge m' r.number ≡ r
  unfolding edge
  more_new h = ap (λ (es : List Edge). look number_of missing es r.number) E
      ∙ look_second number_of missing m.edges (r ∷ []) r.number h ∙ look_one number_of missing r

  more_arcs : arcs m' ≡ arcs m ++ arc_of r ∷ []
  more_arcs = ap (map arc_of) E ∙ map-append arc_of m.edges (r ∷ [])

  pub more_directed : directed m' ≡ directed m ++ fwd r.number ∷ bwd r.number ∷ []
  more_directed = ap darts more_arcs ∙ darts-append (arcs m) (arc_of r ∷ [])

  -- the row in front, as the theory of maps has it
  pub more_perm : Permᴰ (arcs m') (arc_of r ∷ arcs m)
  more_perm = subst (λ (l : List Arc). Permᴰ l (arc_of r ∷ arcs m)) (sym more_arcs)
      (Permᴰ.trans (Permᴰ.middle (arc_of r) (arcs m) []) (Permᴰ.cons refl (Permᴰ.append-nil (arcs m))))

-- a row is left out
module _ (m m' : Map) (e : ℕ) (E : m'.edges ≡ without_edge e m.edges) where
  pub less_has : (x : ℕ) → x ≢ e → has_edge m' x ≡ has_edge m x
  less_has x ne = ap (λ (es : List Edge). has number_of es x) E ∙ has_without number_of e m.edges x ne

  pub less_edge : (x : ℕ) → x ≢ e → edge m' x ≡ edge m x
  unfolding edge
  less_edge x ne = ap (λ (es : List Edge). look number_of missing es x) E
      ∙ look_without number_of missing e m.edges x ne

  less_arcs : arcs m' ≡ keep (λ a. not (same a.num e)) (arcs m)
  less_arcs = ap (map arc_of) E ∙ sym (keep-map arc_of (λ r. not (same r.number e)) (λ a. not (same a.num e))
      m.edges (λ r k. refl))

  pub less_directed : directed m' ≡ keep (λ d. not (same d.edge e)) (directed m)
  less_directed = ap darts less_arcs ∙ darts-keep e (arcs m)

  -- the row in front, as the theory of maps has it
  pub less_perm : Distinct (nums (arcs m)) → has_edge m e ≡ true → Permᴰ (arcs m) (arc_of (edge m e) ∷ arcs m')
  unfolding edge
  less_perm dis h = subst (λ (es : List Edge). Permᴰ (arcs m) (arc_of (edge m e) ∷ map arc_of es)) (sym E)
      (Permᴰ.map arc_of (without_perm number_of missing m.edges e (subst Distinct (nums-rows m) dis) h))

-- ---- nodes

abbrev pub node_number : Node → ℕ
node_number n = n.number

-- the numbers of the nodes
abbrev pub node_numbers : Map → List ℕ
node_numbers m = map (λ n. n.number) m.nodes

-- rows changed keep their numbers
pub numbers_kept : (p : Node → Bool) (g : Node → Node) (ns : List Node) → ((n : Node) → (g n).number ≡ n.number)
    → map (λ n. n.number) (map (λ n. cond (p n) (g n) n) ns) ≡ map (λ n. n.number) ns
numbers_kept p g ns h = map_twice (λ (n : Node). n.number) (λ n. cond (p n) (g n) n) _ ns (λ n k. go (p n) n)
  where
    go : (b : Bool) (n : Node) → (cond b (g n) n).number ≡ n.number
    go true n = h n
    go false n = refl

abbrev pub no_node : Node
no_node = record { number = 0; at = origin; face = none }

module _ (m : Map) where
  -- a row is found by its number
  pub node_at_lem : {r : Node} → Distinct (map node_number m.nodes) → Memᴰ r m.nodes → node m r.number ≡ r
  unfolding node
  node_at_lem dis k = look_at node_number no_node m.nodes dis k
