-- How an edge is put into a map, or taken out of it, by changes of `next`. Definitions only. Assumes nothing.
use Rattle.std.specs.Prelude.{◌≡◌, cond, ℕ}
use mathlib.Core.List.{List, Memᴰ}
use Rattle.lists.specs.Tests.{same}
use Rattle.planar_maps.specs.Map.{Dart, fwd, bwd, rev}
use Rattle.planar_maps.specs.Rings.{same_dart}

-- x for y and y for x
unfoldable pub exchange : Dart → Dart → Dart → Dart
exchange x y d = cond (same_dart d x) y (cond (same_dart d y) x d)

-- x goes on as y did, and y as x did
abbrev pub hook : Dart → Dart → (Dart → Dart) → Dart → Dart
hook x y next d = next (exchange x y d)

-- f, but u at e and v at -e
unfoldable pub with_edge : {B : Type 0} → ℕ → B → B → (Dart → B) → Dart → B
with_edge e u v f d = cond (same d.edge e) (cond d.back v u) (f d)

-- an edge by itself: each of its two ways goes on as the other
abbrev pub lone_edge : ℕ → (Dart → Dart) → Dart → Dart
lone_edge e next = with_edge e (bwd e) (fwd e) next

-- where an edge is put at a node: nothing else is there, or after a dart that arrives there
pub data Corner : Type 0 where
  alone : Corner
  after : Dart → Corner

-- y arrives at the node: what follows the corner's dart now follows y, and the other way round
abbrev pub tie : Corner → Dart → (Dart → Dart) → Dart → Dart
tie alone y next = next
tie (after x) y next = hook x y next

-- the edge e, put in at the corner k of its start and the corner k' of its end
abbrev pub woven : ℕ → Corner → Corner → (Dart → Dart) → Dart → Dart
woven e k k' next = tie k' (fwd e) (tie k (bwd e) (lone_edge e next))

-- the corner k is one at the node n, in the face φ; ds are the departures that there are
abbrev pub CornerFits : List Dart → (Dart → ℕ) → (Dart → ℕ) → ℕ → ℕ → Corner → Type 0
CornerFits ds tail face n φ alone = (d : Dart) → Memᴰ d ds → tail d ≡ n → ⊥
CornerFits ds tail face n φ (after p) = Memᴰ (rev p) ds × (tail (rev p) ≡ n) × (face p ≡ φ)

-- the corner from which z is taken out: z goes on as its own way back, or p does
abbrev pub CornerHolds : List Dart → Dart → (Dart → Dart) → Corner → Type 0
CornerHolds ds z next alone = next z ≡ rev z
CornerHolds ds z next (after p) = Memᴰ p ds × (next p ≡ rev z)

-- ---- an edge e from s to t is split at the node n: e from s to n, e' from n to t

-- what departed as -e now departs as -e'
unfoldable pub departs_as : ℕ → ℕ → Dart → Dart
departs_as e e' d = cond (same_dart d (bwd e)) (bwd e') d

abbrev pub split_tail : ℕ → ℕ → ℕ → ℕ → ℕ → (Dart → ℕ) → Dart → ℕ
split_tail e e' s n t tail = with_edge e' n t (with_edge e s n tail)

abbrev pub split_face_lem : ℕ → ℕ → (Dart → ℕ) → Dart → ℕ
split_face_lem e e' face = with_edge e' (face (fwd e)) (face (bwd e)) face

abbrev pub split-next : ℕ → ℕ → (Dart → Dart) → Dart → Dart
split-next e e' next = with_edge e (fwd e') (departs_as e e' (next (bwd e)))
    (with_edge e' (departs_as e e' (next (fwd e))) (bwd e) (λ d. departs_as e e' (next d)))

-- ---- and healed again: e from s to n and e' from n to t become e from s to t

-- what arrived as e now arrives as e'
unfoldable pub arrives_as : ℕ → ℕ → Dart → Dart
arrives_as e e' d = cond (same_dart d (fwd e)) (fwd e') d

abbrev pub heal-next : ℕ → ℕ → (Dart → Dart) → Dart → Dart
heal-next e e' next d = departs_as e' e (next (arrives_as e e' d))
