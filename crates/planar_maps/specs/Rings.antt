-- Rings of a map, and the turn around a node. Definitions only. Assumes nothing.
use Rattle.std.specs.Prelude.{◌≡◌, Bool, ◌&&◌, ℕ}
use Rattle.std.specs.Bool.{beq}
use mathlib.Core.List.{List, Memᴰ}
use Rattle.lists.specs.Tests.{same, iterate}
use Rattle.planar_maps.specs.Map.{Arc, Dart, rev, darts}

unfoldable pub same_dart : Dart → Dart → Bool
same_dart c d = same c.edge d.edge && beq c.back d.back

-- d' is met when f is followed from d
abbrev pub Leads : (Dart → Dart) → Dart → Dart → Type 0
Leads f d d' = (k : ℕ) × (iterate k f d ≡ d')

-- from a departure, the next one about the same node
abbrev pub about_node : (Dart → Dart) → Dart → Dart
about_node next d = next (rev d)

-- the departures from one node all lie on one round of f
abbrev pub Round : List Dart → (Dart → ℕ) → (Dart → Dart) → Type 0
Round ds tail f = (d d' : Dart) → Memᴰ d ds → Memᴰ d' ds → tail d ≡ tail d' → Leads f d d'

-- the edges about a node are met in one turn
abbrev pub OneTurn : List Arc → (Dart → ℕ) → (Dart → Dart) → Type 0
OneTurn es tail next = Round (darts es) tail (about_node next)
