-- What the four contacts of two segments mean, which points and segments a curve has, when curves are simple and share
-- common ends only, and how a segment of each meet. Definitions only.
use Rattle.std.specs.Prelude.{◌≡◌, List, [], ◌∷◌, ◌⊎◌, ◌≢◌, ℕ, zero, suc}
use Rattle.plane.specs.declared.Point.{Point}
use Rattle.plane.specs.declared.Contact.{Contact}
use Rattle.plane.specs.declared.Contact.TheVariants.{None, Touch, Crossing, Stretch}
use Rattle.curves.specs.Curves.{last_of}
use Rattle.geometry.specs.Spots.{Spot, Same, At, OnSeg}

-- ---- two segments

-- the spot is on both segments
abbrev pub Shared : Point → Point → Point → Point → Spot → Type 0
Shared a b c d P = OnSeg P a b × OnSeg P c d

-- the spot is on both, and no other is
pub record Single (a b c d : Point) : Type 0 where
  pub spot : Spot
  pub on : Shared a b c d spot
  pub only : (P Q : Spot) → Shared a b c d P → Shared a b c d Q → Same P Q

-- it is no end of either
pub record Inner (a b c d : Point) (P : Spot) : Type 0 where
  pub not_a : At P a → ⊥
  pub not_b : At P b → ⊥
  pub not_c : At P c → ⊥
  pub not_d : At P d → ⊥

-- two different spots are on both
pub record Double (a b c d : Point) : Type 0 where
  pub one : Spot
  pub two : Spot
  pub on_one : Shared a b c d one
  pub on_two : Shared a b c d two
  pub differ : Same one two → ⊥

abbrev pub Means : Contact → Point → Point → Point → Point → Type 0
Means None a b c d = (P : Spot) → Shared a b c d P → ⊥
Means Touch a b c d = (s : Single a b c d) × (At s.spot a ⊎ At s.spot b ⊎ At s.spot c ⊎ At s.spot d)
Means Crossing a b c d = (s : Single a b c d) × Inner a b c d s.spot
Means Stretch a b c d = Double a b c d

-- ---- the curve a ∷ r

-- it has a segment
abbrev pub Some : List Point → Type 0
Some [] = ⊥
Some (b ∷ r) = Unit {0}

-- the spot lies on one of its segments
abbrev pub On : Spot → Point → List Point → Type 0
On P a [] = ⊥
On P a (b ∷ r) = OnSeg P a b ⊎ On P b r

-- it lies on segment i, counted from 0, which ends in point i + 1
abbrev pub OnNth : Spot → Point → List Point → ℕ → Type 0
OnNth P a [] i = ⊥
OnNth P a (b ∷ r) zero = OnSeg P a b
OnNth P a (b ∷ r) (suc i) = OnNth P b r i

abbrev pub point_of : Point → List Point → ℕ → Point
point_of a r zero = a
point_of a [] (suc i) = a
point_of a (b ∷ r) (suc i) = point_of b r i

-- neighbouring points differ
abbrev pub Differ : Point → List Point → Type 0
Differ a [] = Unit {0}
Differ a (b ∷ r) = (a ≢ b) × Differ b r

-- each segment shares with what follows its last point only
abbrev pub SimpleArc : Point → List Point → Type 0
SimpleArc a [] = Unit {0}
SimpleArc a (b ∷ r) = ((P : Spot) → OnSeg P a b → On P b r → At P b) × SimpleArc b r

-- the same, but the first segment may share its first point with the end of a closed curve
abbrev pub Simple : Point → List Point → Type 0
Simple a [] = Unit {0}
Simple a (b ∷ r) = ((P : Spot) → OnSeg P a b → On P b r → At P b ⊎ (At P a × (last_of b r ≡ a))) × SimpleArc b r

-- u v is one of its segments
abbrev pub IsSeg : Point → Point → Point → List Point → Type 0
IsSeg u v a [] = ⊥
IsSeg u v a (b ∷ r) = ((u ≡ a) × (v ≡ b)) ⊎ IsSeg u v b r

-- the spot is an end
abbrev pub End : Spot → Point → List Point → Type 0
End P a r = At P a ⊎ At P (last_of a r)

-- two curves share no point but common ends
abbrev pub Clear : Point → List Point → Point → List Point → Type 0
Clear a r b s = (P : Spot) → On P a r → On P b s → End P a r × End P b s

-- a segment of a ∷ r and one of b ∷ s have this contact
pub record Meet (k : Contact) (a : Point) (r : List Point) (b : Point) (s : List Point) : Type 0 where
  pub from : Point
  pub to : Point
  pub from' : Point
  pub to' : Point
  pub one : IsSeg from to a r
  pub other : IsSeg from' to' b s
  pub means : Means k from to from' to'
