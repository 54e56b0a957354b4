-- Rational points, the points of a segment, and directions. Definitions only.
use Rattle.std.specs.Prelude.{◌≡◌, List, [], ◌∷◌, ◌⊎◌, ◌≢◌, ℕ, ◌+◌, ◌*◌, ◌<◌}
use Rattle.std.proofs.Common.{lit<}
use Rattle.plane.specs.declared.Point.{Point}

-- the point (x / d, y / d)
pub record Spot : Type 0 where
  pub x : ℕ
  pub y : ℕ
  pub d : ℕ
  pub some : 0 < d

abbrev pub spot : Point → Spot
spot p = record { x = p.x; y = p.y; d = 1; some = lit< tt }

-- two spots are one
pub record Same (P Q : Spot) : Type 0 where
  pub x : P.x * Q.d ≡ Q.x * P.d
  pub y : P.y * Q.d ≡ Q.y * P.d

-- the spot is the point a
pub record At (P : Spot) (a : Point) : Type 0 where
  pub x : P.x ≡ P.d * a.x
  pub y : P.y ≡ P.d * a.y

-- the spot is a point of the list
abbrev pub Among : Spot → List Point → Type 0
Among P [] = ⊥
Among P (q ∷ l) = At P q ⊎ Among P l

-- the spot is (j * a + i * b) / (j + i)
pub record OnSeg (P : Spot) (a b : Point) : Type 0 where
  pub j : ℕ
  pub i : ℕ
  pub weight : 0 < j + i
  pub x : (j + i) * P.x ≡ P.d * (j * a.x + i * b.x)
  pub y : (j + i) * P.y ≡ P.d * (j * a.y + i * b.y)

-- m lies on the segment a b and is neither a nor b
pub record Between (a m b : Point) : Type 0 where
  pub on : OnSeg (spot m) a b
  pub not_first : a ≢ m
  pub not_last : m ≢ b

-- the ways from a to b and from c to d have one direction: one is a positive multiple of the other
pub record SameWay (a b c d : Point) : Type 0 where
  pub n : ℕ
  pub k : ℕ
  pub n_some : 0 < n
  pub k_some : 0 < k
  pub x : n * b.x + k * c.x ≡ n * a.x + k * d.x
  pub y : n * b.y + k * c.y ≡ n * a.y + k * d.y
