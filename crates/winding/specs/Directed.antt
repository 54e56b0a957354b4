-- Directed curves of a drawing, by names: the directed edges of a map are such. Definitions only.
use Rattle.std.specs.Prelude.{◌≡◌, Bool, ◌⊎◌, ℤ, ◌-ℤ◌}
use mathlib.Core.List.{List, map, Memᴰ}
use Rattle.integers.specs.Totals.{total}
use Rattle.plane.specs.declared.Point.{Point}
use Rattle.curves.specs.Curves.{Curve, second_of}
use Rattle.curves.specs.Edits.{reversed}
use Rattle.geometry.specs.Drawing.{GoodCurve, ClearCurves}
use Rattle.winding.specs.Winding.{one, all_segments}
use Rattle.winding.specs.Sides.{left_at}

module _ {A : Type 0} (course : A → Curve) where
  -- each is simple, `rev` names the reverse, and two are one, reverses of each other, or share common ends only
  pub record Directed (rev : A → A) (all : List A) : Type 0 where
    pub good : (d : A) → Memᴰ d all → GoodCurve (course d)
    pub back : (d : A) → Memᴰ d all → Memᴰ (rev d) all
    pub turned : (d : A) → Memᴰ d all → course (rev d) ≡ reversed (course d)
    pub clear :
        (c d : A) → Memᴰ c all → Memᴰ d all
        → (d ≡ c) ⊎ ((d ≡ rev c) ⊎ ClearCurves (course d) (course c))

  -- ds are those that depart from v
  pub record Departing (all : List A) (v : Point) (ds : List A) : Type 0 where
    pub depart : (d : A) → Memᴰ d ds → Memᴰ d all × ((course d).first ≡ v)
    pub whole : (d : A) → Memᴰ d all → (course d).first ≡ v → Memᴰ d ds

  -- how often the curves l wind around what lies just left of d
  abbrev pub left_of : List A → A → ℤ
  left_of l d = left_at (all_segments (map course l)) (course d).first (second_of (course d).first (course d).rest)

-- how often d stands in the list, less how often its reverse does; `is` tells names apart
abbrev pub times_taken : {A : Type 0} → (A → A → Bool) → (A → A) → List A → A → ℤ
times_taken is rev l d = total (λ x. one (is x d) -ℤ one (is x (rev d))) l
