-- The theorems on the distance of cells of one class.
use Rattle.std.specs.Prelude.{ℕ, ◌+◌, ◌≤◌, ◌≢◌, ◌≡◌}
use Rattle.lattice.specs.declared.shape.Shape.{Shape}
use Rattle.lattice.specs.Shape.{Accepted, max_stack_strength}
use Rattle.lattice.specs.Settings.{flat_settings, stack_settings}
use Rattle.lattice.specs.Cell.{Cell, InField}
use Rattle.lattice.specs.Cluster.{distance}
use Rattle.lattice.specs.Class.{class_of}
use Rattle.lattice.specs.Endless.{Apart, ApartOnPlane}

-- Theorem. In a field that the constructor accepts, two different cells of one class are never closer than t.
abbrev pub ClassDistance : Type 0
ClassDistance =
    (s : Shape) → Accepted s → (x y : Cell) → InField s x → InField s y → class_of s x ≡ class_of s y → x ≢ y
    → s.strength ≤ distance x y

-- Theorem. The flat settings keep different cells of one class at least t apart on the endless plane, for every t of at least 1.
abbrev pub FlatDistance : Type 0
FlatDistance = (t : ℕ) → 1 ≤ t → ApartOnPlane (flat_settings t) t

-- Theorem. The stack settings keep different cells of one class at least t apart in the endless stack, for every strength of the
-- table.
abbrev pub StackDistance : Type 0
StackDistance = (t : ℕ) → 1 ≤ t → t ≤ max_stack_strength → Apart (stack_settings t) t

-- two cells of the field, of one class, at distance d
pub record PairAt (s : Shape) (d : ℕ) : Type 0 where
  pub first : Cell
  pub second : Cell
  pub first_inside : InField s first
  pub second_inside : InField s second
  pub class : class_of s first ≡ class_of s second
  pub apart : distance first second ≡ d

-- Theorem. The least distance is attained: on every flat field with t at least 1 and both sides at least t + 1, there are two
-- cells of one class at distance exactly t.
abbrev pub DistanceAttained : Type 0
DistanceAttained =
    (s : Shape) → s.planes ≡ 1 → 1 ≤ s.strength → s.strength + 1 ≤ s.columns → s.strength + 1 ≤ s.rows
    → PairAt s s.strength
