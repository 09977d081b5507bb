-- What is asked of a reading of a field of levels, and the lawful field from which it comes.
use Rattle.std.specs.Prelude.{ℕ, List, ◌≡◌, length}
use Rattle.lattice.specs.declared.shape.Shape.{Shape}
use Rattle.lattice.specs.Shape.{Accepted, cells_of}
use Rattle.lattice.specs.Class.{layout_of}
use Rattle.codec.specs.Field.{Field, field_of}
use Rattle.levels.specs.Level.{Levels}
use Rattle.levels.specs.Words.{LevelsFrom, WordInReach}

-- a field that can be read: an accepted shape, the plan's length, and nothing but levels
pub record ReadableLevels (s : Shape) (field : List ℕ) : Type 0 where
  pub accepted : Accepted s
  pub long : length field ≡ cells_of s
  pub levels : Levels (field_of field) (cells_of s)

-- g is a lawful field from which each word of f comes
abbrev pub FromLawful : Shape → Field → Field → Type 0
FromLawful s f g = LevelsFrom (layout_of s) f g

-- some word of f comes from no lawful word of levels
abbrev pub NoWordInReach : Shape → Field → Type 0
NoWordInReach s f = (w : ℕ) × (¬ WordInReach (layout_of s) f w)
