-- What is asked of a reading of a field, and the lawful field in reach.
use Rattle.std.specs.Prelude.{ℕ, List, ◌≡◌, length}
use Rattle.lattice.specs.declared.shape.Shape.{Shape}
use Rattle.lattice.specs.Shape.{Accepted, cells_of}
use Rattle.lattice.specs.Class.{layout_of}
use Rattle.codec.specs.Field.{Field, field_of, Received}
use Rattle.codec.specs.Erasure.{FewErasures}
use Rattle.codec.specs.Payload.{PaddingRight}
use Rattle.codec.specs.Code.{NearestTo}

-- what is asked of a reading of a field: an accepted shape, a field of the plan's length, nothing but cells and erasures, and at
-- most two erasures in each class
pub record Readable (s : Shape) (field : List ℕ) : Type 0 where
  pub accepted : Accepted s
  pub long : length field ≡ cells_of s
  pub cells : Received (field_of field) (cells_of s)
  pub few : FewErasures (layout_of s) (field_of field)

-- a lawful field in reach: one with right padding, and one with wrong padding
abbrev pub RightInReach : Shape → Field → Type 0
RightInReach s f = (g : Field) × NearestTo s f g × PaddingRight (layout_of s) g

abbrev pub WrongInReach : Shape → Field → Type 0
WrongInReach s f = (g : Field) × NearestTo s f g × (¬ PaddingRight (layout_of s) g)
