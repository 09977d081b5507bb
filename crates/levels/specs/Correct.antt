-- Correcting of levels, the papers' mending of a shaded field: its number, its count, and what it leaves in the lent field.
use Rattle.std.specs.Prelude.{ℕ, List, eqb, length}
use Rattle.lattice.specs.declared.shape.Shape.{Shape}
use Rattle.lattice.specs.Refusal.{unless, beside, figure}
use Rattle.lattice.specs.Shape.{after_shape, cells_of}
use Rattle.codec.specs.Field.{field_of, list_of, differences}
use Rattle.codec.specs.Plan.{plan_cells}
use Rattle.levels.specs.Decode.{restored_field, levels_number}

-- the number: the shape's, then 4 for a field whose length isn't the plan's, then the field's own 12 and 6
unfoldable pub correct_levels_number : Shape → List ℕ → ℕ
correct_levels_number s field =
    after_shape s
    (unless (eqb (length field) (plan_cells s)) 4
    (levels_number s (field_of field)))

-- the count that correcting gives: all cells that change, ignored ones too
unfoldable pub correct_levels_count : Shape → List ℕ → ℕ
correct_levels_count s field =
    figure (correct_levels_number s field) (differences (field_of field) (restored_field s (field_of field)) (cells_of s))

-- what correcting leaves in the lent field: the corrected field, or beside a refusal its bytes
unfoldable pub correct_levels_leaves : Shape → List ℕ → List ℕ
correct_levels_leaves s field =
    beside (correct_levels_number s field) (list_of (restored_field s (field_of field)) (cells_of s)) field
