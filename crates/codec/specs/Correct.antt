-- Correcting, the papers' mending: its number, its count, and what it leaves in the lent field.
use Rattle.std.specs.Prelude.{ℕ, List, eqb, length}
use Rattle.lattice.specs.declared.shape.Shape.{Shape}
use Rattle.lattice.specs.Refusal.{unless, beside, figure}
use Rattle.lattice.specs.Shape.{after_shape, cells_of}
use Rattle.codec.specs.Field.{field_of, list_of}
use Rattle.codec.specs.Plan.{plan_cells}
use Rattle.codec.specs.Decode.{corrected_field, field_number, corrected_count}

-- the number: the shape's, then 4 for a field whose length isn't the plan's, then the field's own 5, 10, 6 and 7
unfoldable pub correct_number : Shape → List ℕ → ℕ
correct_number s field =
    after_shape s
    (unless (eqb (length field) (plan_cells s)) 4
    (field_number s (field_of field)))

-- the count that correcting gives
unfoldable pub correct_count : Shape → List ℕ → ℕ
correct_count s field = figure (correct_number s field) (corrected_count s (field_of field))

-- what correcting leaves in the lent field: the corrected field, or beside a refusal its bytes
unfoldable pub correct_leaves : Shape → List ℕ → List ℕ
correct_leaves s field = beside (correct_number s field) (list_of (corrected_field s (field_of field)) (cells_of s)) field
