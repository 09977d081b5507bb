-- Decoding, the papers' reading: its number, its count, and what it leaves in the lent payload.
use Rattle.std.specs.Prelude.{ℕ, List, eqb, length}
use Rattle.lattice.specs.declared.shape.Shape.{Shape}
use Rattle.lattice.specs.Refusal.{unless, beside, figure}
use Rattle.lattice.specs.Shape.{after_shape, cells_of}
use Rattle.lattice.specs.Class.{layout_of}
use Rattle.codec.specs.Field.{Field, field_of, cells_ok, differences}
use Rattle.codec.specs.Erasure.{corrected}
use Rattle.codec.specs.Payload.{padding_ok, held_payload}
use Rattle.codec.specs.Code.{tags_at, field_few_erasures, field_in_reach}
use Rattle.codec.specs.Plan.{plan_bytes, plan_cells}

-- the corrected field: in a class with no erasure the cell whose position is the syndrome is flipped, else the erased cells are
-- filled
abbrev pub corrected_field : Shape → Field → Field
corrected_field s f = corrected (layout_of s) (tags_at s) f

-- the tests of the field itself: 5 for what is no cell and no erasure, 10 for a class with three erasures or more, 6 for a class
-- with no codeword in reach, 7 for wrong padding after correcting
unfoldable pub field_number : Shape → Field → ℕ
field_number s f =
    unless (cells_ok f (cells_of s)) 5
    (unless (field_few_erasures s f) 10
    (unless (field_in_reach s f) 6
    (unless (padding_ok (layout_of s) (corrected_field s f)) 7
    0)))

-- the number: the shape's, then 3 for a payload buffer and 4 for a field whose length isn't the plan's, then the field's own
unfoldable pub decode_number : Shape → List ℕ → List ℕ → ℕ
decode_number s payload field =
    after_shape s
    (unless (eqb (length payload) (plan_bytes s)) 3
    (unless (eqb (length field) (plan_cells s)) 4
    (field_number s (field_of field))))

-- the count of cells that correcting changes
unfoldable pub corrected_count : Shape → Field → ℕ
corrected_count s f = differences f (corrected_field s f) (cells_of s)

-- the count that decoding gives
unfoldable pub decode_count : Shape → List ℕ → List ℕ → ℕ
decode_count s payload field = figure (decode_number s payload field) (corrected_count s (field_of field))

-- what decoding leaves in the lent payload: the payload that the corrected field holds, or beside a refusal its bytes
unfoldable pub decode_leaves : Shape → List ℕ → List ℕ → List ℕ
decode_leaves s payload field =
    beside (decode_number s payload field) (held_payload (layout_of s) (corrected_field s (field_of field))) payload
