-- Encoding, the papers' writing: its number, the field written from a payload, now and before, and what it leaves in the lent
-- field.
use Rattle.std.specs.Prelude.{ℕ, List, ◌⊎◌, ◌≡◌, eqb, length}
use Rattle.lattice.specs.declared.shape.Shape.{Shape}
use Rattle.lattice.specs.Refusal.{unless, beside}
use Rattle.lattice.specs.Shape.{after_shape, cells_of}
use Rattle.lattice.specs.Class.{layout_of}
use Rattle.codec.specs.Field.{list_of}
use Rattle.codec.specs.Payload.{padding, earlier_padding, encoded_with}
use Rattle.codec.specs.Plan.{plan_bytes, plan_cells}

-- the number: the shape's, then 3 for a payload and 4 for a field whose length isn't the plan's
unfoldable pub encode_number : Shape → List ℕ → List ℕ → ℕ
encode_number s p field =
    after_shape s
    (unless (eqb (length p) (plan_bytes s)) 3
    (unless (eqb (length field) (plan_cells s)) 4
    0))

-- the field of a payload with a padding
unfoldable pub field_with : Shape → (ℕ → ℕ) → List ℕ → List ℕ
field_with s pad p = list_of (encoded_with (layout_of s) pad p) (cells_of s)

-- the field written from a payload
abbrev pub encoded_field : Shape → List ℕ → List ℕ
encoded_field s p = field_with s padding p

-- the field that was written from a payload before, with zeros for padding
abbrev pub earlier_field : Shape → List ℕ → List ℕ
earlier_field s p = field_with s earlier_padding p

-- F is the field written from p, now or before
abbrev pub WrittenFrom : Shape → List ℕ → List ℕ → Type 0
WrittenFrom s p F = (F ≡ encoded_field s p) ⊎ (F ≡ earlier_field s p)

-- what encoding leaves in the lent field: the field written, or beside a refusal its bytes
unfoldable pub encode_leaves : Shape → List ℕ → List ℕ → List ℕ
encode_leaves s p field = beside (encode_number s p field) (encoded_field s p) field
