-- Encoding of levels, the papers' writing of a shaded field: its number, the field written from a payload, and what it leaves in
-- the lent field.
use Rattle.std.specs.Prelude.{ℕ, List, ◌≡◌, eqb, length}
use Rattle.lattice.specs.declared.shape.Shape.{Shape}
use Rattle.lattice.specs.Refusal.{unless, beside}
use Rattle.lattice.specs.Shape.{Accepted, after_shape, cells_of}
use Rattle.lattice.specs.Class.{layout_of}
use Rattle.codec.specs.Field.{field_of, list_of}
use Rattle.codec.specs.Plan.{plan_cells, plan_digits}
use Rattle.levels.specs.Level.{Levels, levels_ok}
use Rattle.levels.specs.Payload.{encoded_levels}

-- the number: the shape's, then 3 for a payload and 4 for a field whose length isn't the plan's, then 12 for a digit above 24
unfoldable pub encode_levels_number : Shape → List ℕ → List ℕ → ℕ
encode_levels_number s p field =
    after_shape s
    (unless (eqb (length p) (plan_digits s)) 3
    (unless (eqb (length field) (plan_cells s)) 4
    (unless (levels_ok (field_of p) (length p)) 12
    0)))

-- the field written from a payload
unfoldable pub encoded_levels_field : Shape → List ℕ → List ℕ
encoded_levels_field s p = list_of (encoded_levels (layout_of s) p) (cells_of s)

-- what encoding leaves in the lent field: the field written, or beside a refusal its bytes
unfoldable pub encode_levels_leaves : Shape → List ℕ → List ℕ → List ℕ
encode_levels_leaves s p field = beside (encode_levels_number s p field) (encoded_levels_field s p) field

-- a payload that can be written: digits of 0 to 24, as many as the plan of an accepted shape says
pub record Writable (s : Shape) (p : List ℕ) : Type 0 where
  pub accepted : Accepted s
  pub long : length p ≡ plan_digits s
  pub digits : Levels (field_of p) (length p)
