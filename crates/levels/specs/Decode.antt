-- Decoding of levels, the papers' reading of a shaded field: its number, its count, and what it leaves in the lent payload.
use Rattle.std.specs.Prelude.{ℕ, List, eqb, length}
use Rattle.lattice.specs.declared.shape.Shape.{Shape}
use Rattle.lattice.specs.Refusal.{unless, beside, figure}
use Rattle.lattice.specs.Shape.{after_shape, cells_of}
use Rattle.lattice.specs.Class.{layout_of}
use Rattle.lattice.specs.Digits.{digits_of}
use Rattle.codec.specs.Field.{Field, field_of}
use Rattle.codec.specs.Plan.{plan_cells, plan_digits}
use Rattle.levels.specs.Level.{levels_ok}
use Rattle.levels.specs.Restored.{corrected_levels, levels_in_reach}
use Rattle.levels.specs.Payload.{held_digits, word_differences}

-- the corrected field
abbrev pub restored_field : Shape → Field → Field
restored_field s f = corrected_levels (layout_of s) f

-- the tests of the field itself: 12 for a cell above 24, be it ignored, 6 for a word that comes from no lawful one
unfoldable pub levels_number : Shape → Field → ℕ
levels_number s f =
    unless (levels_ok f (cells_of s)) 12
    (unless (levels_in_reach (layout_of s) f) 6
    0)

-- the number: the shape's, then 3 for a payload buffer and 4 for a field whose length isn't the plan's, then the field's own
unfoldable pub decode_levels_number : Shape → List ℕ → List ℕ → ℕ
decode_levels_number s payload field =
    after_shape s
    (unless (eqb (length payload) (plan_digits s)) 3
    (unless (eqb (length field) (plan_cells s)) 4
    (levels_number s (field_of field))))

-- the count that decoding gives: the cells of words that differ from the corrected field
unfoldable pub decode_levels_count : Shape → List ℕ → List ℕ → ℕ
decode_levels_count s payload field =
    figure (decode_levels_number s payload field)
    (word_differences (layout_of s) (field_of field) (restored_field s (field_of field)))

-- what decoding leaves in the lent payload: the digits that the corrected field holds, or beside a refusal its bytes
unfoldable pub decode_levels_leaves : Shape → List ℕ → List ℕ → List ℕ
decode_levels_leaves s payload field =
    beside (decode_levels_number s payload field)
    (held_digits (layout_of s) (digits_of s) (restored_field s (field_of field)))
    payload
