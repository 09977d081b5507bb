-- Demand 2, reading: decoding and correcting find the one lawful field from which each word comes by a change of −1 to +3 in at
-- most one cell.
use Rattle.std.specs.Prelude.{ℕ, List, ◌↔◌, ◌≡◌, length}
use Rattle.lattice.specs.declared.shape.Shape.{Shape}
use Rattle.lattice.specs.Shape.{cells_of}
use Rattle.lattice.specs.Class.{layout_of}
use Rattle.codec.specs.Field.{Field, field_of, Same, differences}
use Rattle.codec.specs.Plan.{plan_digits}
use Rattle.levels.specs.Level.{Levels}
use Rattle.levels.specs.Payload.{CarriesDigits, word_differences}
use Rattle.levels.specs.Decode.{decode_levels_number, decode_levels_count, decode_levels_leaves}
use Rattle.levels.specs.Correct.{correct_levels_number, correct_levels_count, correct_levels_leaves}
use Rattle.levels.specs.Reach.{ReadableLevels, FromLawful, NoWordInReach}

-- Theorem (demand 2). A field comes from at most one lawful field.
abbrev pub OneLawful : Type 0
OneLawful = (s : Shape) (f g h : Field) → FromLawful s f g → FromLawful s f h → Same g h (cells_of s)

-- what decoding means: it gives 0 exactly when there is such a field, and then leaves its digits and the number of word cells in
-- which it differs; 6 exactly when some word comes from no lawful one
pub record DecodingLevelsMeans (s : Shape) (payload field : List ℕ) : Type 0 where
  pub success : (decode_levels_number s payload field ≡ 0) ↔ ((g : Field) × FromLawful s (field_of field) g)
  pub none : (decode_levels_number s payload field ≡ 6) ↔ NoWordInReach s (field_of field)
  pub long : decode_levels_number s payload field ≡ 0 → length (decode_levels_leaves s payload field) ≡ plan_digits s
  pub digits : decode_levels_number s payload field ≡ 0 → Levels (field_of (decode_levels_leaves s payload field)) (plan_digits s)
  pub gives : (g : Field) → FromLawful s (field_of field) g → CarriesDigits (layout_of s) g (decode_levels_leaves s payload field)
  pub count : (g : Field) → FromLawful s (field_of field) g
      → decode_levels_count s payload field ≡ word_differences (layout_of s) (field_of field) g

-- Theorem (demand 2). So it means for every field that is readable, with a payload buffer of the plan's length.
abbrev pub DecodeLevelsMeaning : Type 0
DecodeLevelsMeaning =
    (s : Shape) (payload field : List ℕ) → ReadableLevels s field → length payload ≡ plan_digits s
    → DecodingLevelsMeans s payload field

-- what correcting means: likewise, leaving that field, with the number of all cells in which it differs
pub record CorrectingLevelsMeans (s : Shape) (field : List ℕ) : Type 0 where
  pub success : (correct_levels_number s field ≡ 0) ↔ ((g : Field) × FromLawful s (field_of field) g)
  pub none : (correct_levels_number s field ≡ 6) ↔ NoWordInReach s (field_of field)
  pub long : correct_levels_number s field ≡ 0 → length (correct_levels_leaves s field) ≡ cells_of s
  pub leaves : (g : Field) → FromLawful s (field_of field) g → Same (field_of (correct_levels_leaves s field)) g (cells_of s)
  pub count : (g : Field) → FromLawful s (field_of field) g
      → correct_levels_count s field ≡ differences (field_of field) g (cells_of s)

-- Theorem (demand 2). So it means for every field that is readable.
abbrev pub CorrectLevelsMeaning : Type 0
CorrectLevelsMeaning = (s : Shape) (field : List ℕ) → ReadableLevels s field → CorrectingLevelsMeans s field
