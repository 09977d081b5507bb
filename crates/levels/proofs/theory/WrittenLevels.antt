-- The field written from a payload of digits, as a buffer holds it, and what the operations leave beside the number 0.
use Prim.Native.Nat.{ℕ}
use mathlib.Core.List.{List}
use mathlib.Core.Path.{◌≡◌, sym, ◌∙◌}
use lib.ListN.{length}
use Rattle.lattice.specs.declared.shape.Shape.{Shape}
use Rattle.lattice.specs.Shape.{Accepted, cells_of}
use Rattle.lattice.specs.Class.{classes_of, layout_of}
use Rattle.lattice.specs.Counting.{count}
use Rattle.lattice.specs.Position.{Layout}
use Rattle.lattice.specs.Digits.{digits_of}
use Rattle.lattice.proofs.theory.Answers.{beside_zero}
use Rattle.codec.specs.Field.{Field, field_of, list_of, Same, differences}
use Rattle.codec.proofs.theory.Accepted.{class_at_below, plan_digits_lem}
use Rattle.codec.proofs.theory.FieldLists.{length_list_of, get_d_list_of}
use Rattle.levels.specs.Words.{LawfulLevels}
use Rattle.levels.specs.Payload.{holds_digit, encoded_levels, CarriesDigits, held_digits, word_differences}
use Rattle.levels.specs.Encode.{Writable, encoded_levels_field}
use Rattle.levels.specs.Decode.{restored_field, decode_levels_number, decode_levels_count, decode_levels_leaves}
use Rattle.levels.specs.Correct.{correct_levels_number, correct_levels_count, correct_levels_leaves}
use Rattle.levels.proofs.theory.DigitCells.{digits_count}
use Rattle.levels.proofs.theory.EncodedCells.{encoded_lawful, encoded_digit}
use Rattle.levels.proofs.theory.HeldDigits.{carries_held}
use Rattle.levels.proofs.theory.Remainders.{lawful_same}

-- as many cells hold a digit as the shape has digits
pub digits_all : (s : Shape) → Accepted s → count (holds_digit (layout_of s)) (cells_of s) ≡ digits_of s
digits_all s a = digits_count (layout_of s) (classes_of s) (class_at_below s a)

-- fields that agree on all cells are lawful alike
lawful_levels_same : (L : Layout) (f g : Field) → Same f g L.cells → LawfulLevels L f → LawfulLevels L g
lawful_levels_same L f g s h =
    record {
      levels = λ i l. rw (← (s i l)) (h.levels i l);
      words = λ w. lawful_same L f g w (λ i l p. s i l) (h.words w);
      ignored = λ i l d. sym (s i l) ∙ h.ignored i l d;
    }

-- the field written, as a buffer holds it
module _ (s : Shape) (p : List ℕ) where
  pub written : Same (encoded_levels (layout_of s) p) (field_of (encoded_levels_field s p)) (cells_of s)
  unfolding encoded_levels_field
  written i l = sym (get_d_list_of (encoded_levels (layout_of s) p) (cells_of s) i l)

  pub written_long : length (encoded_levels_field s p) ≡ cells_of s
  unfolding encoded_levels_field
  written_long = length_list_of (encoded_levels (layout_of s) p) (cells_of s)

  pub written_lawful : Writable s p → LawfulLevels (layout_of s) (field_of (encoded_levels_field s p))
  written_lawful h = lawful_levels_same (layout_of s) _ _ written (encoded_lawful (layout_of s) p h.digits)

  pub written_carries : CarriesDigits (layout_of s) (field_of (encoded_levels_field s p)) p
  written_carries i l e = sym (written i l) ∙ encoded_digit (layout_of s) p i e

  -- the digits that it holds are the payload's
  pub written_held : Writable s p → held_digits (layout_of s) (digits_of s) (field_of (encoded_levels_field s p)) ≡ p
  written_held h =
      carries_held (layout_of s) (digits_of s) (digits_all s h.accepted) (field_of (encoded_levels_field s p)) p
      (h.long ∙ plan_digits_lem s h.accepted) written_carries

-- what decoding and correcting give and leave beside the number 0
module _ (s : Shape) (field : List ℕ) where
  pub decode_leaves_lem : (payload : List ℕ) → decode_levels_number s payload field ≡ 0
      → decode_levels_leaves s payload field ≡ held_digits (layout_of s) (digits_of s) (restored_field s (field_of field))
  unfolding decode_levels_leaves
  decode_leaves_lem payload = beside_zero (decode_levels_number s payload field) _ payload

  pub decode_count_lem : (payload : List ℕ) → decode_levels_number s payload field ≡ 0
      → decode_levels_count s payload field ≡ word_differences (layout_of s) (field_of field) (restored_field s (field_of field))
  unfolding decode_levels_count
  decode_count_lem payload = beside_zero (decode_levels_number s payload field) _ 0

  pub correct_leaves_lem : correct_levels_number s field ≡ 0
      → correct_levels_leaves s field ≡ list_of (restored_field s (field_of field)) (cells_of s)
  unfolding correct_levels_leaves
  correct_leaves_lem = beside_zero (correct_levels_number s field) _ field

  pub correct_count_lem : correct_levels_number s field ≡ 0
      → correct_levels_count s field ≡ differences (field_of field) (restored_field s (field_of field)) (cells_of s)
  unfolding correct_levels_count
  correct_count_lem = beside_zero (correct_levels_number s field) _ 0
