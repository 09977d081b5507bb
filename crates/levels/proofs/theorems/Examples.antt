-- The worked examples of fields of levels, by computation of the definitions.
use mathlib.Core.Path.{refl}
use Rattle.lattice.specs.Range.{in_range}
use Rattle.lattice.specs.Shape.{max_strength, size_ok, is_none, strength_ok, window_ok, shape_number}
use Rattle.lattice.specs.Settings.{odd_settings, even_settings, flat_settings, stack_table, stack_settings, settings_for}
use Rattle.lattice.specs.Cell.{cell_at}
use Rattle.lattice.specs.Class.{minus_mod, class_with, window_class, classes_of, class_of}
use Rattle.lattice.specs.Position.{size_to, position}
use Rattle.lattice.specs.Digits.{words_in, words_below, digits_below}
use Rattle.codec.specs.Field.{differences}
use Rattle.codec.specs.Plan.{plan_cells, plan_digits}
use Rattle.levels.specs.Level.{is_level, levels_ok}
use Rattle.levels.specs.Faults.{multiplier, effect, faults, fault_of, change}
use Rattle.levels.specs.Words.{slot, in_word, word, is_of, share, weighted, remainder}
use Rattle.levels.specs.Restored.{change_at, corrected_levels, restores, fits, levels_in_reach}
use Rattle.levels.specs.Payload.{holds_digit, digit_rank, digit_field, check_for, encoded_levels, held_digits}
use Rattle.levels.specs.Payload.{word_differences_to}
use Rattle.levels.specs.Encode.{encode_levels_number, encoded_levels_field}
use Rattle.levels.specs.Decode.{levels_number, decode_levels_number, decode_levels_count, decode_levels_leaves}
use Rattle.levels.specs.Correct.{correct_levels_number, correct_levels_count, correct_levels_leaves}
use Rattle.levels.specs.theorems.Examples.{LevelsExamples}

-- Theorem. The examples hold.
pub levels_examples : LevelsExamples
unfolding
    in_range max_strength size_ok is_none strength_ok window_ok shape_number
    odd_settings even_settings flat_settings stack_table stack_settings settings_for
    cell_at minus_mod class_with window_class classes_of class_of
    size_to position words_in words_below digits_below differences plan_cells plan_digits is_level levels_ok
    multiplier effect faults fault_of change slot in_word word is_of share weighted remainder
    change_at corrected_levels restores fits levels_in_reach
    holds_digit digit_rank digit_field check_for encoded_levels held_digits word_differences_to
    encode_levels_number encoded_levels_field levels_number decode_levels_number decode_levels_count decode_levels_leaves
    correct_levels_number correct_levels_count correct_levels_leaves
levels_examples =
    record {
      written = (refl, refl);
      written_stack = (refl, refl);
      written_window = (refl, refl);
      written_ignored = refl;
      darkened = ((refl, refl, refl), (refl, refl, refl));
      faded = ((refl, refl, refl), (refl, refl, refl));
      above = ((refl, refl), (refl, refl));
      out_of_reach = ((refl, refl), (refl, refl));
      order = (refl, refl, refl, refl, refl, refl, refl, refl, refl, refl);
      neighbours = (refl, refl);
    }
