-- Our own examples of coding: the terms of the theorems, by computation of the definitions.
use mathlib.Core.Path.{refl}
use Rattle.lattice.specs.Range.{in_range}
use Rattle.lattice.specs.Shape.{is_none, max_strength, size_ok, strength_ok, window_ok, shape_number}
use Rattle.lattice.specs.Settings.{odd_settings, even_settings, flat_settings, stack_table, stack_settings, settings_for}
use Rattle.lattice.specs.Cell.{cell_at}
use Rattle.lattice.specs.Class.{minus_mod, class_with, window_class, classes_of, class_of}
use Rattle.lattice.specs.Position.{size_to, position}
use Rattle.lattice.specs.Check.{is_power, is_check, holds_data, capacity}
use Rattle.lattice.specs.Used.{is_used, used_classes}
use Rattle.lattice.specs.Digits.{words_in, words_below, digits_below}
use Rattle.codec.specs.Field.{is_cell, is_received, cells_ok, having, differences}
use Rattle.codec.specs.Hamming.{tags_of, flipped}
use Rattle.codec.specs.Erasure.{erasures_to, erased_sum, filled, corrected, few_erasures, in_reach, all_in_reach}
use Rattle.codec.specs.Payload.{payload_bytes, rank, payload_bit, padding, earlier_padding, data_value, data_field, encoded_with}
use Rattle.codec.specs.Payload.{padded_with, padding_ok}
use Rattle.codec.specs.Plan.{plan_classes, plan_capacity, plan_bytes, plan_cells, plan_used, plan_digits}
use Rattle.codec.specs.Encode.{encode_number, field_with}
use Rattle.codec.specs.Decode.{field_number, corrected_count, decode_number, decode_count}
use Rattle.codec.specs.Correct.{correct_number, correct_count, correct_leaves}
use Rattle.codec.specs.theorems.Worked.{CodingExamples, PaddingExamples}

-- Theorem. The examples hold.
pub coding_examples : CodingExamples
unfolding
    in_range max_strength size_ok strength_ok window_ok is_none shape_number
    odd_settings even_settings flat_settings stack_table stack_settings settings_for
    cell_at minus_mod class_with window_class classes_of class_of size_to position is_power is_check holds_data capacity
    is_cell is_received cells_ok having differences tags_of flipped erasures_to erased_sum filled corrected
    few_erasures in_reach all_in_reach
    payload_bytes rank payload_bit padding earlier_padding data_value data_field encoded_with padded_with padding_ok
    plan_classes plan_capacity plan_bytes plan_cells is_used used_classes plan_used
    words_in words_below digits_below plan_digits
    encode_number field_with field_number decode_number correct_number
coding_examples =
    record {
      plan = (refl, refl, refl, refl, refl, refl);
      narrow_plan = (refl, refl);
      digits = (refl, refl);
      written = refl;
      earlier = refl;
      empty = refl;
      six = refl;
      seven = refl;
      one_then_three = (refl, refl, refl, refl, refl, refl, refl, refl, refl, refl);
      then_four = (refl, refl, refl, refl, refl, refl);
      then_five = (refl, refl, refl, refl);
      differ = refl;
    }

-- Theorem. The examples of padding hold.
pub padding_examples : PaddingExamples
unfolding
    in_range max_strength size_ok strength_ok window_ok is_none shape_number
    odd_settings even_settings flat_settings settings_for
    cell_at minus_mod class_with classes_of class_of size_to position is_power is_check holds_data capacity
    is_cell is_received cells_ok having differences tags_of flipped erasures_to erased_sum filled corrected
    few_erasures in_reach all_in_reach
    payload_bytes rank payload_bit padding earlier_padding data_value data_field encoded_with padded_with padding_ok
    plan_capacity plan_bytes plan_cells field_with field_number corrected_count
    decode_number decode_count correct_number correct_count correct_leaves
padding_examples =
    record {
      written = (refl, refl, refl, refl);
      one = ((refl, refl, refl, refl, refl), (refl, refl, refl, refl, refl));
      two = (
        (refl, refl, refl, refl, refl),
        (refl, refl, refl, refl, refl),
        (refl, refl),
        (refl, refl),
      );
      three = ((refl, refl, refl, refl, refl), (refl, refl));
      kept = (refl, refl, refl, refl, refl);
    }
