-- Worked examples of what C is given: the term of the theorem, by computation of the definitions.
use Rattle.lattice.specs.Shape.{is_none, max_strength, size_ok, strength_ok, window_ok, shape_number}
use Rattle.lattice.specs.Range.{in_range}
use Rattle.lattice.specs.Settings.{odd_settings, even_settings, flat_settings, settings_for}
use Rattle.lattice.specs.Cell.{cell_at}
use Rattle.lattice.specs.Class.{minus_mod, class_with, window_class, classes_of, class_of, inside, class_number, class_given}
use Rattle.lattice.specs.Position.{size_to, position}
use Rattle.lattice.specs.Check.{is_power, is_check, checks, holds_data, capacity}
use Rattle.lattice.specs.Used.{is_used, used_classes}
use Rattle.lattice.specs.Digits.{words_in, words_below, digits_below}
use Rattle.lattice.specs.Order.{order}
use Rattle.lattice.specs.DistanceTest.{fails_at, outcome, test_strength_ok, test_settings_ok, test_number, verdict, found_triple}
use Rattle.lattice.specs.DistanceTest.{triples_tried}
use Rattle.codec.specs.Field.{is_cell, is_received, cells_ok, having, differences}
use Rattle.codec.specs.Hamming.{tags_of, flipped}
use Rattle.codec.specs.Erasure.{erasures_to, erased_sum, filled, corrected, few_erasures, in_reach, all_in_reach}
use Rattle.codec.specs.Payload.{payload_bytes, rank, padding, earlier_padding, padded_with, padding_ok, held_payload}
use Rattle.codec.specs.Plan.{plan_classes, plan_capacity, plan_bytes, plan_cells, plan_used, plan_digits}
use Rattle.codec.specs.Encode.{encode_number, encode_leaves}
use Rattle.codec.specs.Decode.{field_number, corrected_count, decode_number, decode_count}
use Rattle.codec.specs.Correct.{correct_number, correct_count, correct_leaves}
use Rattle.levels.specs.Level.{is_level, levels_ok}
use Rattle.levels.specs.Faults.{multiplier, effect, faults, fault_of, change}
use Rattle.levels.specs.Words.{slot, in_word, word, is_of, share, weighted, remainder}
use Rattle.levels.specs.Restored.{change_at, corrected_levels, restores, fits, levels_in_reach}
use Rattle.levels.specs.Payload.{holds_digit, digit_rank, digit_field, check_for, encoded_levels, held_digits}
use Rattle.levels.specs.Payload.{word_differences_to}
use Rattle.levels.specs.Encode.{encode_levels_number, encoded_levels_field, encode_levels_leaves}
use Rattle.levels.specs.Decode.{levels_number, decode_levels_number, decode_levels_count, decode_levels_leaves}
use Rattle.levels.specs.Correct.{correct_levels_number, correct_levels_count, correct_levels_leaves}
use Rattle.varmintfoil.specs.theorems.Results.{ResultExamples}

-- Theorem. The examples hold of whatever meets the contracts.
pub result_examples : ResultExamples
unfolding
    in_range max_strength size_ok strength_ok window_ok is_none shape_number
    odd_settings even_settings flat_settings settings_for cell_at minus_mod class_with window_class classes_of class_of
    inside class_number class_given
    size_to position is_power is_check checks holds_data capacity
    order fails_at outcome test_strength_ok test_settings_ok test_number verdict found_triple triples_tried
    is_cell is_received cells_ok having differences tags_of flipped erasures_to erased_sum filled corrected
    few_erasures in_reach all_in_reach
    payload_bytes rank padding earlier_padding padded_with padding_ok held_payload
    plan_classes plan_capacity plan_bytes plan_cells is_used used_classes plan_used
    words_in words_below digits_below plan_digits
    encode_number encode_leaves field_number corrected_count decode_number decode_count correct_number correct_count
    correct_leaves
    is_level levels_ok multiplier effect faults fault_of change slot in_word word is_of share weighted remainder
    change_at corrected_levels restores fits levels_in_reach
    holds_digit digit_rank digit_field check_for encoded_levels held_digits word_differences_to
    encode_levels_number encoded_levels_field encode_levels_leaves levels_number decode_levels_number decode_levels_count
    decode_levels_leaves correct_levels_number correct_levels_count correct_levels_leaves
result_examples =
    record {
      plan = λ r x. (x.number, x.classes, x.capacity, x.bytes, x.cells, x.used, x.digits);
      class = λ r x. (x.number, x.class);
      no_class = λ r x. (x.number, x.class);
      window_plan = λ r x. (x.number, x.classes, x.capacity, x.bytes, x.cells, x.used, x.digits);
      narrow_plan = λ r x. (x.number, x.classes, x.capacity, x.bytes, x.cells, x.used, x.digits);
      class_by_window = λ r x. (x.number, x.class);
      without_window = λ r x. (x.number, x.classes, x.used, x.digits);
      encode = λ last r x. (x.number, x.leaves);
      decode = λ last r x. (x.number, x.count);
      no_decode = λ last r x. (x.number, x.count);
      correct = λ last r x. (x.number, x.count, x.leaves);
      no_correct = λ last r x. (x.number, x.count, x.leaves);
      filled = λ last r x. (x.number, x.count, x.leaves);
      many = λ last r x. (x.number, x.count);
      encode_levels = λ last r x. (x.number, x.leaves);
      decode_levels = λ last r x. (x.number, x.count, x.leaves);
      correct_levels = λ last r x. (x.number, x.count, x.leaves);
      no_levels = λ last r x. (x.number, x.count, x.leaves);
      holds = λ r x. (x.number, x.holds, x.tried);
      fails = λ r x. (x.number, x.holds, x.row, x.plane, x.column, x.tried);
    }
