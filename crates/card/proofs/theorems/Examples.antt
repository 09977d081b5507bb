-- The worked card of document 01 and a witness of each refusal, by computation of the definitions.
use mathlib.Core.Path.{refl}
use Rattle.lattice.specs.Shape.{is_none, max_strength, size_ok, strength_ok, window_ok, shape_number}
use Rattle.lattice.specs.Range.{in_range}
use Rattle.lattice.specs.Settings.{odd_settings, even_settings, flat_settings, settings_for}
use Rattle.lattice.specs.Cell.{cell_at}
use Rattle.lattice.specs.Class.{minus_mod, class_with, window_class, classes_of, class_of}
use Rattle.lattice.specs.Position.{size_to, position}
use Rattle.lattice.specs.Check.{is_power, is_check, checks, holds_data, capacity}
use Rattle.codec.specs.Field.{is_cell, is_received, cells_ok, having, differences}
use Rattle.codec.specs.Hamming.{tags_of, flipped}
use Rattle.codec.specs.Erasure.{erasures_to, few_erasures, erased_sum, filled, corrected, in_reach, all_in_reach}
use Rattle.codec.specs.Payload.{payload_bytes, rank, payload_bit, padding, earlier_padding, data_value, data_field, encoded_with}
use Rattle.codec.specs.Payload.{padded_with, padding_ok, held_payload}
use Rattle.codec.specs.Plan.{plan_classes, plan_capacity, plan_bytes, plan_cells}
use Rattle.codec.specs.Encode.{encode_number, field_with}
use Rattle.codec.specs.Decode.{field_number, corrected_count, decode_number, decode_count, decode_leaves}
use Rattle.card.specs.Text.{digit_count, decimal, number_line, header_text, hex_digit, payload_text, cells_text, row_text}
use Rattle.card.specs.Text.{field_text, refusal_text}
use Rattle.card.specs.Parse.{key_at, number_ends, number_at, line_at, optional_at, header_of, is_hex, hex_value, payload_ok}
use Rattle.card.specs.Parse.{payload_of, is_cell_digit, row_ok, rows_ok, cells_of_rows}
use Rattle.card.specs.Program.{body_ok, operation_number, number_after, program_number, written_text, read_text, success_text}
use Rattle.card.specs.Program.{answer}
use Rattle.card.specs.theorems.Examples.{CardExamples}

-- Theorem. The program's answers to the listed texts.
pub card_examples : CardExamples
unfolding
    in_range max_strength size_ok strength_ok window_ok is_none shape_number
    odd_settings even_settings flat_settings settings_for cell_at minus_mod class_with window_class classes_of class_of
    size_to position is_power is_check checks holds_data capacity
    is_cell is_received cells_ok having differences tags_of flipped
    erasures_to few_erasures erased_sum filled corrected in_reach all_in_reach
    payload_bytes rank payload_bit padding earlier_padding data_value data_field encoded_with padded_with padding_ok held_payload
    plan_classes plan_capacity plan_bytes plan_cells
    encode_number field_with
    field_number corrected_count decode_number decode_count decode_leaves
    digit_count decimal number_line header_text hex_digit payload_text cells_text row_text field_text refusal_text
    key_at number_ends number_at line_at optional_at header_of is_hex hex_value payload_ok payload_of is_cell_digit row_ok
    rows_ok cells_of_rows
    body_ok operation_number number_after program_number written_text read_text success_text answer
card_examples =
    record {
      written = refl;
      read = refl;
      damaged = refl;
      first_printed = refl;
      first_damaged = refl;
      erased = refl;
      first_erased = refl;
      erased_row = refl;
      zeros_written = refl;
      zeros_read = refl;
      black_padding = refl;
      white_padding = refl;
      key_order = refl;
      leading_zero = refl;
      six_digits = refl;
      carriage_return = refl;
      lone_rows = refl;
      lone_before_size = refl;
      lone_columns = refl;
      window_order = refl;
      window_zero = refl;
      size = refl;
      strength = refl;
      no_strength = refl;
      large_window = refl;
      strength_and_window = refl;
      cells = refl;
      upper_case = refl;
      odd_digits = refl;
      no_feed = refl;
      trailing = refl;
      few_rows = refl;
      no_cell = refl;
      long_payload = refl;
      many_erasures = refl;
      out_of_reach = refl;
      wrong_padding = refl;
      mixed_padding = refl;
      erasures_first = refl;
      erased_out_of_reach = refl;
    }
