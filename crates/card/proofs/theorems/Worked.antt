-- Our own examples of the program: the term of the theorem, by computation of the definitions.
use Prim.Native.Nat.{ℕ, ◌≤◌}
use mathlib.Core.Bool.{false}
use mathlib.Core.Path.{refl, ◌≡◌, ◌∙◌, ap}
use mathlib.Core.List.{List, []}
use native.Mathlib.Omega.{arith}
use borrow.Author.Tests.{lt-leb, le-leb, ne_eqb}
use lib.Dec.{lit≤, eqb}
use lib.ListN.{length}
use Rattle.lattice.specs.declared.shape.Shape.{Shape}
use Rattle.lattice.specs.Shape.{is_none, max_strength, size_ok, strength_ok, window_ok, shape_number, Accepted, cells_of}
use Rattle.lattice.specs.Range.{in_range}
use Rattle.lattice.specs.Settings.{odd_settings, even_settings, flat_settings, stack_table, stack_settings, settings_for}
use Rattle.lattice.specs.Cell.{cell_at}
use Rattle.lattice.specs.Class.{minus_mod, class_with, window_class, classes_of, class_of, layout_of}
use Rattle.lattice.specs.Position.{size_to, position}
use Rattle.lattice.specs.Check.{is_power, is_check, checks, holds_data, capacity}
use Rattle.lattice.specs.Counting.{count}
use Rattle.lattice.proofs.theory.Counting.{count_mono}
use Rattle.codec.specs.Field.{is_cell, is_received, cells_ok, having, differences}
use Rattle.codec.specs.Hamming.{tags_of, flipped}
use Rattle.codec.specs.Erasure.{erasures_to, few_erasures, erased_sum, filled, corrected, in_reach, all_in_reach}
use Rattle.codec.specs.Payload.{payload_bytes, rank, payload_bit, padding, earlier_padding, data_value, data_field, encoded_with}
use Rattle.codec.specs.Payload.{padded_with, padding_ok, held_payload}
use Rattle.codec.specs.Plan.{plan_classes, plan_capacity, plan_bytes, plan_cells}
use Rattle.codec.specs.Encode.{encode_number, field_with}
use Rattle.codec.specs.Decode.{field_number, corrected_count, decode_number, decode_count, decode_leaves}
use Rattle.codec.proofs.theorems.Plan.{plan_meaning}
use Rattle.card.specs.Text.{ascii, digit_count, decimal, number_line, header_text, hex_digit, payload_text, cells_text, row_text}
use Rattle.card.specs.Text.{field_text, refusal_text}
use Rattle.card.specs.Parse.{key_at, number_ends, number_at, line_at, optional_at, header_of, is_hex, hex_value, payload_ok}
use Rattle.card.specs.Parse.{payload_of, is_cell_digit, row_ok, rows_ok, cells_of_rows}
use Rattle.card.specs.Program.{body_ok, operation_number, number_after, program_number, written_text, read_text, success_text}
use Rattle.card.specs.Program.{answer, blank_field}
use Rattle.card.specs.Card.{max_input, shape_of}
use Rattle.card.specs.theorems.Examples.{Answers}
use Rattle.card.specs.theorems.Worked.{ProgramExamples, flat}
use Rattle.card.proofs.theory.ProgramParts.{answer_refused}

-- an input that is too long
too_long : (s : List ℕ) → length s ≡ 65537 → program_number s ≡ 8
unfolding program_number
too_long s e = rw (lt-leb (length s) max_input (omega (arith, e)))

-- an input of 65,536 bytes is weighed by what it says
longest_taken : (s : List ℕ) → length s ≡ 65536 → program_number s ≡ number_after s (header_of s)
unfolding program_number
longest_taken s e = rw (le-leb (length s) max_input (omega (arith, e)))

-- a shape whose first k cells hold eight bits has a payload of a byte or more, and an empty one is refused with 3
not_empty : (s : Shape) → Accepted s → (k : ℕ) → k ≤ cells_of s → 8 ≤ count (holds_data (layout_of s)) k
    → eqb 0 (plan_bytes s) ≡ false
not_empty s accepted k p q =
    ne_eqb 0 (plan_bytes s)
    (λ (e : 0 ≡ plan_bytes s).
    omega (arith, e, plan_meaning.bytes s accepted, q, count_mono (holds_data (layout_of s)) k (cells_of s) p))

empty_refused : (s : Shape) (field : List ℕ) → Accepted s → eqb 0 (plan_bytes s) ≡ false → encode_number s [] field ≡ 3
unfolding encode_number
empty_refused s field accepted e = rw (accepted, e)

-- the text of 16,384 cells with an empty payload
full : List ℕ
full = ascii "columns=128\nrows=128\nplanes=1\nstrength=3\npayload=\n"

full_number : program_number full ≡ encode_number (shape_of (flat 128 128)) [] (blank_field (flat 128 128))
unfolding
    full
    in_range max_strength size_ok strength_ok window_ok is_none shape_number
    key_at number_ends number_at line_at optional_at header_of is_hex hex_value payload_ok payload_of
    body_ok operation_number number_after program_number
full_number = refl

first_cells : 8 ≤ count (holds_data (layout_of (shape_of (flat 128 128)))) 32
unfolding
    odd_settings even_settings flat_settings settings_for cell_at minus_mod class_with window_class classes_of class_of
    size_to position is_power is_check holds_data
first_cells = lit≤ tt

full_accepted : Accepted (shape_of (flat 128 128))
unfolding in_range max_strength size_ok strength_ok window_ok is_none shape_number
full_accepted = refl

full_three : program_number full ≡ 3
full_three =
    full_number
    ∙ empty_refused (shape_of (flat 128 128)) (blank_field (flat 128 128)) full_accepted
    (not_empty (shape_of (flat 128 128)) full_accepted 32 (lit≤ tt) first_cells)

cells_taken : Answers "columns=128\nrows=128\nplanes=1\nstrength=3\npayload=\n" "refusal=3\n"
unfolding full digit_count decimal number_line refusal_text
cells_taken = answer_refused full (λ e. omega (arith, e, full_three)) ∙ ap refusal_text full_three

-- Theorem. The examples hold.
pub program_examples : ProgramExamples
unfolding
    in_range max_strength size_ok strength_ok window_ok is_none shape_number
    odd_settings even_settings flat_settings stack_table stack_settings settings_for cell_at minus_mod class_with window_class
    classes_of class_of
    size_to position is_power is_check checks holds_data capacity
    is_cell is_received cells_ok having differences tags_of flipped
    erasures_to few_erasures erased_sum filled corrected in_reach all_in_reach
    payload_bytes rank payload_bit padding earlier_padding data_value data_field encoded_with padded_with padding_ok held_payload
    plan_classes plan_capacity plan_bytes plan_cells
    encode_number field_with
    field_number corrected_count decode_number decode_count decode_leaves
    digit_count decimal number_line header_text hex_digit payload_text cells_text row_text field_text refusal_text
    key_at number_ends number_at line_at optional_at header_of is_hex hex_value payload_ok payload_of is_cell_digit row_ok
    rows_ok cells_of_rows
    body_ok operation_number number_after program_number written_text read_text success_text answer
program_examples =
    record {
      written = refl;
      read = refl;
      earlier = refl;
      earlier_read = refl;
      window_written = refl;
      read_by_window = refl;
      input = refl;
      cells = refl;
      too_long = too_long;
      longest_taken = longest_taken;
      most_cells = record { accepted = refl; cells = lit≤ tt };
      more_cells = λ card. omega (arith, card.cells);
      longest = refl;
      cells_taken = cells_taken;
      cells_refused = refl;
      strength_first = refl;
      window_first = refl;
      decimal_digits = (refl, refl);
      hex_digits = refl;
    }
