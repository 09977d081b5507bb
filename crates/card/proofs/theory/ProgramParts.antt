-- The parts of the program's number and answer, for a payload and for rows.
use Prim.Native.Nat.{ℕ, ◌≤◌}
use mathlib.Core.Bool.{true, false}
use mathlib.Core.List.{List}
use mathlib.Core.Logic.{◌≢◌}
use mathlib.Core.Path.{◌≡◌, ◌∙◌, ap}
use borrow.Author.Tests.{le-leb}
use lib.ListN.{length, length-replicate}
use Rattle.lattice.specs.Shape.{cells_of}
use Rattle.lattice.proofs.theory.Answers.{beside_zero, beside_other}
use Rattle.codec.specs.Plan.{plan_bytes}
use Rattle.codec.specs.Encode.{encode_number}
use Rattle.codec.specs.Decode.{decode_number}
use Rattle.card.specs.declared.header.Header.{Header}
use Rattle.card.specs.Text.{refusal_text}
use Rattle.card.specs.Card.{max_input, max_card_cells, shape_of, CardHeader}
use Rattle.card.specs.Parse.{read, header_of, payload_ok, payload_of}
use Rattle.card.specs.Program.{blank_field, blank_payload, is_payload, rows_fit, cells_in, body_ok, operation_number}
use Rattle.card.specs.Program.{number_after}
use Rattle.card.specs.Program.{program_number, written_text, read_text, success_text, answer}

-- the buffers that are lent have the plan's lengths
pub blank_field_lem : (h : Header) → length (blank_field h) ≡ cells_of (shape_of h)
blank_field_lem h = length-replicate (cells_of (shape_of h)) 0

pub blank_payload_lem : (h : Header) → length (blank_payload h) ≡ plan_bytes (shape_of h)
blank_payload_lem h = length-replicate (plan_bytes (shape_of h)) 0

module _ (s : List ℕ) (h : Header) (next : ℕ) where
  -- the lines after the header are a payload
  module _ (payload : is_payload s next ≡ true) where
    pub body_payload : body_ok s h next ≡ payload_ok s next
    unfolding body_ok
    body_payload = rw payload

    pub operation_payload : operation_number s h next ≡ encode_number (shape_of h) (payload_of s next) (blank_field h)
    unfolding operation_number
    operation_payload = rw payload

    pub success_payload : success_text s (read h next) ≡ written_text h (payload_of s next)
    unfolding success_text
    success_payload = rw payload

  -- they are rows
  module _ (rows : is_payload s next ≡ false) where
    pub body_rows : body_ok s h next ≡ rows_fit s h next
    unfolding body_ok
    body_rows = rw rows

    pub operation_rows : operation_number s h next ≡ decode_number (shape_of h) (blank_payload h) (cells_in s h next)
    unfolding operation_number
    operation_rows = rw rows

    pub success_rows : success_text s (read h next) ≡ read_text h (cells_in s h next)
    unfolding success_text
    success_rows = rw rows

-- the answer where the number is 0, and where it is another
pub answer_success : (s : List ℕ) → program_number s ≡ 0 → answer s ≡ success_text s (header_of s)
unfolding answer
answer_success s e = beside_zero (program_number s) _ _ e

pub answer_refused : (s : List ℕ) → program_number s ≢ 0 → answer s ≡ refusal_text (program_number s)
unfolding answer
answer_refused s other = beside_other (program_number s) _ _ other

-- an input that passes every test but the operation's own has the operation's number
pub number_operation : (s : List ℕ) (h : Header) (next : ℕ) → length s ≤ max_input → header_of s ≡ read h next
    → CardHeader h
    → body_ok s h next ≡ true → program_number s ≡ operation_number s h next
unfolding program_number number_after
number_operation s h next short found card right =
    rw (
      le-leb (length s) max_input short,
      found,
      card.accepted,
      le-leb (cells_of (shape_of h)) max_card_cells card.cells,
      right,
    )

-- and where that is 0, the answer is what is printed of a success
pub answer_found : (s : List ℕ) (h : Header) (next : ℕ) → length s ≤ max_input → header_of s ≡ read h next → CardHeader h
    → body_ok s h next ≡ true → operation_number s h next ≡ 0 → answer s ≡ success_text s (read h next)
answer_found s h next short found card right success =
    answer_success s (number_operation s h next short found card right ∙ success) ∙ ap (success_text s) found
