-- The card program: the number that an input is refused with, and the text that it writes.
use Rattle.std.specs.Prelude.{ℕ, ◌*◌, Bool, cond, List, ◌++◌, leb, length, replicate, drop, Option, Some, None}
use Rattle.lattice.specs.Refusal.{unless, beside}
use Rattle.lattice.specs.Shape.{after_shape, cells_of}
use Rattle.codec.specs.Plan.{plan_classes, plan_bytes}
use Rattle.codec.specs.Encode.{encode_number, encoded_field}
use Rattle.codec.specs.Decode.{decode_number, decode_count, decode_leaves}
use Rattle.card.specs.declared.header.Header.{Header}
use Rattle.card.specs.declared.scan.Found.{Found}
use Rattle.card.specs.Text.{number_line, header_text, payload_text, field_text, refusal_text, classes_key, mended_key}
use Rattle.card.specs.Text.{payload_key}
use Rattle.card.specs.Card.{max_input, max_card_cells, shape_of}
use Rattle.card.specs.Parse.{header_of, key_at, payload_ok, payload_of, rows_ok, cells_of_rows}

-- the buffers that the program lends: a field and a payload of the plan's lengths, all 0
abbrev pub blank_field : Header → List ℕ
blank_field h = replicate (cells_of (shape_of h)) 0

abbrev pub blank_payload : Header → List ℕ
blank_payload h = replicate (plan_bytes (shape_of h)) 0

-- the lines after the header: one payload, or rows
abbrev pub is_payload : List ℕ → ℕ → Bool
is_payload s next = key_at payload_key s next

abbrev pub rows_fit : List ℕ → Header → ℕ → Bool
rows_fit s h next = rows_ok s next h.columns (h.planes * h.rows)

abbrev pub cells_in : List ℕ → Header → ℕ → List ℕ
cells_in s h next = cells_of_rows s next h.columns (cells_of (shape_of h))

-- the form of the lines after the header is right
unfoldable pub body_ok : List ℕ → Header → ℕ → Bool
body_ok s h next = cond (is_payload s next) (payload_ok s next) (rows_fit s h next)

-- the operation's own number: 3 for a payload, or 10, 6 and 7 for rows
unfoldable pub operation_number : List ℕ → Header → ℕ → ℕ
operation_number s h next =
    cond (is_payload s next)
    (encode_number (shape_of h) (payload_of s next) (blank_field h))
    (decode_number (shape_of h) (blank_payload h) (cells_in s h next))

-- after the header: the shape's, 8 for more than 16,384 cells, 8 for a fault of form later, then the operation's own
unfoldable pub number_after : List ℕ → Option (Found Header) → ℕ
number_after s None = 8
number_after s (Some r) =
    let h = r.value in
    after_shape (shape_of h)
    (unless (leb (cells_of (shape_of h)) max_card_cells) 8
    (unless (body_ok s h r.next) 8
    (operation_number s h r.next)))

-- the number: 8 for more than 65,536 bytes, 8 for a fault in the first lines, then the rest
unfoldable pub program_number : List ℕ → ℕ
program_number s = unless (leb (length s) max_input) 8 (number_after s (header_of s))

-- what is printed of a payload: the first lines, `classes` and the rows
unfoldable pub written_text : Header → List ℕ → List ℕ
written_text h p =
    header_text h ++ (number_line classes_key (plan_classes (shape_of h)) ++ field_text h (encoded_field (shape_of h) p))

-- what is printed of rows: the first lines, `mended` and `payload`
unfoldable pub read_text : Header → List ℕ → List ℕ
read_text h cells =
    header_text h
    ++ (number_line mended_key (decode_count (shape_of h) (blank_payload h) cells)
    ++ payload_text (decode_leaves (shape_of h) (blank_payload h) cells))

-- a success; a fault in the first lines is none, and is refused with 8 before this is asked
unfoldable pub success_text : List ℕ → Option (Found Header) → List ℕ
success_text s None = refusal_text 8
success_text s (Some r) =
    cond (is_payload s r.next) (written_text r.value (payload_of s r.next)) (read_text r.value (cells_in s r.value r.next))

-- the answer to an input
unfoldable pub answer : List ℕ → List ℕ
answer s = beside (program_number s) (success_text s (header_of s)) (refusal_text (program_number s))

-- what an answer leaves in a lent output: its text and behind it the bytes as they were, or all of them as they were where it is
-- too short
unfoldable pub output_leaves : List ℕ → List ℕ → List ℕ
output_leaves text output = cond (leb (length text) (length output)) (text ++ drop (length text) output) output
