-- Card texts there and back: what is printed of a payload is read again, and so are rows from which decoding gives it back.
use Prim.Native.Nat.{ℕ}
use mathlib.Core.List.{List, ◌++◌}
use mathlib.Core.Logic.{inl}
use mathlib.Core.Path.{◌≡◌, refl, ◌∙◌, ap}
use native.Mathlib.Nat.{le_of_lt}
use lib.ListN.{length}
use Rattle.lattice.specs.Shape.{cells_of}
use Rattle.codec.specs.Field.{field_of, differences}
use Rattle.codec.specs.Payload.{Bytes}
use Rattle.codec.specs.Plan.{plan_bytes}
use Rattle.codec.specs.Encode.{encoded_field, WrittenFrom}
use Rattle.codec.specs.Decode.{decode_number, decode_count, decode_leaves}
use Rattle.codec.specs.Damage.{Recovered}
use Rattle.codec.proofs.theory.Accepted.{encode_number_lem}
use Rattle.codec.proofs.theory.CellValues.{cells_received}
use Rattle.codec.proofs.theory.OperationNumbers.{decode_taken}
use Rattle.codec.proofs.theorems.Undamaged.{nothing_to_correct}
use Rattle.codec.proofs.theorems.Writing.{encode_meaning}
use Rattle.card.specs.declared.header.Header.{Header}
use Rattle.card.specs.Text.{header_text, number_line, payload_text, field_text, mended_key}
use Rattle.card.specs.Card.{shape_of, FieldCells, CardHeader, payload_card, field_card}
use Rattle.card.specs.Program.{blank_field, blank_payload, written_text, read_text, answer}
use Rattle.card.specs.theorems.RoundTrip.{ReadBack}
use Rattle.card.proofs.theory.ProgramParts.{blank_field_lem, blank_payload_lem, body_payload, operation_payload, success_payload}
use Rattle.card.proofs.theory.ProgramParts.{body_rows, operation_rows, success_rows, answer_found}
use Rattle.card.proofs.theorems.Parsing.{text_parses}

-- a field's text is read to the count and the payload that decoding gives
read_text_lem : (h : Header) (cells p : List ℕ) (n : ℕ) → decode_count (shape_of h) (blank_payload h) cells ≡ n
    → decode_leaves (shape_of h) (blank_payload h) cells ≡ p
    → read_text h cells ≡ header_text h ++ (number_line mended_key n ++ payload_text p)
unfolding read_text
read_text_lem h cells p n count leaves = rw (count, leaves)

-- the cells of the field written
pub written_cells : (h : Header)
    → CardHeader h
    → (p : List ℕ)
    → length p ≡ plan_bytes (shape_of h)
    → Bytes p
    → FieldCells h (encoded_field (shape_of h) p)
written_cells h card p long bytes =
    record {
      long = encode_meaning.long (shape_of h) p;
      each = cells_received _ _ (encode_meaning.lawful (shape_of h) card.accepted p long bytes).cells;
    }

module _ (h : Header) (card : CardHeader h) where
  -- a payload's card is answered with the field written
  pub printed : (p : List ℕ) → length p ≡ plan_bytes (shape_of h) → Bytes p → answer (payload_card h p) ≡ written_text h p
  printed p long bytes =
      let s = payload_card h p in
      let next = length (header_text h) in
      let head = text_parses.payload_header h card p in
      let back = text_parses.payload_back h p bytes in
      answer_found s h next (le_of_lt (text_parses.payload_short h card p long)) head.0 card
      (body_payload s h next head.1 ∙ back.0) (operation_payload s h next head.1
      ∙ rw back.1 (encode_number_lem (shape_of h) card.accepted p (blank_field h) long (blank_field_lem h)))
      ∙ success_payload s h next head.1
      ∙ ap (written_text h) back.1

  -- a field's card that decoding accepts is answered with what it gives
  read : (cells : List ℕ) → decode_number (shape_of h) (blank_payload h) cells ≡ 0 → answer (field_card h cells)
      ≡ read_text h cells
  read cells success =
      let taken = (decode_taken (shape_of h) (blank_payload h) cells success).0 in
      let each : FieldCells h cells = record { long = taken.long; each = taken.cells } in
      let s = field_card h cells in
      let next = length (header_text h) in
      let head = text_parses.field_header h card cells in
      let back = text_parses.field_back h cells each in
      answer_found s h next (le_of_lt (text_parses.field_short h card cells each)) head.0 card
      (body_rows s h next head.1 ∙ back.0) (operation_rows s h next head.1 ∙ rw back.1 success)
      ∙ success_rows s h next head.1
      ∙ ap (read_text h) back.1

  -- so the rows of a field from which a payload comes back are answered with it and the number of cells that differ
  pub read_recovered : (p F G : List ℕ) (n : ℕ) → Recovered (shape_of h) p F G (blank_payload h)
      → differences (field_of F) (field_of G) (cells_of (shape_of h)) ≡ n
      → answer (field_card h G) ≡ header_text h ++ (number_line mended_key n ++ payload_text p)
  read_recovered p F G n back count =
      read G back.decoded_number ∙ read_text_lem h G p n (back.decoded_count ∙ count) back.decoded_payload

  -- so the rows of a field that was written, now or before, are answered with its payload
  pub read_whole : (p F : List ℕ) → length p ≡ plan_bytes (shape_of h) → Bytes p → WrittenFrom (shape_of h) p F
      → answer (field_card h F) ≡ header_text h ++ (number_line mended_key 0 ++ payload_text p)
  read_whole p F long bytes from =
      read_recovered p F F 0
      (nothing_to_correct.written (shape_of h) card.accepted p F long bytes from (blank_payload h) (blank_payload_lem h))
      (nothing_to_correct.count (field_of F) (cells_of (shape_of h)))

  -- with the line of the classes taken out, what is printed of a payload is the card of the field written, and is read back
  pub read_back : (p : List ℕ) → length p ≡ plan_bytes (shape_of h) → Bytes p → ReadBack h p
  unfolding written_text
  read_back p long bytes =
      let F = encoded_field (shape_of h) p in
      record {
        rest = field_text h F;
        printed = printed p long bytes;
        rows = refl;
        read = read_whole p F long bytes (inl refl);
      }
