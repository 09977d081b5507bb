-- A card that is read: where the form of the lines after the header is right, they are a payload's text or a field's.
use Prim.Native.Nat.{ℕ}
use mathlib.Core.Bool.{Bool, true, false}
use mathlib.Core.List.{List}
use mathlib.Core.Path.{◌≡◌, refl, sym, ◌∙◌}
use Rattle.codec.specs.Payload.{Bytes}
use Rattle.card.specs.declared.header.Header.{Header}
use Rattle.card.specs.Card.{FieldCells, payload_card, field_card}
use Rattle.card.specs.Parse.{read, header_of, payload_of}
use Rattle.card.specs.Program.{is_payload, cells_in, body_ok}
use Rattle.card.proofs.theorems.Parsing.{parsed_is_text}
use Rattle.card.proofs.theory.ProgramParts.{body_payload, body_rows}

-- the input is the card of the payload or of the field that is read from it
pub data CardRead (s : List ℕ) (h : Header) (next : ℕ) : Type 0 where
  of_payload : is_payload s next ≡ true → Bytes (payload_of s next) → s ≡ payload_card h (payload_of s next) → CardRead s h next
  of_field : is_payload s next ≡ false → FieldCells h (cells_in s h next) → s ≡ field_card h (cells_in s h next)
      → CardRead s h next

pub card_read : (s : List ℕ) (h : Header) (next : ℕ) → header_of s ≡ read h next → body_ok s h next ≡ true
    → CardRead s h next
card_read s h next found right = go (is_payload s next) refl
  where
    go : (b : Bool) → is_payload s next ≡ b → CardRead s h next
    go true e = let r = parsed_is_text.payload s h next found (sym (body_payload s h next e) ∙ right) in of_payload e r.0 r.1
    go false e = let r = parsed_is_text.rows s h next found (sym (body_rows s h next e) ∙ right) in of_field e r.0 r.1
