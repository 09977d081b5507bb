-- The theorems on parsing: a card text parses back, what is parsed is such a text, and it is the text of one card.
use Rattle.std.specs.Prelude.{ℕ, ◌<◌, true, false, List, ◌++◌, ◌≡◌, ◌≢◌, length, drop, None}
use Rattle.codec.specs.Payload.{Bytes}
use Rattle.codec.specs.Plan.{plan_bytes}
use Rattle.card.specs.declared.header.Header.{Header}
use Rattle.card.specs.Text.{header_text, payload_text, field_text}
use Rattle.card.specs.Card.{max_input, shape_of, CardHeader, FieldCells, payload_card, field_card, FewDigits}
use Rattle.card.specs.Parse.{read, header_of, payload_ok, payload_of}
use Rattle.card.specs.Program.{is_payload, rows_fit, cells_in}
use Rattle.card.specs.Form.{NoWindowLine, HeaderFirst}

-- Theorem. For every card's header, every payload of the plan's length and every field of cells and erasures: its text has fewer
-- than 65,536 bytes and parses back to it.
pub record TextParses : Type 0 where
  pub payload_short : (h : Header)
      → CardHeader h
      → (p : List ℕ)
      → length p ≡ plan_bytes (shape_of h)
      → length (payload_card h p) < max_input
  pub payload_header : (h : Header) → CardHeader h → (p : List ℕ)
      → (header_of (payload_card h p) ≡ read h (length (header_text h)))
      × (is_payload (payload_card h p) (length (header_text h)) ≡ true)
  pub payload_back : (h : Header) (p : List ℕ) → Bytes p
      → (payload_ok (payload_card h p) (length (header_text h)) ≡ true)
      × (payload_of (payload_card h p) (length (header_text h)) ≡ p)
  pub field_short : (h : Header) → CardHeader h → (cells : List ℕ) → FieldCells h cells → length (field_card h cells) < max_input
  pub field_header : (h : Header) → CardHeader h → (cells : List ℕ)
      → (header_of (field_card h cells) ≡ read h (length (header_text h)))
      × (is_payload (field_card h cells) (length (header_text h)) ≡ false)
  pub field_back : (h : Header) (cells : List ℕ) → FieldCells h cells
      → (rows_fit (field_card h cells) h (length (header_text h)) ≡ true)
      × (cells_in (field_card h cells) h (length (header_text h)) ≡ cells)

-- Theorem. Where a header is found, and a payload or rows of the right form behind it, the input is exactly the text of what is
-- read from it; and no line of a window follows a header that is read without its lines.
pub record ParsedIsText : Type 0 where
  pub header : (s : List ℕ) (h : Header) (next : ℕ) → header_of s ≡ read h next
      → FewDigits h
      × (next ≡ length (header_text h))
      × (s ≡ header_text h ++ drop next s)
      × (h.window ≡ None → NoWindowLine (drop next s))
  pub payload : (s : List ℕ) (h : Header) (next : ℕ) → header_of s ≡ read h next → payload_ok s next ≡ true
      → Bytes (payload_of s next) × (s ≡ payload_card h (payload_of s next))
  pub rows : (s : List ℕ) (h : Header) (next : ℕ) → header_of s ≡ read h next → rows_fit s h next ≡ true
      → FieldCells h (cells_in s h next) × (s ≡ field_card h (cells_in s h next))

-- Theorem. An input is the text of one card at most: one header and one rest, and there one payload or the rows of one field, not
-- both.
pub record OneCard : Type 0 where
  pub header : (s : List ℕ) (x y : HeaderFirst s) → (x.header ≡ y.header) × (x.rest ≡ y.rest)
  pub payload : (p q : List ℕ) → Bytes p → Bytes q → payload_text p ≡ payload_text q → p ≡ q
  pub rows : (h : Header) (a b : List ℕ) → FieldCells h a → FieldCells h b → field_text h a ≡ field_text h b → a ≡ b
  pub either : (h : Header) → CardHeader h → (p cells : List ℕ) → payload_text p ≢ field_text h cells
