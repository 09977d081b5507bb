-- The form of a card text, said by its text alone, and the program's refusals, each by a condition of its own.
use Rattle.std.specs.Prelude.{ℕ, ◌<◌, List, [], ◌∷◌, ◌++◌, ◌≢◌, ◌≡◌, length, None}
use Rattle.lattice.specs.declared.shape.Shape.{Shape}
use Rattle.lattice.specs.Refusal.{Listed, listed, Condition, listed_by}
use Rattle.lattice.specs.Shape.{shape_conditions, cells_of}
use Rattle.codec.specs.Field.{Field, field_of}
use Rattle.codec.specs.Payload.{Bytes}
use Rattle.codec.specs.Plan.{plan_bytes}
use Rattle.codec.specs.Conditions.{WrongPayloadLength, ManyErasures, NoneInReach}
use Rattle.codec.specs.Reach.{WrongInReach}
use Rattle.card.specs.declared.header.Header.{Header}
use Rattle.card.specs.Text.{window_rows_key, window_columns_key, header_text, payload_text, field_text, refusal_text}
use Rattle.card.specs.Card.{max_input, max_card_cells, shape_of, FewDigits, CardHeader, FieldCells, payload_card, field_card}
use Rattle.card.specs.Program.{program_number, written_text, read_text, answer}

-- a text begins with a key
abbrev pub BeginsWith : List ℕ → List ℕ → Type 0
BeginsWith key s = (tail : List ℕ) × (s ≡ key ++ tail)

-- it begins with no line of a window
abbrev pub NoWindowLine : List ℕ → Type 0
NoWindowLine s = (¬ BeginsWith window_rows_key s) × (¬ BeginsWith window_columns_key s)

-- the input is the text of a header, followed by anything but a line of the window that the header leaves out
pub record HeaderFirst (s : List ℕ) : Type 0 where
  pub header : Header
  pub rest : List ℕ
  pub small : FewDigits header
  pub text : s ≡ header_text header ++ rest
  pub whole : header.window ≡ None → NoWindowLine rest

-- the rest is the text of one payload, or of the rows that the header asks for
pub data Body (h : Header) (rest : List ℕ) : Type 0 where
  payload : (p : List ℕ) → Bytes p → rest ≡ payload_text p → Body h rest
  rows : (cells : List ℕ) → FieldCells h cells → rest ≡ field_text h cells → Body h rest

-- the input is a card text: a card's header, and behind it one payload or the rows of one field
pub record CardText (s : List ℕ) : Type 0 where
  pub first : HeaderFirst s
  pub card : CardHeader first.header
  pub body : Body first.header first.rest

-- 8: more than 65,536 bytes
abbrev pub TooLong : List ℕ → Type 0
TooLong s = max_input < length s

-- 8: the first lines are the text of no header
abbrev pub NoHeader : List ℕ → Type 0
NoHeader s = ¬ HeaderFirst s

-- conditions on a shape, asked of the shape of the header that the input starts with
abbrev pub header_refusals : List (Condition Shape) → List ℕ → List Listed
header_refusals cs s = listed_by (λ P. (x : HeaderFirst s) × P (shape_of x.header)) cs

-- 8: more than 16,384 cells
abbrev pub TooManyCells : List ℕ → Type 0
TooManyCells s = (x : HeaderFirst s) × (max_card_cells < cells_of (shape_of x.header))

-- 8: a header is followed neither by the text of one payload nor by the rows that it asks for
abbrev pub NoBody : List ℕ → Type 0
NoBody s = (x : HeaderFirst s) × (¬ Body x.header x.rest)

-- 3: the payload's length isn't the plan's
abbrev pub PayloadRefused : List ℕ → Type 0
PayloadRefused s =
    (x : HeaderFirst s) × (p : List ℕ) × Bytes p × (x.rest ≡ payload_text p) × WrongPayloadLength (shape_of x.header) p

-- 10, 6, 7: of the field that the rows give
abbrev pub FieldRefused : (Shape → Field → Type 0) → List ℕ → Type 0
FieldRefused C s =
    (x : HeaderFirst s) × (cells : List ℕ) × FieldCells x.header cells × (x.rest ≡ field_text x.header cells)
    × C (shape_of x.header) (field_of cells)

abbrev pub ErasuresRefused : List ℕ → Type 0
ErasuresRefused s = FieldRefused ManyErasures s

abbrev pub ReachRefused : List ℕ → Type 0
ReachRefused s = FieldRefused NoneInReach s

abbrev pub PaddingRefused : List ℕ → Type 0
PaddingRefused s = FieldRefused WrongInReach s

-- the operation's own refusals
abbrev pub operation_refusals : List ℕ → List Listed
operation_refusals s =
    listed 3 (PayloadRefused s)
    ∷ listed 10 (ErasuresRefused s)
    ∷ listed 6 (ReachRefused s)
    ∷ listed 7 (PaddingRefused s)
    ∷ []

-- the refusals after the header: those of its shape, then the card's and the operation's
abbrev pub later_refusals : List ℕ → List Listed
later_refusals s = header_refusals shape_conditions s ++ (listed 8 (TooManyCells s) ∷ listed 8 (NoBody s) ∷ operation_refusals s)

-- the program's refusals in the listed order
abbrev pub program_refusals : List ℕ → List Listed
program_refusals s = listed 8 (TooLong s) ∷ listed 8 (NoHeader s) ∷ later_refusals s

-- the output is one of three forms: the answer to a payload (header, `classes`, rows), the answer to rows (header, `mended`,
-- payload), or a refusal alone
pub data OneOfThree (s : List ℕ) : Type 0 where
  written : (h : Header) (p : List ℕ) → CardHeader h → length p ≡ plan_bytes (shape_of h) → Bytes p
      → program_number s ≡ 0 → s ≡ payload_card h p → answer s ≡ written_text h p → OneOfThree s
  read : (h : Header) (cells : List ℕ) → CardHeader h → FieldCells h cells
      → program_number s ≡ 0 → s ≡ field_card h cells → answer s ≡ read_text h cells → OneOfThree s
  refused : program_number s ≢ 0 → answer s ≡ refusal_text (program_number s) → OneOfThree s
