-- What the work buffers of the program hold. Only contracts of functions that are private to the crate cite this file; no promise
-- to a caller rests on it.
use Rattle.std.specs.Prelude.{ℕ, ◌+◌, ◌<◌, ◌≤◌, List, ◌++◌, ◌≡◌, length, take, drop, Option, Some, None}
use Rattle.lattice.specs.declared.shape.Shape.{Shape}
use Rattle.lattice.specs.declared.shape.Window.{Window}
use Rattle.lattice.specs.Refusal.{beside}
use Rattle.lattice.specs.Shape.{max_side, max_cells}
use Rattle.codec.specs.Encode.{encode_number}
use Rattle.codec.specs.Decode.{decode_number}
use Rattle.card.specs.declared.header.Header.{Header}
use Rattle.card.specs.declared.scan.Found.{Found}
use Rattle.card.specs.Text.{number_line, window_from, header_text, refusal_text}
use Rattle.card.specs.Card.{max_input, shape_of, CardHeader}
use Rattle.card.specs.Parse.{LinesRead, read, header_of}
use Rattle.card.specs.Program.{blank_field, blank_payload, written_text, read_text, output_leaves}

-- the lines of the window from what is read of them
abbrev pub window_read : LinesRead → Option (Found (Option Window))
window_read (Some r) = read (window_from r.value) r.next
window_read None = None

-- rows of w digits from `at` are to be stored in a field
pub record CellsFit (s : List ℕ) (at w : ℕ) (field : List ℕ) : Type 0 where
  pub inside : at ≤ length s
  pub some : 0 < w
  pub narrow : w ≤ max_side
  pub cells : length field ≤ max_cells

-- a text has room in a buffer from `at` on
pub record HasRoom (buffer : List ℕ) (at : ℕ) (text : List ℕ) : Type 0 where
  pub fits : at + length text ≤ length buffer

-- a text has been written into a buffer at `at`; the other bytes are as they were, and `next` is the position behind the text
pub record Printed (before after : List ℕ) (at : ℕ) (text : List ℕ) (next : ℕ) : Type 0 where
  pub bytes : after ≡ take at before ++ (text ++ drop (at + length text) before)
  pub behind : next ≡ at + length text

-- an answer is given: its length, and what it leaves in the output
pub record Answered (text before after : List ℕ) (r : ℕ) : Type 0 where
  pub long : r ≡ length text
  pub leaves : after ≡ output_leaves text before

-- the first lines of a success, and the line key=number behind them
unfoldable pub head_text : Header → List ℕ → ℕ → List ℕ
head_text h key n = header_text h ++ number_line key n

-- the shape of a card's header
pub record CardShape (h : Header) (s : Shape) : Type 0 where
  pub card : CardHeader h
  pub shape : s ≡ shape_of h

-- an input with a header, not too long
pub record HeaderRead (s : List ℕ) (h : Header) (next : ℕ) : Type 0 where
  pub short : length s ≤ max_input
  pub found : header_of s ≡ read h next

-- such an input whose header is a card's
pub record BodyRead (s : List ℕ) (h : Header) (next : ℕ) (shape : Shape) : Type 0 where
  pub header : HeaderRead s h next
  pub shaped : CardShape h shape

-- the answer to a payload of these bytes
unfoldable pub encoded_text : Header → List ℕ → List ℕ
encoded_text h p =
    let number = encode_number (shape_of h) p (blank_field h) in
    beside number (written_text h p) (refusal_text number)

-- the answer to rows of these cells
unfoldable pub decoded_text : Header → List ℕ → List ℕ
decoded_text h cells =
    let number = decode_number (shape_of h) (blank_payload h) cells in
    beside number (read_text h cells) (refusal_text number)
