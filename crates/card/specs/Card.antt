-- A card: its limits, its header, its cells, and its text.
use Rattle.std.specs.Prelude.{ℕ, ◌<◌, ◌≤◌, List, [], ◌∷◌, ◌++◌, ◌≡◌, length, Option, Some, None}
use Rattle.lattice.specs.declared.shape.Shape.{Shape}
use Rattle.lattice.specs.declared.shape.ShapeNumbers.{ShapeNumbers}
use Rattle.lattice.specs.declared.shape.Window.{Window}
use Rattle.lattice.specs.Shape.{Accepted, shape_from, no_window, cells_of}
use Rattle.codec.specs.Field.{field_of, Received}
use Rattle.card.specs.declared.header.Header.{Header}
use Rattle.card.specs.Text.{NumberLine, header_lines, header_text, payload_text, field_text}

-- the limits: 65,536 bytes of input and 16,384 cells
abbrev pub max_input : ℕ
max_input = 65536

abbrev pub max_card_cells : ℕ
max_card_cells = 16384

-- the most bytes of a payload that so many cells hold
abbrev pub max_card_bytes : ℕ
max_card_bytes = 2048

-- the longest answer, that of 4 columns, 256 rows and 16 planes at strength 8 with the window's lines given
abbrev pub max_answer : ℕ
max_answer = 36946

-- the window that its lines give: with none of them both sides are 0
abbrev pub window_of : Option Window → Window
window_of None = no_window
window_of (Some w) = w

-- the numbers that a header gives, and the shape that it names
abbrev pub shape_numbers : Header → ShapeNumbers
shape_numbers h =
    record {
      columns = h.columns;
      rows = h.rows;
      planes = h.planes;
      strength = h.strength;
      window = window_of h.window;
    }

abbrev pub shape_of : Header → Shape
shape_of h = shape_from (shape_numbers h)

-- the numbers of lines have at most five digits
abbrev pub FewDigitsEach : List NumberLine → Type 0
FewDigitsEach [] = Unit {0}
FewDigitsEach (l ∷ ls) = (l.number < 100000) × FewDigitsEach ls

-- the header's numbers have at most five digits
abbrev pub FewDigits : Header → Type 0
FewDigits h = FewDigitsEach (header_lines h)

-- a header whose shape is accepted, with at most 16,384 cells
pub record CardHeader (h : Header) : Type 0 where
  pub accepted : Accepted (shape_of h)
  pub cells : cells_of (shape_of h) ≤ max_card_cells

-- the cells of a field of the header's shape: as many as it has, and nothing but cells and erasures
pub record FieldCells (h : Header) (cells : List ℕ) : Type 0 where
  pub long : length cells ≡ cells_of (shape_of h)
  pub each : Received (field_of cells) (cells_of (shape_of h))

-- the card text of a payload, and of a field
abbrev pub payload_card : Header → List ℕ → List ℕ
payload_card h p = header_text h ++ payload_text p

abbrev pub field_card : Header → List ℕ → List ℕ
field_card h cells = header_text h ++ field_text h cells
