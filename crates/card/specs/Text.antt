-- The text of a card and of an answer, as lists of ASCII codes: document 01, "Card text".
use Rattle.std.specs.Prelude.{ℕ, zero, suc, ◌+◌, ◌*◌, ◌/◌, ◌%◌, cond, List, [], ◌∷◌, ◌++◌, map, ltb, get_or, take, drop}
use Rattle.std.specs.Prelude.{Option, Some, None}
use Prim.Native.Char.{code}
use Prim.Native.String.{String, [] as []ˢ, ◌∷◌ as ◌∷ˢ◌}
use Rattle.lattice.specs.declared.shape.Window.{Window}
use Rattle.card.specs.declared.header.Header.{Header}

-- the codes of a text's characters
abbrev pub ascii : String → List ℕ
ascii []ˢ = []
ascii (c ∷ˢ s) = code c ∷ ascii s

-- the keys of the first lines
abbrev pub columns_key : List ℕ
columns_key = ascii "columns="

abbrev pub rows_key : List ℕ
rows_key = ascii "rows="

abbrev pub planes_key : List ℕ
planes_key = ascii "planes="

abbrev pub strength_key : List ℕ
strength_key = ascii "strength="

abbrev pub window_rows_key : List ℕ
window_rows_key = ascii "window_rows="

abbrev pub window_columns_key : List ℕ
window_columns_key = ascii "window_columns="

-- those of the lines that every header has, and those of the window's lines, which are both there or both left out; in this order
abbrev pub header_keys : List (List ℕ)
header_keys = columns_key ∷ rows_key ∷ planes_key ∷ strength_key ∷ []

abbrev pub window_keys : List (List ℕ)
window_keys = window_rows_key ∷ window_columns_key ∷ []

-- the keys of the other lines
abbrev pub payload_key : List ℕ
payload_key = ascii "payload="

abbrev pub row_key : List ℕ
row_key = ascii "row="

abbrev pub classes_key : List ℕ
classes_key = ascii "classes="

abbrev pub mended_key : List ℕ
mended_key = ascii "mended="

abbrev pub refusal_key : List ℕ
refusal_key = ascii "refusal="

-- the line feed that ends each line
abbrev pub feed : ℕ
feed = 10

-- a number in decimal with no needless leading zero, of at most five digits: the last k digits, with k as few as hold it
abbrev pub digits : ℕ → ℕ → List ℕ
digits zero n = []
digits (suc k) n = digits k (n / 10) ++ ((48 + n % 10) ∷ [])

unfoldable pub digit_count : ℕ → ℕ
digit_count n = cond (ltb n 10) 1 (cond (ltb n 100) 2 (cond (ltb n 1000) 3 (cond (ltb n 10000) 4 5)))

unfoldable pub decimal : ℕ → List ℕ
decimal n = digits (digit_count n) n

-- a line key=number
unfoldable pub number_line : List ℕ → ℕ → List ℕ
number_line key n = key ++ (decimal n ++ (feed ∷ []))

-- such a line: its key and its number
pub record NumberLine : Type 0 where
  pub key : List ℕ
  pub number : ℕ

abbrev pub line : List ℕ → ℕ → NumberLine
line key n = record { key = key; number = n }

-- the texts of lines end to end
abbrev pub lines_text : List NumberLine → List ℕ
lines_text [] = []
lines_text (l ∷ ls) = number_line l.key l.number ++ lines_text ls

-- the lines of a list of keys with a list of numbers, as they are read
abbrev pub lines_of : List (List ℕ) → List ℕ → List NumberLine
lines_of [] ns = []
lines_of (key ∷ keys) [] = []
lines_of (key ∷ keys) (n ∷ ns) = line key n ∷ lines_of keys ns

-- the lines of the window
abbrev pub window_lines : Option Window → List NumberLine
window_lines None = []
window_lines (Some w) = line window_rows_key w.rows ∷ line window_columns_key w.columns ∷ []

-- the first lines, and their text
abbrev pub header_lines : Header → List NumberLine
header_lines h =
    (line columns_key h.columns
    ∷ line rows_key h.rows
    ∷ line planes_key h.planes
    ∷ line strength_key h.strength
    ∷ [])
    ++ window_lines h.window

unfoldable pub header_text : Header → List ℕ
header_text h = lines_text (header_lines h)

-- the header of numbers in the order of its lines: those of the window are given where there are more than four
abbrev pub window_from : List ℕ → Option Window
window_from [] = None
window_from (p ∷ ns) = Some (record { rows = p; columns = get_or ns 0 0 })

abbrev pub header_from : List ℕ → Header
header_from ns =
    record {
      columns = get_or ns 0 0;
      rows = get_or ns 1 0;
      planes = get_or ns 2 0;
      strength = get_or ns 3 0;
      window = window_from (drop 4 ns);
    }

-- lower-case hexadecimal, two digits a byte
unfoldable pub hex_digit : ℕ → ℕ
hex_digit d = cond (ltb d 10) (48 + d) (87 + d)

abbrev pub hex_text : List ℕ → List ℕ
hex_text [] = []
hex_text (b ∷ bs) = hex_digit (b / 16) ∷ hex_digit (b % 16) ∷ hex_text bs

-- the line `payload`
unfoldable pub payload_text : List ℕ → List ℕ
payload_text p = payload_key ++ (hex_text p ++ (feed ∷ []))

-- the digits of cells, and a line `row` of them
unfoldable pub cells_text : List ℕ → List ℕ
cells_text cells = map (λ v. 48 + v) cells

unfoldable pub row_text : List ℕ → List ℕ
row_text cells = row_key ++ (cells_text cells ++ (feed ∷ []))

-- k lines `row` of w digits each, from the cells in byte order, plane after plane
abbrev pub rows_text : ℕ → ℕ → List ℕ → List ℕ
rows_text w zero cells = []
rows_text w (suc k) cells = row_text (take w cells) ++ rows_text w k (drop w cells)

-- the rows of a field
unfoldable pub field_text : Header → List ℕ → List ℕ
field_text h cells = rows_text h.columns (h.planes * h.rows) cells

-- a refusal, alone
unfoldable pub refusal_text : ℕ → List ℕ
refusal_text k = number_line refusal_key k
