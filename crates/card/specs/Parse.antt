-- How a card text is read: what stands at a position of the input. `get_or s i 0` is byte i, and 0, which no card text has, past
-- the end.
use Rattle.std.specs.Prelude.{ℕ, zero, suc, ◌+◌, ◌-◌, ◌*◌, ◌/◌, ◌%◌, Bool, false, cond, not, ◌&&◌, ◌||◌, List, [], ◌∷◌, ◌++◌, leb}
use Rattle.std.specs.Prelude.{ltb, eqb, length, get_or, Option, Some, None}
use Rattle.lattice.specs.Range.{in_range}
use Rattle.lattice.specs.Counting.{all_below}
use Rattle.codec.specs.Field.{list_of, is_received}
use Rattle.card.specs.declared.scan.Found.{Found}
use Rattle.card.specs.declared.header.Header.{Header}
use Rattle.card.specs.Text.{header_keys, window_keys, header_from, payload_key, row_key, feed}

-- something is read, and `next` is where the rest starts
abbrev pub read : {A : Type 0} → A → ℕ → Option (Found A)
read value next = Some (record { value = value; next = next })

-- the bytes of a key stand at position `at`
unfoldable pub key_at : List ℕ → List ℕ → ℕ → Bool
key_at key s at = all_below (λ j. eqb (get_or s (at + j) 0) (get_or key j 0)) (length key)

-- a decimal digit
abbrev pub is_digit : ℕ → Bool
is_digit b = in_range 48 57 b

-- how many decimal digits follow one another from `at`, counted up to a limit
abbrev pub digit_run : List ℕ → ℕ → ℕ → ℕ
digit_run s at zero = 0
digit_run s at (suc limit) = cond (is_digit (get_or s at 0)) (1 + digit_run s (at + 1) limit) 0

-- the value of the k digits from `at`
abbrev pub digits_value : List ℕ → ℕ → ℕ → ℕ
digits_value s at zero = 0
digits_value s at (suc k) = digits_value s at k * 10 + (get_or s (at + k) 0 - 48)

-- k digits from `at` are a number that ends its line: 1 to 5 digits, no needless leading zero, and a line feed behind them
unfoldable pub number_ends : List ℕ → ℕ → ℕ → Bool
number_ends s at k = in_range 1 5 k && (eqb k 1 || not (eqb (get_or s at 0) 48)) && eqb (get_or s (at + k) 0) feed

-- the number at `at` that ends its line; six digits are counted, so that a sixth is seen
unfoldable pub number_at : List ℕ → ℕ → Option (Found ℕ)
number_at s at =
    let k = digit_run s at 6 in
    cond (number_ends s at k) (read (digits_value s at k) (at + k + 1)) None

-- a line key=number at `at`: the number, and where the next line starts
unfoldable pub line_at : List ℕ → List ℕ → ℕ → Option (Found ℕ)
line_at key s at = cond (key_at key s at) (number_at s (at + length key)) None

-- what is read of lines: their numbers, if there is no fault
abbrev pub LinesRead : Type 0
LinesRead = Option (Found (List ℕ))

-- numbers put before those that are read
abbrev pub before : List ℕ → LinesRead → LinesRead
before ns (Some r) = read (ns ++ r.value) r.next
before ns None = None

-- one line, then the others from where it ends
abbrev pub after_line : (ℕ → LinesRead) → Option (Found ℕ) → LinesRead
after_line others (Some r) = before (r.value ∷ []) (others r.next)
after_line others None = None

-- the lines of these keys from `at` on, in this order
abbrev pub lines_at : List (List ℕ) → List ℕ → ℕ → LinesRead
lines_at [] s at = read [] at
lines_at (key ∷ keys) s at = after_line (lines_at keys s) (line_at key s at)

-- one of these keys stands at `at`
abbrev pub any_key_at : List (List ℕ) → List ℕ → ℕ → Bool
any_key_at [] s at = false
any_key_at (key ∷ keys) s at = key_at key s at || any_key_at keys s at

-- lines that may be left out: where one of their keys stands at `at`, all of them are read there, and else none is
unfoldable pub optional_at : List (List ℕ) → List ℕ → ℕ → LinesRead
optional_at keys s at = cond (any_key_at keys s at) (lines_at keys s at) (read [] at)

-- some lines, then others from where they end
abbrev pub after_lines : (ℕ → LinesRead) → LinesRead → LinesRead
after_lines others (Some r) = before r.value (others r.next)
after_lines others None = None

-- the first lines: the header, and where the rest starts
abbrev pub header_read : LinesRead → Option (Found Header)
header_read (Some r) = read (header_from r.value) r.next
header_read None = None

unfoldable pub header_of : List ℕ → Option (Found Header)
header_of s = header_read (after_lines (optional_at window_keys s) (lines_at header_keys s 0))

-- a lower-case hexadecimal digit, and its value
unfoldable pub is_hex : ℕ → Bool
is_hex b = in_range 48 57 b || in_range 97 102 b

unfoldable pub hex_value : ℕ → ℕ
hex_value b = cond (ltb b 58) (b - 48) (b - 87)

-- how many hexadecimal digits the line `payload` at `at` has if it is the last of the input
abbrev pub hex_count : List ℕ → ℕ → ℕ
hex_count s at = length s - 1 - (at + length payload_key)

-- the rest of the input from `at` is one line `payload` of whole bytes
unfoldable pub payload_ok : List ℕ → ℕ → Bool
payload_ok s at =
    key_at payload_key s at
    && ltb (at + length payload_key) (length s)
    && eqb (get_or s (length s - 1) 0) feed
    && eqb (hex_count s at % 2) 0
    && all_below (λ j. is_hex (get_or s (at + length payload_key + j) 0)) (hex_count s at)

unfoldable pub payload_of : List ℕ → ℕ → List ℕ
payload_of s at =
    list_of
    (λ j. hex_value (get_or s (at + length payload_key + 2 * j) 0) * 16
    + hex_value (get_or s (at + length payload_key + 2 * j + 1) 0))
    (hex_count s at / 2)

-- where row r of w digits starts, and the byte of cell i
abbrev pub row_start : ℕ → ℕ → ℕ → ℕ
row_start at w r = at + r * (length row_key + w + 1)

abbrev pub cell_place : ℕ → ℕ → ℕ → ℕ
cell_place at w i = row_start at w (i / w) + length row_key + i % w

-- the digit of a cell, as a row that is read has it: 0 for white, 1 for black and 2 for erased
unfoldable pub is_cell_digit : ℕ → Bool
is_cell_digit b = leb 48 b && is_received (b - 48)

-- line r of the rows from `at` is a line `row` of w such digits
unfoldable pub row_ok : List ℕ → ℕ → ℕ → ℕ → Bool
row_ok s at w r =
    key_at row_key s (row_start at w r)
    && all_below (λ c. is_cell_digit (get_or s (row_start at w r + length row_key + c) 0)) w
    && eqb (get_or s (row_start at w r + length row_key + w) 0) feed

-- the rest of the input from `at` is k lines `row` of w digits of cells
unfoldable pub rows_ok : List ℕ → ℕ → ℕ → ℕ → Bool
rows_ok s at w k = eqb (length s) (row_start at w k) && all_below (row_ok s at w) k

-- the cells of those rows
unfoldable pub cells_of_rows : List ℕ → ℕ → ℕ → ℕ → List ℕ
cells_of_rows s at w n = list_of (λ i. get_or s (cell_place at w i) 0 - 48) n
