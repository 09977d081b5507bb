-- Our own examples of the program, worked by hand: a card that is not square and has two planes, with a payload that reads
-- differently from both ends; the limits; and every digit.
use Rattle.std.specs.Prelude.{ℕ, List, [], ◌∷◌, ◌≡◌, length, None}
use Prim.Native.String.{String, ◌++◌}
use Rattle.card.specs.declared.header.Header.{Header}
use Rattle.card.specs.Text.{ascii, decimal, hex_text}
use Rattle.card.specs.Card.{max_input, max_card_cells, max_answer, CardHeader}
use Rattle.card.specs.Parse.{header_of}
use Rattle.card.specs.Program.{number_after, program_number}
use Rattle.card.specs.theorems.Examples.{Answers}

-- the first lines
abbrev pub lines : String
lines = "columns=7\nrows=5\nplanes=2\nstrength=3\n"

-- the first lines of a card by window
abbrev pub windowed : String
windowed = "columns=7\nrows=5\nplanes=1\nstrength=0\nwindow_rows=2\nwindow_columns=3\n"

-- a header of w columns and h rows in one plane, of strength 3
abbrev pub flat : ℕ → ℕ → Header
flat w h = record { columns = w; rows = h; planes = 1; strength = 3; window = None }

-- Theorem. The examples hold.
pub record ProgramExamples : Type 0 where
  pub written :
      Answers (lines ++ "payload=0b3c71e64a\n")
      (lines ++ "classes=7\nrow=1000001\nrow=1010000\nrow=0000101\nrow=1010000\nrow=1001111\n"
      ++ "row=0001110\nrow=0011110\nrow=1101100\nrow=0110010\nrow=0101010\n")
  -- three cells lost: row 2, column 3 in both planes, and its neighbour in the second
  pub read :
      Answers
      (lines ++ "row=1000001\nrow=1010000\nrow=0001101\nrow=1010000\nrow=1001111\n"
      ++ "row=0001110\nrow=0011110\nrow=1100000\nrow=0110010\nrow=0101010\n")
      (lines ++ "mended=3\npayload=0b3c71e64a\n")
  -- the rows that were printed before, whole and with the same cells lost
  pub earlier :
      Answers
      (lines ++ "row=1000001\nrow=1011000\nrow=0000101\nrow=1010000\nrow=1001111\n"
      ++ "row=0001110\nrow=0011110\nrow=1001100\nrow=0110010\nrow=0101000\n")
      (lines ++ "mended=0\npayload=0b3c71e64a\n")
  pub earlier_read :
      Answers
      (lines ++ "row=1000001\nrow=1011000\nrow=0001101\nrow=1010000\nrow=1001111\n"
      ++ "row=0001110\nrow=0011110\nrow=1000000\nrow=0110010\nrow=0101000\n")
      (lines ++ "mended=3\npayload=0b3c71e64a\n")
  -- a window of 2 rows and 3 columns on a field that is not square; and all six cells of the window at row 1, column 1 lost
  pub window_written :
      Answers (windowed ++ "payload=0b3c\n")
      (windowed ++ "classes=6\nrow=0111100\nrow=0110110\nrow=0001010\nrow=0110000\nrow=1110100\n")
  pub read_by_window :
      Answers (windowed ++ "row=0111100\nrow=0001110\nrow=0110010\nrow=0110000\nrow=1110100\n")
      (windowed ++ "mended=6\npayload=0b3c\n")
  -- the limits
  pub input : max_input ≡ 65536
  pub cells : max_card_cells ≡ 16384
  pub too_long : (s : List ℕ) → length s ≡ 65537 → program_number s ≡ 8
  pub longest_taken : (s : List ℕ) → length s ≡ 65536 → program_number s ≡ number_after s (header_of s)
  pub most_cells : CardHeader (flat 128 128)
  pub more_cells : ¬ CardHeader (flat 129 128)
  pub longest : max_answer ≡ 36946
  -- what the program says at the limit: of 16,384 cells an empty payload is refused for its length, 16,385 cells are refused
  -- themselves, and a strength and a window come before the cells
  pub cells_taken : Answers "columns=128\nrows=128\nplanes=1\nstrength=3\npayload=\n" "refusal=3\n"
  pub cells_refused : Answers "columns=145\nrows=113\nplanes=1\nstrength=3\npayload=\n" "refusal=8\n"
  pub strength_first : Answers "columns=129\nrows=128\nplanes=1\nstrength=0\npayload=\n" "refusal=2\n"
  pub window_first :
      Answers "columns=129\nrows=128\nplanes=1\nstrength=0\nwindow_rows=0\nwindow_columns=1\npayload=\n" "refusal=11\n"
  -- every digit
  pub decimal_digits : (decimal 12345 ≡ ascii "12345") × (decimal 67890 ≡ ascii "67890")
  pub hex_digits : hex_text (1 ∷ 35 ∷ 69 ∷ 103 ∷ 137 ∷ 171 ∷ 205 ∷ 239 ∷ []) ≡ ascii "0123456789abcdef"
