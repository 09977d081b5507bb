-- Card texts and their answers, character by character: the worked card of document 01, as it is printed now and as it was first
-- printed, whole, damaged, with erased cells and with the lines of a window, and a witness of each refusal but that of too long
-- an input.
use Prim.Native.String.{String, ◌++◌}
use Rattle.std.specs.Prelude.{◌≡◌}
use Rattle.card.specs.Text.{ascii}
use Rattle.card.specs.Program.{answer}

-- an input and its answer
abbrev pub Answers : String → String → Type 0
Answers input output = answer (ascii input) ≡ ascii output

-- the first lines of the worked card, and with the lines of a window, both sides 0
abbrev pub first : String
first = "columns=5\nrows=5\nplanes=1\nstrength=3\n"

abbrev pub zeros : String
zeros = first ++ "window_rows=0\nwindow_columns=0\n"

-- the first lines of a card of one class of three cells
abbrev pub three : String
three = "columns=3\nrows=1\nplanes=1\nstrength=1\n"

-- Theorem. The program's answers to these texts.
pub record CardExamples : Type 0 where
  pub written : Answers (first ++ "payload=a5\n") (first ++ "classes=5\nrow=10011\nrow=00101\nrow=10100\nrow=10101\nrow=10110\n")
  pub read : Answers (first ++ "row=10011\nrow=00101\nrow=10100\nrow=10101\nrow=10110\n") (first ++ "mended=0\npayload=a5\n")
  pub damaged : Answers (first ++ "row=10011\nrow=00101\nrow=10010\nrow=10001\nrow=10110\n") (first ++ "mended=3\npayload=a5\n")
  -- the rows that document 01 first printed, whole and damaged
  pub first_printed :
      Answers (first ++ "row=11011\nrow=00101\nrow=10100\nrow=00101\nrow=10100\n") (first ++ "mended=0\npayload=a5\n")
  pub first_damaged :
      Answers (first ++ "row=11011\nrow=00101\nrow=10010\nrow=00001\nrow=10100\n") (first ++ "mended=3\npayload=a5\n")
  -- erased cells: two clusters of three cells, with either padding, and the first row alone, which has a cell of each class
  pub erased : Answers (first ++ "row=22011\nrow=20101\nrow=10100\nrow=10122\nrow=10112\n") (first ++ "mended=6\npayload=a5\n")
  pub first_erased :
      Answers (first ++ "row=22011\nrow=20101\nrow=10100\nrow=00122\nrow=10102\n") (first ++ "mended=6\npayload=a5\n")
  pub erased_row :
      Answers (first ++ "row=22222\nrow=00101\nrow=10100\nrow=10101\nrow=10110\n") (first ++ "mended=5\npayload=a5\n")
  -- the lines of the window are printed back where they are given
  pub zeros_written :
      Answers (zeros ++ "payload=a5\n") (zeros ++ "classes=5\nrow=10011\nrow=00101\nrow=10100\nrow=10101\nrow=10110\n")
  pub zeros_read :
      Answers (zeros ++ "row=10011\nrow=00101\nrow=10010\nrow=10001\nrow=10110\n") (zeros ++ "mended=3\npayload=a5\n")
  -- 3 by 1, t = 1: one padding cell may be 0 or 1
  pub black_padding : Answers (three ++ "row=111\n") (three ++ "mended=0\npayload=\n")
  pub white_padding : Answers (three ++ "row=000\n") (three ++ "mended=0\npayload=\n")
  -- 8: the first lines, all of them before any number is weighed
  pub key_order : Answers "rows=5\ncolumns=5\nplanes=1\nstrength=3\npayload=a5\n" "refusal=8\n"
  pub leading_zero : Answers "columns=0\nrows=5\nplanes=1\nstrength=03\npayload=a5\n" "refusal=8\n"
  pub six_digits : Answers "columns=100000\nrows=5\nplanes=1\nstrength=3\npayload=a5\n" "refusal=8\n"
  pub carriage_return : Answers "columns=5\r\nrows=5\nplanes=1\nstrength=3\npayload=a5\n" "refusal=8\n"
  -- 8: one line of the window alone, with 300 columns too; both in the wrong order; a needless zero
  pub lone_rows : Answers (first ++ "window_rows=2\npayload=a5\n") "refusal=8\n"
  pub lone_before_size : Answers "columns=300\nrows=5\nplanes=1\nstrength=3\nwindow_rows=2\npayload=a5\n" "refusal=8\n"
  pub lone_columns : Answers (first ++ "window_columns=3\npayload=a5\n") "refusal=8\n"
  pub window_order : Answers (first ++ "window_columns=0\nwindow_rows=0\npayload=a5\n") "refusal=8\n"
  pub window_zero : Answers (first ++ "window_rows=03\nwindow_columns=0\npayload=a5\n") "refusal=8\n"
  -- 1, 2, 11: uncut
  pub size : Answers "columns=65537\nrows=5\nplanes=1\nstrength=0\npayload=a5\n" "refusal=1\n"
  pub strength : Answers "columns=5\nrows=5\nplanes=1\nstrength=65539\npayload=A5\n" "refusal=2\n"
  pub no_strength :
      Answers "columns=5\nrows=5\nplanes=1\nstrength=0\nwindow_rows=0\nwindow_columns=0\npayload=a5\n" "refusal=2\n"
  pub large_window :
      Answers "columns=5\nrows=5\nplanes=1\nstrength=0\nwindow_rows=99999\nwindow_columns=1\npayload=a5\n" "refusal=11\n"
  pub strength_and_window : Answers (first ++ "window_rows=0\nwindow_columns=1\npayload=a5\n") "refusal=11\n"
  -- 8: 16,512 cells
  pub cells : Answers "columns=129\nrows=128\nplanes=1\nstrength=3\npayload=\n" "refusal=8\n"
  -- 8: the lines after the first ones
  pub upper_case : Answers (first ++ "payload=A5\n") "refusal=8\n"
  pub odd_digits : Answers (first ++ "payload=a5a\n") "refusal=8\n"
  pub no_feed : Answers (first ++ "payload=a5") "refusal=8\n"
  pub trailing : Answers (first ++ "payload=a5\n\n") "refusal=8\n"
  pub few_rows : Answers (first ++ "row=10011\nrow=00101\nrow=10100\nrow=10101\n") "refusal=8\n"
  pub no_cell : Answers (first ++ "row=10011\nrow=00101\nrow=10100\nrow=10101\nrow=10113\n") "refusal=8\n"
  -- 3, 10, 6, 7: the operation's own
  pub long_payload : Answers (first ++ "payload=a5a5\n") "refusal=3\n"
  pub many_erasures : Answers (first ++ "row=22222\nrow=20101\nrow=10100\nrow=10122\nrow=10112\n") "refusal=10\n"
  pub out_of_reach : Answers "columns=2\nrows=1\nplanes=1\nstrength=1\nrow=11\n" "refusal=6\n"
  pub wrong_padding : Answers "columns=5\nrows=1\nplanes=1\nstrength=1\nrow=01111\n" "refusal=7\n"
  pub mixed_padding : Answers "columns=6\nrows=1\nplanes=1\nstrength=1\nrow=111000\n" "refusal=7\n"
  -- the first of two classes, 2 0 1, may stand for no codeword, and the second has three erasures: 10 comes before 6
  pub erasures_first : Answers "columns=6\nrows=1\nplanes=1\nstrength=2\nrow=220212\n" "refusal=10\n"
  pub erased_out_of_reach : Answers "columns=6\nrows=1\nplanes=1\nstrength=2\nrow=200010\n" "refusal=6\n"
