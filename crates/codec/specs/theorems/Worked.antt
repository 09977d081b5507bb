-- Our own examples of coding, worked by hand: a stack of 7 columns, 5 rows and 2 planes at t = 3, where no number is another's,
-- with a payload that reads differently from both ends; and single classes with one, two and three padding cells.
use Rattle.std.specs.Prelude.{ℕ, List, [], ◌∷◌, ◌≡◌}
use Rattle.lattice.specs.Shape.{no_window}
use Rattle.lattice.specs.theorems.Windows.{windowed}
use Rattle.lattice.specs.theorems.Examples.{sized}
use Rattle.lattice.specs.declared.shape.Shape.{Shape}
use Rattle.codec.specs.Field.{field_of, differences}
use Rattle.codec.specs.Plan.{plan_classes, plan_capacity, plan_bytes, plan_cells, plan_used, plan_digits}
use Rattle.codec.specs.Encode.{encode_number, encoded_field, earlier_field}
use Rattle.codec.specs.Decode.{decode_number, decode_count}
use Rattle.codec.specs.Correct.{correct_number, correct_count, correct_leaves}

abbrev pub stack : Shape
stack = record { columns = 7; rows = 5; planes = 2; strength = 3; window = no_window }

-- the payload 0b 3c 71 e6 4a
abbrev pub bytes : List ℕ
bytes = 11 ∷ 60 ∷ 113 ∷ 230 ∷ 74 ∷ []

-- its field, row by row, the second plane behind the first
abbrev pub cells : List ℕ
cells =
    1 ∷ 0 ∷ 0 ∷ 0 ∷ 0 ∷ 0 ∷ 1 ∷
    1 ∷ 0 ∷ 1 ∷ 0 ∷ 0 ∷ 0 ∷ 0 ∷
    0 ∷ 0 ∷ 0 ∷ 0 ∷ 1 ∷ 0 ∷ 1 ∷
    1 ∷ 0 ∷ 1 ∷ 0 ∷ 0 ∷ 0 ∷ 0 ∷
    1 ∷ 0 ∷ 0 ∷ 1 ∷ 1 ∷ 1 ∷ 1 ∷
    0 ∷ 0 ∷ 0 ∷ 1 ∷ 1 ∷ 1 ∷ 0 ∷
    0 ∷ 0 ∷ 1 ∷ 1 ∷ 1 ∷ 1 ∷ 0 ∷
    1 ∷ 1 ∷ 0 ∷ 1 ∷ 1 ∷ 0 ∷ 0 ∷
    0 ∷ 1 ∷ 1 ∷ 0 ∷ 0 ∷ 1 ∷ 0 ∷
    0 ∷ 1 ∷ 0 ∷ 1 ∷ 0 ∷ 1 ∷ 0 ∷ []

-- the field that was written from it before: the second, the eighth and the tenth row differ
abbrev pub earlier_cells : List ℕ
earlier_cells =
    1 ∷ 0 ∷ 0 ∷ 0 ∷ 0 ∷ 0 ∷ 1 ∷
    1 ∷ 0 ∷ 1 ∷ 1 ∷ 0 ∷ 0 ∷ 0 ∷
    0 ∷ 0 ∷ 0 ∷ 0 ∷ 1 ∷ 0 ∷ 1 ∷
    1 ∷ 0 ∷ 1 ∷ 0 ∷ 0 ∷ 0 ∷ 0 ∷
    1 ∷ 0 ∷ 0 ∷ 1 ∷ 1 ∷ 1 ∷ 1 ∷
    0 ∷ 0 ∷ 0 ∷ 1 ∷ 1 ∷ 1 ∷ 0 ∷
    0 ∷ 0 ∷ 1 ∷ 1 ∷ 1 ∷ 1 ∷ 0 ∷
    1 ∷ 0 ∷ 0 ∷ 1 ∷ 1 ∷ 0 ∷ 0 ∷
    0 ∷ 1 ∷ 1 ∷ 0 ∷ 0 ∷ 1 ∷ 0 ∷
    0 ∷ 1 ∷ 0 ∷ 1 ∷ 0 ∷ 0 ∷ 0 ∷ []

-- one class of n cells: n by 1 of strength 1
abbrev pub strip : ℕ → Shape
strip n = record { columns = n; rows = 1; planes = 1; strength = 1; window = no_window }

-- Theorem. The examples hold.
pub record CodingExamples : Type 0 where
  -- 7 classes of 10 cells with 4 checks each: 42 data cells, 5 bytes and 2 padding cells; and one word of six
  -- cells, so five digits, in each class
  pub plan : (plan_classes stack ≡ 7)
      × (plan_capacity stack ≡ 42)
      × (plan_bytes stack ≡ 5)
      × (plan_cells stack ≡ 70)
      × (plan_used stack ≡ 7)
      × (plan_digits stack ≡ 35)
  -- 3 columns by 1 row at t = 5: of 13 classes 3 hold a cell
  pub narrow_plan : (plan_classes (sized 3 1 1 5) ≡ 13) × (plan_used (sized 3 1 1 5) ≡ 3)
  -- 7 columns by 4 rows at t = 3: of 5 classes three have 6 cells, which are a word, and two have 5, which are none; and by a
  -- window of 1 row and 3 columns 7 columns by 5 rows have a class of 15 cells, two words, and two of 10, a word each
  pub digits : (plan_digits (sized 7 4 1 3) ≡ 15) × (plan_digits (windowed 7 5 1 3) ≡ 20)
  pub written : encoded_field stack bytes ≡ cells
  pub earlier : earlier_field stack bytes ≡ earlier_cells
  -- a class of five cells has room for no byte
  pub empty : plan_bytes (strip 5) ≡ 0
  -- positions 3 and 5 of a class of five: their exclusive or is 6, and there is no such cell
  pub six : decode_number (strip 5) [] (0 ∷ 0 ∷ 1 ∷ 0 ∷ 1 ∷ []) ≡ 6
  -- of 0 1 1 0 1 the fourth cell is flipped, which is a check; the padding is 1 1
  pub seven : decode_number (strip 5) [] (0 ∷ 1 ∷ 1 ∷ 0 ∷ 1 ∷ []) ≡ 7
  -- where more than one refusal is due: the shape's, then the payload's length, too short or too long, then the field's, then a
  -- byte that is no cell, then the reach
  pub one_then_three : (encode_number (strip 0) (0 ∷ []) (2 ∷ []) ≡ 1)
      × (decode_number (strip 0) (0 ∷ []) (2 ∷ []) ≡ 1)
      × (correct_number (strip 0) (2 ∷ []) ≡ 1)
      × (encode_number (windowed 5 5 0 1) [] [] ≡ 11)
      × (decode_number (windowed 5 5 0 1) (0 ∷ []) [] ≡ 11)
      × (correct_number (windowed 5 5 0 1) [] ≡ 11)
      × (encode_number stack [] (2 ∷ []) ≡ 3)
      × (encode_number (strip 5) (0 ∷ []) (2 ∷ []) ≡ 3)
      × (decode_number stack [] (2 ∷ []) ≡ 3)
      × (decode_number (strip 5) (0 ∷ []) (2 ∷ []) ≡ 3)
  pub then_four : (encode_number (strip 1) [] [] ≡ 4)
      × (encode_number (strip 1) [] (0 ∷ 0 ∷ []) ≡ 4)
      × (decode_number (strip 2) [] (2 ∷ []) ≡ 4)
      × (decode_number (strip 2) [] (2 ∷ 1 ∷ 1 ∷ []) ≡ 4)
      × (correct_number (strip 2) (2 ∷ []) ≡ 4)
      × (correct_number (strip 2) (2 ∷ 1 ∷ 1 ∷ []) ≡ 4)
  pub then_five : (decode_number (strip 3) [] (0 ∷ 0 ∷ 3 ∷ []) ≡ 5)
      × (decode_number (strip 5) [] (3 ∷ 0 ∷ 1 ∷ 0 ∷ 1 ∷ []) ≡ 5)
      × (correct_number (strip 3) (0 ∷ 0 ∷ 3 ∷ []) ≡ 5)
      × (correct_number (strip 5) (3 ∷ 0 ∷ 1 ∷ 0 ∷ 1 ∷ []) ≡ 5)
  -- a cell lost and a cell gained are two that differ
  pub differ : differences (field_of (0 ∷ 1 ∷ 1 ∷ [])) (field_of (1 ∷ 0 ∷ 1 ∷ [])) 3 ≡ 2

-- a field of n by 1 that is read and mended as it is, and one that is refused with 7
abbrev pub GoodPadding : ℕ → List ℕ → Type 0
GoodPadding n G =
    (decode_number (strip n) [] G ≡ 0) × (decode_count (strip n) [] G ≡ 0) × (correct_number (strip n) G ≡ 0)
    × (correct_count (strip n) G ≡ 0) × (correct_leaves (strip n) G ≡ G)

abbrev pub BadPadding : ℕ → List ℕ → Type 0
BadPadding n G = (decode_number (strip n) [] G ≡ 7) × (correct_number (strip n) G ≡ 7)

-- Theorem. The examples of padding hold.
pub record PaddingExamples : Type 0 where
  -- one class of three, five and six cells has one, two and three padding cells, at positions 3, 5 and 6: the fields written
  pub written : (encoded_field (strip 3) [] ≡ 1 ∷ 1 ∷ 1 ∷ [])
      × (encoded_field (strip 5) [] ≡ 1 ∷ 1 ∷ 1 ∷ 0 ∷ 0 ∷ [])
      × (encoded_field (strip 6) [] ≡ 1 ∷ 0 ∷ 1 ∷ 1 ∷ 0 ∷ 1 ∷ [])
      × (earlier_field (strip 6) [] ≡ 0 ∷ 0 ∷ 0 ∷ 0 ∷ 0 ∷ 0 ∷ [])
  -- one padding cell may be 0 or 1
  pub one : GoodPadding 3 (1 ∷ 1 ∷ 1 ∷ []) × GoodPadding 3 (0 ∷ 0 ∷ 0 ∷ [])
  -- of two, 1 0 and 0 0 are right, 1 1 and 0 1 are wrong
  pub two : GoodPadding 5 (1 ∷ 1 ∷ 1 ∷ 0 ∷ 0 ∷ [])
      × GoodPadding 5 (0 ∷ 0 ∷ 0 ∷ 0 ∷ 0 ∷ [])
      × BadPadding 5 (0 ∷ 1 ∷ 1 ∷ 1 ∷ 1 ∷ [])
      × BadPadding 5 (1 ∷ 0 ∷ 0 ∷ 1 ∷ 1 ∷ [])
  -- of three, 1 0 1 is right; 1 0 0 is wrong, though each cell is 0 or the pattern's
  pub three : GoodPadding 6 (1 ∷ 0 ∷ 1 ∷ 1 ∷ 0 ∷ 1 ∷ []) × BadPadding 6 (1 ∷ 1 ∷ 1 ∷ 0 ∷ 0 ∷ 0 ∷ [])
  -- the last of two padding cells is flipped: each is mended to the padding that it had, and that is one cell
  pub kept : (correct_leaves (strip 5) (1 ∷ 1 ∷ 1 ∷ 0 ∷ 1 ∷ []) ≡ 1 ∷ 1 ∷ 1 ∷ 0 ∷ 0 ∷ [])
      × (correct_count (strip 5) (1 ∷ 1 ∷ 1 ∷ 0 ∷ 1 ∷ []) ≡ 1)
      × (correct_leaves (strip 5) (0 ∷ 0 ∷ 0 ∷ 0 ∷ 1 ∷ []) ≡ 0 ∷ 0 ∷ 0 ∷ 0 ∷ 0 ∷ [])
      × (correct_count (strip 5) (0 ∷ 0 ∷ 0 ∷ 0 ∷ 1 ∷ []) ≡ 1)
      × (decode_count (strip 5) [] (0 ∷ 0 ∷ 0 ∷ 0 ∷ 1 ∷ []) ≡ 1)
