-- Worked examples of fields of levels.
use Rattle.std.specs.Prelude.{ℕ, List, [], ◌∷◌, ◌≡◌}
use Rattle.lattice.specs.declared.shape.Shape.{Shape}
use Rattle.lattice.specs.theorems.Examples.{sized}
use Rattle.lattice.specs.theorems.Windows.{windowed}
use Rattle.codec.specs.Plan.{plan_digits}
use Rattle.levels.specs.Encode.{encode_levels_number, encoded_levels_field}
use Rattle.levels.specs.Decode.{decode_levels_number, decode_levels_count, decode_levels_leaves}
use Rattle.levels.specs.Correct.{correct_levels_number, correct_levels_count, correct_levels_leaves}

-- 12 by 1 of strength 2, and 7 by 1 of strength 1
abbrev pub twelve : Shape
twelve = sized 12 1 1 2

abbrev pub seven : Shape
seven = sized 7 1 1 1

-- five digits that are 0
abbrev pub five_zeros : List ℕ
five_zeros = 0 ∷ 0 ∷ 0 ∷ 0 ∷ 0 ∷ []

-- what is read from a field of seven cells, and what it is mended to
abbrev Reads : List ℕ → ℕ → List ℕ → Type 0
Reads G count digits =
    (decode_levels_number seven five_zeros G ≡ 0)
    × (decode_levels_count seven five_zeros G ≡ count)
    × (decode_levels_leaves seven five_zeros G ≡ digits)

abbrev Mends : List ℕ → ℕ → List ℕ → Type 0
Mends G count F =
    (correct_levels_number seven G ≡ 0) × (correct_levels_count seven G ≡ count) × (correct_levels_leaves seven G ≡ F)

abbrev Refuses : List ℕ → ℕ → Type 0
Refuses G number = (decode_levels_number seven five_zeros G ≡ number) × (correct_levels_number seven G ≡ number)

-- Theorem. The examples hold.
pub record LevelsExamples : Type 0 where
  -- ten digits in twelve cells, in byte order over the whole field: 12 by 1 at t = 2
  pub written : (plan_digits twelve ≡ 10)
      × (encoded_levels_field twelve (1 ∷ 2 ∷ 3 ∷ 4 ∷ 5 ∷ 6 ∷ 7 ∷ 8 ∷ 9 ∷ 10 ∷ [])
      ≡ 21 ∷ 12 ∷ 1 ∷ 2 ∷ 3 ∷ 4 ∷ 5 ∷ 6 ∷ 7 ∷ 8 ∷ 9 ∷ 10 ∷ [])
  -- our own: a stack of 4 columns, 1 row and 3 planes at t = 2, and 3 columns by 4 rows with a window of 2 rows by 1 column
  pub written_stack : (plan_digits (sized 4 1 3 2) ≡ 10)
      × (encoded_levels_field (sized 4 1 3 2) (3 ∷ 1 ∷ 4 ∷ 1 ∷ 5 ∷ 9 ∷ 2 ∷ 6 ∷ 5 ∷ 8 ∷ [])
      ≡ 18 ∷ 2 ∷ 3 ∷ 1 ∷ 4 ∷ 1 ∷ 5 ∷ 9 ∷ 2 ∷ 6 ∷ 5 ∷ 8 ∷ [])
  pub written_window : (plan_digits (windowed 3 4 2 1) ≡ 10)
      × (encoded_levels_field (windowed 3 4 2 1) (1 ∷ 2 ∷ 3 ∷ 4 ∷ 5 ∷ 6 ∷ 7 ∷ 8 ∷ 9 ∷ 10 ∷ [])
      ≡ 10 ∷ 1 ∷ 2 ∷ 19 ∷ 3 ∷ 4 ∷ 5 ∷ 6 ∷ 7 ∷ 8 ∷ 9 ∷ 10 ∷ [])
  -- seven cells of one class are a word and an ignored cell, which is 0 in the field written
  pub written_ignored : encoded_levels_field seven (24 ∷ 0 ∷ 1 ∷ 2 ∷ 3 ∷ []) ≡ 24 ∷ 24 ∷ 0 ∷ 1 ∷ 2 ∷ 3 ∷ 0 ∷ []
  -- the ignored cell is not counted in reading, and counted in mending
  pub darkened : Reads (0 ∷ 3 ∷ 0 ∷ 0 ∷ 0 ∷ 0 ∷ 9 ∷ []) 1 five_zeros
      × Mends (0 ∷ 3 ∷ 0 ∷ 0 ∷ 0 ∷ 0 ∷ 9 ∷ []) 2 (0 ∷ 0 ∷ 0 ∷ 0 ∷ 0 ∷ 0 ∷ 0 ∷ [])
  -- a cell that faded by 1
  pub faded : Reads (0 ∷ 4 ∷ 0 ∷ 0 ∷ 0 ∷ 0 ∷ 24 ∷ []) 1 (5 ∷ 0 ∷ 0 ∷ 0 ∷ 0 ∷ [])
      × Mends (0 ∷ 4 ∷ 0 ∷ 0 ∷ 0 ∷ 0 ∷ 24 ∷ []) 2 (0 ∷ 5 ∷ 0 ∷ 0 ∷ 0 ∷ 0 ∷ 0 ∷ [])
  -- 12 for an ignored cell above 24, though the word is in reach or out of it; 24 is a level
  pub above : Refuses (0 ∷ 3 ∷ 0 ∷ 0 ∷ 0 ∷ 0 ∷ 25 ∷ []) 12 × Refuses (24 ∷ 0 ∷ 0 ∷ 0 ∷ 0 ∷ 0 ∷ 25 ∷ []) 12
  -- 6 where the word would come from a level of 25, or from one below 0
  pub out_of_reach : Refuses (24 ∷ 0 ∷ 0 ∷ 0 ∷ 0 ∷ 0 ∷ 0 ∷ []) 6 × Refuses (0 ∷ 0 ∷ 0 ∷ 0 ∷ 2 ∷ 1 ∷ 0 ∷ []) 6
  -- where more than one refusal is due: the shape's, then the payload's length, the field's, then a digit above 24
  pub order : (encode_levels_number (windowed 5 5 0 1) [] [] ≡ 11)
      × (encode_levels_number seven (25 ∷ []) [] ≡ 3)
      × (encode_levels_number seven (25 ∷ 0 ∷ 0 ∷ 0 ∷ 0 ∷ []) [] ≡ 4)
      × (encode_levels_number seven (0 ∷ 0 ∷ 0 ∷ 0 ∷ 25 ∷ []) (99 ∷ 0 ∷ 0 ∷ 0 ∷ 0 ∷ 0 ∷ 0 ∷ []) ≡ 12)
      × (encode_levels_number seven (24 ∷ 0 ∷ 0 ∷ 0 ∷ 24 ∷ []) (99 ∷ 0 ∷ 0 ∷ 0 ∷ 0 ∷ 0 ∷ 0 ∷ []) ≡ 0)
      × (decode_levels_number (windowed 5 5 0 1) (0 ∷ []) [] ≡ 11)
      × (decode_levels_number seven [] (25 ∷ []) ≡ 3)
      × (decode_levels_number seven five_zeros (25 ∷ []) ≡ 4)
      × (correct_levels_number (windowed 5 5 0 1) [] ≡ 11)
      × (correct_levels_number seven (25 ∷ []) ≡ 4)
  -- two neighbours of different classes, one darkened by 3 and one faded by 1
  pub neighbours : (decode_levels_count twelve (0 ∷ 0 ∷ 0 ∷ 0 ∷ 0 ∷ 0 ∷ 0 ∷ 0 ∷ 0 ∷ 0 ∷ [])
      (24 ∷ 11 ∷ 1 ∷ 2 ∷ 3 ∷ 4 ∷ 5 ∷ 6 ∷ 7 ∷ 8 ∷ 9 ∷ 10 ∷ []) ≡ 2)
      × (correct_levels_leaves twelve (24 ∷ 11 ∷ 1 ∷ 2 ∷ 3 ∷ 4 ∷ 5 ∷ 6 ∷ 7 ∷ 8 ∷ 9 ∷ 10 ∷ [])
      ≡ 21 ∷ 12 ∷ 1 ∷ 2 ∷ 3 ∷ 4 ∷ 5 ∷ 6 ∷ 7 ∷ 8 ∷ 9 ∷ 10 ∷ [])
