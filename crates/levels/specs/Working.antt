-- What the work arrays of a pass over the cells of a field of levels hold. Only contracts of functions that are private to the
-- crate cite this file.
use Rattle.std.specs.Prelude.{ℕ, ◌+◌, ◌-◌, ◌*◌, ◌/◌, ◌%◌, ◌<◌, Bool, true, cond, not, ◌&&◌, List, ◌≡◌, eqb, leb, length, get_or}
use Rattle.lattice.specs.declared.shape.Shape.{Shape}
use Rattle.lattice.specs.Refusal.{unless}
use Rattle.lattice.specs.Shape.{Accepted, after_shape, cells_of}
use Rattle.lattice.specs.Class.{classes_of, layout_of}
use Rattle.lattice.specs.Position.{Layout}
use Rattle.lattice.specs.Sizes.{HoldsSizes}
use Rattle.lattice.specs.Lines.{table_of, slices_of, line_start, pass_given, IsLine}
use Rattle.lattice.specs.Digits.{words_in, words_below, digits_of}
use Rattle.codec.specs.Field.{Field, field_of}
use Rattle.codec.specs.Plan.{plan_cells, plan_digits}
use Rattle.levels.specs.declared.spot.Spot.{Spot}
use Rattle.levels.specs.declared.tour.Tour.{Tour}
use Rattle.levels.specs.declared.words.WordTable.{WordTable}
use Rattle.levels.specs.Level.{Levels}
use Rattle.levels.specs.Faults.{multiplier, change}
use Rattle.levels.specs.Words.{slot, in_word, word, weighted}
use Rattle.levels.specs.Payload.{digit_field, check_for}

-- no accepted shape has more words: 65,536 / 6, rounded down
abbrev pub max_words : ℕ
max_words = 10922

-- the shape is accepted, and the table holds the size of each class and the number of words of the classes before it
pub record Laid (s : Shape) (x : WordTable) : Type 0 where
  pub accepted : Accepted s
  pub sized : HoldsSizes (layout_of s) x.sizes (cells_of s)
  pub words : (a : ℕ) → a < classes_of s → get_or x.offsets a 0 ≡ words_below (layout_of s) a

-- the tour is one of the shape and at cell i, as the code keeps it: the cells of its line from it on, its line and the line's
-- slice, and its place in the table
pub record AtTour (s : Shape) (i : ℕ) (x : Tour) : Type 0 where
  pub pass : x.pass ≡ pass_given s
  pub left : x.left + i % s.columns ≡ s.columns
  pub line : IsLine (table_of s) s.rows (i / s.columns) x.line
  pub slice : x.slice ≡ i / s.columns % slices_of s
  pub place : x.place ≡ (line_start (table_of s) s.rows (i / s.columns) + i % s.columns) % (table_of s).m

-- and the array counts the cells before it
pub record Toured (s : Shape) (x : Tour) (counts : List ℕ) (i : ℕ) : Type 0 where
  pub tour : AtTour s i x
  pub counted : HoldsSizes (layout_of s) counts i

-- and cell i is the next of a pass
pub record AtCell (s : Shape) (x : Tour) (counts : List ℕ) (i : ℕ) : Type 0 where
  pub below : i < cells_of s
  pub toured : Toured s x counts i

-- the spot of the cell at position p, from 1, of a class of n cells with so many words in the classes before it
unfoldable pub spot_at : ℕ → ℕ → ℕ → Spot
spot_at p n offset = record { inside = leb p (words_in n * 6); word = offset + (p - 1) / 6; slot = (p - 1) % 6 }

-- the spot is that of cell i: whether it belongs to a word, the word's number and the place there
pub record SpotOf (s : Shape) (i : ℕ) (x : Spot) : Type 0 where
  pub inside : x.inside ≡ in_word (layout_of s) i
  pub word : x.word ≡ word (layout_of s) i
  pub slot : x.slot ≡ slot (layout_of s) i
  pub place : x.slot < 6
  pub below : x.inside ≡ true → x.word < max_words

-- the spot holds a digit: it is in a word and not at its first place
unfoldable pub holds_at : Spot → Bool
holds_at x = x.inside && not (eqb x.slot 0)

-- the only change, with 1 added, that can leave the remainder r in a cell with the multiplier m
unfoldable pub only_change : ℕ → ℕ → ℕ
only_change m r = (cond (eqb m 5) (r / 5) r + 1) % 5

-- the array holds the remainder of each word of f over the first n cells
pub record HoldsRemainders (L : Layout) (f : Field) (l : List ℕ) (n : ℕ) : Type 0 where
  pub at : (w : ℕ) → w < max_words → get_or l w 0 ≡ weighted L f w n % 25

-- the array holds remainders
pub record Remainders (l : List ℕ) : Type 0 where
  pub small : (w : ℕ) → w < max_words → get_or l w 0 < 25

-- a cell at a spot is taken into the remainder of its word; the others stay
pub record LevelTaken (before after : List ℕ) (x : Spot) (v : ℕ) : Type 0 where
  pub at : (w : ℕ) → get_or after w 0
      ≡ cond (x.inside && eqb x.word w) ((get_or before w 0 + multiplier x.slot * v) % 25) (get_or before w 0)

-- the change of a cell, with 1 added, by the remainder of its word; 1 for an ignored cell
unfoldable pub change_of : List ℕ → Spot → ℕ
change_of l x = cond x.inside (change (get_or l x.word 0) x.slot) 1

-- a field of levels of an accepted shape, the table of its words, and their remainders
pub record LevelsExamined (s : Shape) (field : List ℕ) (words : WordTable) (remainders : List ℕ) : Type 0 where
  pub laid : Laid s words
  pub long : length field ≡ cells_of s
  pub levels : Levels (field_of field) (cells_of s)
  pub held : HoldsRemainders (layout_of s) (field_of field) remainders (cells_of s)

-- the value v of the k-th of the cells that hold digits is stored; another cell leaves the bytes
pub record DigitStored (before after : List ℕ) (d : Bool) (k v : ℕ) : Type 0 where
  pub at : (j : ℕ) → j < length before → get_or after j 0 ≡ cond (d && eqb k j) v (get_or before j 0)

-- the value of the cell at a spot in the field written, by the remainder of the digits of its word
unfoldable pub encoded_at : List ℕ → Spot → ℕ → ℕ
encoded_at l x v = cond (x.inside && eqb x.slot 0) (check_for (get_or l x.word 0)) v

-- the array holds the remainder of each word of the digits alone
abbrev pub HoldsDigits : Shape → List ℕ → List ℕ → Type 0
HoldsDigits s payload l = HoldsRemainders (layout_of s) (digit_field (layout_of s) payload) l (cells_of s)

-- the tests that encoding and decoding share: the shape's, then 3 and 4 for a payload and a field whose length isn't the plan's
unfoldable pub lengths_number : Shape → List ℕ → List ℕ → ℕ
lengths_number s payload field =
    after_shape s
    (unless (eqb (length payload) (plan_digits s)) 3
    (unless (eqb (length field) (plan_cells s)) 4
    0))

-- what they leave where they pass
pub record LengthsFit (s : Shape) (payload field : List ℕ) (words : WordTable) : Type 0 where
  pub laid : Laid s words
  pub digits : length payload ≡ digits_of s
  pub cells : length field ≡ cells_of s
