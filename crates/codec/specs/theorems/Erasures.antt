-- What was written comes back after any cells of two clusters of at most t cells each are erased; and examples.
use Rattle.std.specs.Prelude.{ℕ, Bool, true, List, [], ◌∷◌, ◌⊎◌, ◌≡◌, length}
use Rattle.lattice.specs.declared.shape.Shape.{Shape}
use Rattle.lattice.specs.Shape.{no_window, Accepted, cells_of}
use Rattle.lattice.specs.Cell.{Cell, cell_at}
use Rattle.lattice.specs.Cluster.{Cluster, AtMost}
use Rattle.lattice.specs.Class.{layout_of}
use Rattle.codec.specs.Field.{field_of, differences}
use Rattle.codec.specs.Payload.{Bytes}
use Rattle.codec.specs.Plan.{plan_bytes}
use Rattle.codec.specs.Encode.{encoded_field, WrittenFrom}
use Rattle.codec.specs.Decode.{decode_number, decode_count, decode_leaves}
use Rattle.codec.specs.Correct.{correct_number, correct_count, correct_leaves}
use Rattle.codec.specs.theorems.Worked.{strip}
use Rattle.codec.specs.Damage.{erased_field, selected_cells, Recovered, TwoInEachClass}

-- Theorem. Where at most two cells of each class of a field that was written, now or before, are erased, and no other is touched,
-- the payload and the field come back, and the count is the number of erased cells.
abbrev pub RefillByClass : Type 0
RefillByClass =
    (s : Shape) → Accepted s
    → (p F : List ℕ) → length p ≡ plan_bytes s → Bytes p → WrittenFrom s p F
    → (selected : Cell → Bool) → TwoInEachClass (layout_of s) (λ i. selected (cell_at s i))
    → (buffer : List ℕ) → length buffer ≡ plan_bytes s
    → let G = erased_field s F selected in
    Recovered s p F G buffer × (differences (field_of F) (field_of G) (cells_of s) ≡ selected_cells s selected)

-- Theorem. So it is for every shape that the plan accepts, every payload of the plan's length, any two clusters of the field of
-- at most t cells each, apart or not, and every selection of their cells, none and all included.
abbrev pub Refill : Type 1
Refill =
    (s : Shape) → Accepted s
    → (p F : List ℕ) → length p ≡ plan_bytes s → Bytes p → WrittenFrom s p F
    → (S T : Cell → Type 0) → Cluster s S → AtMost s.strength S → Cluster s T → AtMost s.strength T
    → (selected : Cell → Bool) → ((x : Cell) → selected x ≡ true → S x ⊎ T x)
    → (buffer : List ℕ) → length buffer ≡ plan_bytes s
    → let G = erased_field s F selected in
    Recovered s p F G buffer × (differences (field_of F) (field_of G) (cells_of s) ≡ selected_cells s selected)

-- two classes by turns: 10 by 1 of strength 2
abbrev pub turns : Shape
turns = record { columns = 10; rows = 1; planes = 1; strength = 2; window = no_window }

-- from a field of 12 by 1 the payload a5 and the field written from it come back, with a count
abbrev pub Refilled : List ℕ → ℕ → Type 0
Refilled G k =
    (decode_number (strip 12) (0 ∷ []) G ≡ 0)
    × (decode_leaves (strip 12) (0 ∷ []) G ≡ 165 ∷ [])
    × (decode_count (strip 12) (0 ∷ []) G ≡ k)
    × (correct_number (strip 12) G ≡ 0)
    × (correct_leaves (strip 12) G ≡ 1 ∷ 1 ∷ 1 ∷ 0 ∷ 0 ∷ 1 ∷ 0 ∷ 0 ∷ 0 ∷ 1 ∷ 0 ∷ 1 ∷ [])
    × (correct_count (strip 12) G ≡ k)

-- Theorem. The examples of document 02 hold, and our own.
pub record ErasureExamples : Type 0 where
  -- document 02: 2 by 1, t = 1: 0 2 is read with the count 1, 1 2 gives 6, 2 2 the count 2
  pub pairs : (decode_number (strip 2) [] (0 ∷ 2 ∷ []) ≡ 0)
      × (decode_count (strip 2) [] (0 ∷ 2 ∷ []) ≡ 1)
      × (decode_number (strip 2) [] (1 ∷ 2 ∷ []) ≡ 6)
      × (decode_number (strip 2) [] (2 ∷ 2 ∷ []) ≡ 0)
      × (decode_count (strip 2) [] (2 ∷ 2 ∷ []) ≡ 2)
      × (correct_number (strip 2) (0 ∷ 2 ∷ []) ≡ 0)
      × (correct_count (strip 2) (0 ∷ 2 ∷ []) ≡ 1)
      × (correct_number (strip 2) (1 ∷ 2 ∷ []) ≡ 6)
      × (correct_number (strip 2) (2 ∷ 2 ∷ []) ≡ 0)
      × (correct_count (strip 2) (2 ∷ 2 ∷ []) ≡ 2)
  -- 3 by 1: 2 2 2 gives 10, and stays; 4 by 1: 3 2 2 2 gives 5
  pub many : (decode_number (strip 3) [] (2 ∷ 2 ∷ 2 ∷ []) ≡ 10)
      × (correct_number (strip 3) (2 ∷ 2 ∷ 2 ∷ []) ≡ 10)
      × (correct_leaves (strip 3) (2 ∷ 2 ∷ 2 ∷ []) ≡ 2 ∷ 2 ∷ 2 ∷ [])
      × (correct_count (strip 3) (2 ∷ 2 ∷ 2 ∷ []) ≡ 0)
      × (decode_number (strip 4) [] (3 ∷ 2 ∷ 2 ∷ 2 ∷ []) ≡ 5)
      × (correct_number (strip 4) (3 ∷ 2 ∷ 2 ∷ 2 ∷ []) ≡ 5)
  -- 10 by 1, t = 2: the first class, 0 0 1 0 1, is out of reach, and the second, 2 2 2 0 0, has three erasures
  pub ten_before_six : (decode_number turns [] (0 ∷ 2 ∷ 0 ∷ 2 ∷ 1 ∷ 2 ∷ 0 ∷ 0 ∷ 1 ∷ 0 ∷ []) ≡ 10)
      × (correct_number turns (0 ∷ 2 ∷ 0 ∷ 2 ∷ 1 ∷ 2 ∷ 0 ∷ 0 ∷ 1 ∷ 0 ∷ []) ≡ 10)
      × (decode_number turns [] (0 ∷ 2 ∷ 0 ∷ 2 ∷ 1 ∷ 0 ∷ 0 ∷ 0 ∷ 1 ∷ 0 ∷ []) ≡ 6)
  -- of 0 2 1 1 2 both erased cells become 1, and the padding, the third and the fifth cell, is 1 1; of 1 0 2 1 1 it becomes 0 1
  pub seven : (decode_number (strip 5) [] (0 ∷ 2 ∷ 1 ∷ 1 ∷ 2 ∷ []) ≡ 7)
      × (decode_number (strip 5) [] (1 ∷ 0 ∷ 2 ∷ 1 ∷ 1 ∷ []) ≡ 7)
      × (correct_number (strip 5) (0 ∷ 2 ∷ 1 ∷ 1 ∷ 2 ∷ []) ≡ 7)
  -- padding that was not read is filled as it was written: 1 0, or the zeros from before
  pub filled_padding : (correct_leaves (strip 5) (1 ∷ 1 ∷ 2 ∷ 0 ∷ 2 ∷ []) ≡ 1 ∷ 1 ∷ 1 ∷ 0 ∷ 0 ∷ [])
      × (correct_leaves (strip 5) (0 ∷ 0 ∷ 2 ∷ 0 ∷ 2 ∷ []) ≡ 0 ∷ 0 ∷ 0 ∷ 0 ∷ 0 ∷ [])
  -- one class of 12 cells with the payload a5: the field, and the cells at positions 3 and 10, 6 and 7, 5 and 6, 12 erased
  pub twelve : encoded_field (strip 12) (165 ∷ []) ≡ 1 ∷ 1 ∷ 1 ∷ 0 ∷ 0 ∷ 1 ∷ 0 ∷ 0 ∷ 0 ∷ 1 ∷ 0 ∷ 1 ∷ []
  pub both : Refilled (1 ∷ 1 ∷ 2 ∷ 0 ∷ 0 ∷ 1 ∷ 0 ∷ 0 ∷ 0 ∷ 2 ∷ 0 ∷ 1 ∷ []) 2
  pub first : Refilled (1 ∷ 1 ∷ 1 ∷ 0 ∷ 0 ∷ 2 ∷ 2 ∷ 0 ∷ 0 ∷ 1 ∷ 0 ∷ 1 ∷ []) 2
  pub second : Refilled (1 ∷ 1 ∷ 1 ∷ 0 ∷ 2 ∷ 2 ∷ 0 ∷ 0 ∷ 0 ∷ 1 ∷ 0 ∷ 1 ∷ []) 2
  pub alone : Refilled (1 ∷ 1 ∷ 1 ∷ 0 ∷ 0 ∷ 1 ∷ 0 ∷ 0 ∷ 0 ∷ 1 ∷ 0 ∷ 2 ∷ []) 1
  -- position 5 erased and position 6 flipped: nothing is corrected beside an erasure
  pub beside : (decode_number (strip 12) (0 ∷ []) (1 ∷ 1 ∷ 1 ∷ 0 ∷ 2 ∷ 0 ∷ 0 ∷ 0 ∷ 0 ∷ 1 ∷ 0 ∷ 1 ∷ []) ≡ 6)
      × (correct_number (strip 12) (1 ∷ 1 ∷ 1 ∷ 0 ∷ 2 ∷ 0 ∷ 0 ∷ 0 ∷ 0 ∷ 1 ∷ 0 ∷ 1 ∷ []) ≡ 6)
