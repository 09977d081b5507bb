-- Damage to a field of levels, and what comes back from it.
use Rattle.std.specs.Prelude.{ℕ, ◌<◌, List, ◌≢◌, ◌≡◌, length}
use Rattle.lattice.specs.declared.shape.Shape.{Shape}
use Rattle.lattice.specs.Shape.{cells_of}
use Rattle.lattice.specs.Cell.{Cell, cell_at}
use Rattle.lattice.specs.Class.{layout_of}
use Rattle.codec.specs.Field.{field_of, differences}
use Rattle.levels.specs.Level.{Levels, Within}
use Rattle.levels.specs.Payload.{word_differences}
use Rattle.levels.specs.Decode.{decode_levels_number, decode_levels_count, decode_levels_leaves}
use Rattle.levels.specs.Correct.{correct_levels_number, correct_levels_count, correct_levels_leaves}

-- G is the field F with changes of −1 to +3 in cells of a set, none and all included, and has nothing but levels
pub record ChangedIn (s : Shape) (S : Cell → Type 0) (F G : List ℕ) : Type 0 where
  pub long : length G ≡ cells_of s
  pub levels : Levels (field_of G) (cells_of s)
  pub inside : (i : ℕ) → i < cells_of s → field_of G i ≢ field_of F i → S (cell_at s i)
  pub within : (i : ℕ) → i < cells_of s → Within (field_of F i) (field_of G i)

-- of each class the set has at most one cell of the field
abbrev pub OneOfEachClass : Shape → (Cell → Type 0) → Type 0
OneOfEachClass s S =
    (i j : ℕ) → i < cells_of s → j < cells_of s → S (cell_at s i) → S (cell_at s j)
    → (layout_of s).class i ≡ (layout_of s).class j → i ≡ j

-- from G the payload p and the field F come back: decoding G into a payload buffer gives 0, leaves exactly p, and counts the
-- cells of words in which F and G differ; correcting G gives 0, leaves exactly F, and counts all cells in which they differ
pub record LevelsRecovered (s : Shape) (p F G buffer : List ℕ) : Type 0 where
  pub decoded_number : decode_levels_number s buffer G ≡ 0
  pub decoded_payload : decode_levels_leaves s buffer G ≡ p
  pub decoded_count : decode_levels_count s buffer G ≡ word_differences (layout_of s) (field_of F) (field_of G)
  pub corrected_number : correct_levels_number s G ≡ 0
  pub field_corrected : correct_levels_leaves s G ≡ F
  pub count_corrected : correct_levels_count s G ≡ differences (field_of F) (field_of G) (cells_of s)
