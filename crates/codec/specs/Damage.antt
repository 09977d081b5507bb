-- Damage to a field, and what comes back from it.
use Rattle.std.specs.Prelude.{ℕ, ◌<◌, ◌≤◌, Bool, cond, true, List, ◌≡◌, ◌≢◌, ◌⊎◌}
use Rattle.lattice.specs.declared.shape.Shape.{Shape}
use Rattle.lattice.specs.Shape.{cells_of}
use Rattle.lattice.specs.Cell.{Cell, cell_at}
use Rattle.lattice.specs.Position.{Layout}
use Rattle.lattice.specs.Cluster.{distance}
use Rattle.lattice.specs.Counting.{count}
use Rattle.codec.specs.Field.{Field, field_of, list_of, erased, flip, differences}
use Rattle.codec.specs.Decode.{decode_number, decode_count, decode_leaves}
use Rattle.codec.specs.Correct.{correct_number, correct_count, correct_leaves}

-- a field with the selected cells flipped
unfoldable pub damaged : Field → (ℕ → Bool) → Field
damaged f selected i = cond (selected i) (flip (f i)) (f i)

-- the field F of a shape with the selected cells flipped
abbrev pub damaged_field : Shape → List ℕ → (Cell → Bool) → List ℕ
damaged_field s F selected = list_of (damaged (field_of F) (λ i. selected (cell_at s i))) (cells_of s)

-- a field with the selected cells erased
unfoldable pub erased_at : Field → (ℕ → Bool) → Field
erased_at f selected i = cond (selected i) erased (f i)

-- the field F of a shape with the selected cells erased
abbrev pub erased_field : Shape → List ℕ → (Cell → Bool) → List ℕ
erased_field s F selected = list_of (erased_at (field_of F) (λ i. selected (cell_at s i))) (cells_of s)

-- the number of selected cells of a field
abbrev pub selected_cells : Shape → (Cell → Bool) → ℕ
selected_cells s selected = count (λ i. selected (cell_at s i)) (cells_of s)

-- at most two cells of each class are selected: of any three selected cells of a class two are one cell
abbrev pub TwoInEachClass : Layout → (ℕ → Bool) → Type 0
TwoInEachClass L selected =
    (i j k : ℕ) → i < L.cells → j < L.cells → k < L.cells
    → selected i ≡ true → selected j ≡ true → selected k ≡ true
    → L.class i ≡ L.class j → L.class j ≡ L.class k → (i ≡ j) ⊎ (j ≡ k) ⊎ (i ≡ k)

-- at most one cell of each class is selected
abbrev pub OneInEachClass : Layout → (ℕ → Bool) → Type 0
OneInEachClass L selected =
    (i j : ℕ) → i < L.cells → j < L.cells → selected i ≡ true → selected j ≡ true → L.class i ≡ L.class j → i ≡ j

-- from G the payload p and the field F come back: decoding G into a payload buffer gives 0 and leaves exactly p; correcting G
-- gives 0 and leaves exactly F; and the count of each is the number of cells where F and G differ
pub record Recovered (s : Shape) (p F G buffer : List ℕ) : Type 0 where
  pub decoded_number : decode_number s buffer G ≡ 0
  pub decoded_payload : decode_leaves s buffer G ≡ p
  pub decoded_count : decode_count s buffer G ≡ differences (field_of F) (field_of G) (cells_of s)
  pub corrected_number : correct_number s G ≡ 0
  pub field_corrected : correct_leaves s G ≡ F
  pub count_corrected : correct_count s G ≡ differences (field_of F) (field_of G) (cells_of s)

-- what correcting flips looks like one cluster of at most t cells: at most t cells differ from what it leaves, and any two of
-- them are less than t apart
pub record WithinPromise (s : Shape) (before after : List ℕ) : Type 0 where
  pub few : differences (field_of before) (field_of after) (cells_of s) ≤ s.strength
  pub near : (i j : ℕ) → i < cells_of s → j < cells_of s
      → field_of before i ≢ field_of after i → field_of before j ≢ field_of after j
      → distance (cell_at s i) (cell_at s j) < s.strength
