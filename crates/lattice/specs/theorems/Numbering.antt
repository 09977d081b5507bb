-- The theorem on byte numbers.
use Rattle.std.specs.Prelude.{ℕ, ◌<◌, ◌≡◌}
use Rattle.lattice.specs.declared.shape.Shape.{Shape}
use Rattle.lattice.specs.Shape.{cells_of}
use Rattle.lattice.specs.Cell.{Cell, InField, cell_number, cell_at}

-- Theorem. Each cell's byte number is below the number of cells, and each number below that is exactly one cell's.
pub record Numbering : Type 0 where
  pub below : (s : Shape) (x : Cell) → InField s x → cell_number s x < cells_of s
  pub some : (s : Shape) (i : ℕ) → i < cells_of s → (x : Cell) × InField s x × (cell_number s x ≡ i)
  pub one : (s : Shape) (x y : Cell) → InField s x → InField s y → cell_number s x ≡ cell_number s y → x ≡ y
  pub at : (s : Shape) (i : ℕ) → i < cells_of s → InField s (cell_at s i) × (cell_number s (cell_at s i) ≡ i)
