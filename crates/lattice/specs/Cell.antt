-- The cells of a field and their byte numbers.
use Rattle.std.specs.Prelude.{ℕ, ◌+◌, ◌*◌, ◌/◌, ◌%◌, ◌<◌}
use Rattle.lattice.specs.declared.shape.Shape.{Shape}

pub record Cell : Type 0 where
  pub row : ℕ
  pub plane : ℕ
  pub column : ℕ

abbrev pub cell : ℕ → ℕ → ℕ → Cell
cell r p c = record { row = r; plane = p; column = c }

-- the cell lies in the field
pub record InField (s : Shape) (x : Cell) : Type 0 where
  pub row : x.row < s.rows
  pub plane : x.plane < s.planes
  pub column : x.column < s.columns

-- the byte number of a cell: (plane × H + row) × W + column
unfoldable pub cell_number : Shape → Cell → ℕ
cell_number s x = (x.plane * s.rows + x.row) * s.columns + x.column

-- the cell with a byte number
unfoldable pub cell_at : Shape → ℕ → Cell
cell_at s i = cell (i / s.columns % s.rows) (i / s.columns / s.rows) (i % s.columns)
