-- Windows, the papers' oblongs of p rows and q columns, and patches, whose cells touch by sides or corners.
use Rattle.std.specs.Prelude.{ℕ, ◌+◌, ◌<◌, ◌≤◌, ◌≡◌, ℤ, pos, ◌+ℤ◌}
use Rattle.lattice.specs.declared.shape.Shape.{Shape}
use Rattle.lattice.specs.declared.shape.Window.{Window}
use Rattle.lattice.specs.Cell.{Cell, InField}
use Rattle.lattice.specs.Cluster.{apart, Path}

-- the cell lies in the window whose first row is r and whose first column is c, integers: so many rows down and columns across.
-- The window may hang over any edge of the field
pub record InWindow (w : Window) (r c : ℤ) (x : Cell) : Type 0 where
  pub down : ℕ
  pub across : ℕ
  pub rows : down < w.rows
  pub columns : across < w.columns
  pub row : pos x.row ≡ r +ℤ pos down
  pub column : pos x.column ≡ c +ℤ pos across

-- no window that lies in the field has one label twice
abbrev pub SeparatesWindows : Shape → Window → (Cell → ℕ) → Type 0
SeparatesWindows s w L =
    (r c : ℕ) → r + w.rows ≤ s.rows → c + w.columns ≤ s.columns
    → (x y : Cell) → InField s x → InField s y → InWindow w (pos r) (pos c) x → InWindow w (pos r) (pos c) y → L x ≡ L y → x ≡ y

-- two cells touch, by a side or a corner: they lie in one plane, and neither row nor column differs by more than 1
pub record Touching (x y : Cell) : Type 0 where
  pub plane : x.plane ≡ y.plane
  pub row : apart x.row y.row ≤ 1
  pub column : apart x.column y.column ≤ 1

-- a patch of the field: a set of its cells, any two linked by a path of touching cells inside the set
pub record Patch (s : Shape) (S : Cell → Type 0) : Type 0 where
  pub inside : (x : Cell) → S x → InField s x
  pub linked : (x y : Cell) → S x → S y → Path Touching S x y
