-- Joined cells, clusters and distance: source document 002, definition 1.1.
use Rattle.std.specs.Prelude.{ℕ, ◌+◌, ◌-◌, ◌≤◌, ◌≡◌, length}
use mathlib.Core.List.{List, Memᴰ}
use Rattle.lattice.specs.declared.shape.Shape.{Shape}
use Rattle.lattice.specs.Cell.{Cell, InField}

-- the absolute difference
unfoldable pub apart : ℕ → ℕ → ℕ
apart a b = (a - b) + (b - a)

-- the sum of the absolute differences of the coordinates
unfoldable pub distance : Cell → Cell → ℕ
distance x y = apart x.row y.row + apart x.plane y.plane + apart x.column y.column

-- two cells are joined when exactly one of row, plane and column differs, and by 1
pub data Joined (x y : Cell) : Type 0 where
  by_row : apart x.row y.row ≡ 1 → x.plane ≡ y.plane → x.column ≡ y.column → Joined x y
  by_plane : x.row ≡ y.row → apart x.plane y.plane ≡ 1 → x.column ≡ y.column → Joined x y
  by_column : x.row ≡ y.row → x.plane ≡ y.plane → apart x.column y.column ≡ 1 → Joined x y

-- a path inside a set of cells, by steps of one kind
pub data Path (R : Cell → Cell → Type 0) (S : Cell → Type 0) : Cell → Cell → Type 0 where
  stay : {x : Cell} → S x → Path R S x x
  step : {x y z : Cell} → S x → R x y → Path R S y z → Path R S x z

-- a path of joined cells
abbrev pub Linked : (Cell → Type 0) → Cell → Cell → Type 0
Linked S = Path Joined S

-- a cluster of the field: a set of its cells, any two linked by a path inside the set
pub record Cluster (s : Shape) (S : Cell → Type 0) : Type 0 where
  pub inside : (x : Cell) → S x → InField s x
  pub linked : (x y : Cell) → S x → S y → Linked S x y

-- the set has at most t cells: a list of at most t cells has them all
pub record AtMost (t : ℕ) (S : Cell → Type 0) : Type 0 where
  pub cells : List Cell
  pub few : length cells ≤ t
  pub all : (x : Cell) → S x → Memᴰ x cells

-- some cluster of the field of at most t cells has both cells
pub record Together (s : Shape) (t : ℕ) (x y : Cell) : Type 1 where
  pub set : Cell → Type 0
  pub cluster : Cluster s set
  pub small : AtMost t set
  pub first : set x
  pub second : set y
