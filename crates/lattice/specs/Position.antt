-- Layouts of cells in classes: the sizes of the classes, and the positions of the cells in them.
use Rattle.std.specs.Prelude.{ℕ, ◌+◌, eqb}
use Rattle.lattice.specs.Counting.{count}

-- a layout: the class of each cell, by its byte number, and the number of cells
pub record Layout : Type 0 where
  pub class : ℕ → ℕ
  pub cells : ℕ

-- the number of cells of class a among the first n cells
unfoldable pub size_to : Layout → ℕ → ℕ → ℕ
size_to L a n = count (λ i. eqb (L.class i) a) n

-- the size of class a: the number of its cells
abbrev pub size : Layout → ℕ → ℕ
size L a = size_to L a L.cells

-- the cells of a class are numbered 1, 2, .. in byte order
unfoldable pub position : Layout → ℕ → ℕ
position L i = size_to L (L.class i) i + 1
