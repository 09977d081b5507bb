-- The cells that hold a check, listed in byte order, the runs of cells between them, and the cells that have given positions.
-- Only contracts of functions that pass over the cells cite this file.
use Rattle.std.specs.Prelude.{ℕ, ◌+◌, ◌-◌, ◌*◌, ◌<◌, ◌≤◌, true, false, not, List, ◌⊎◌, ◌≡◌, get_or}
use Rattle.lattice.specs.Shape.{max_cells}
use Rattle.lattice.specs.Position.{Layout, size, position}
use Rattle.lattice.specs.Check.{checks, holds_data}
use Rattle.lattice.specs.Counting.{count}

-- no accepted shape has more cells that hold a check
abbrev pub max_checks : ℕ
max_checks = 4096

-- how many of the first n cells hold a check
unfoldable pub checks_to : Layout → ℕ → ℕ
checks_to L n = count (λ i. not (holds_data L i)) n

-- cell i, one of the first n, is the one that holds check k, counted from 0
pub record IsCheckCell (L : Layout) (n k i : ℕ) : Type 0 where
  pub below : i < n
  pub check : holds_data L i ≡ false
  pub before : checks_to L i ≡ k

-- the list holds, in byte order, the cells that hold a check among the first n
pub record ListsChecks (L : Layout) (n amount : ℕ) (cells : List ℕ) : Type 0 where
  pub all : amount ≡ checks_to L n
  pub at : (k : ℕ) → k < amount → IsCheckCell L n k (get_or cells k 0)

-- where a check stands, as one number: 32 times the class of its cell, and the j of its position 2^j
abbrev pub place_of : Layout → ℕ → ℕ
place_of L i = L.class i * 32 + (checks (position L i) - 1)

-- the second list says where each of the checks of the first stands
pub record HoldsPlaces (L : Layout) (amount : ℕ) (cells places : List ℕ) : Type 0 where
  pub at : (k : ℕ) → k < amount → get_or places k 0 ≡ place_of L (get_or cells k 0)

-- the cells from i up to e hold no check, and k checks stand before them
pub record Run (L : Layout) (k i e : ℕ) : Type 0 where
  pub ordered : i ≤ e
  pub inside : e ≤ L.cells
  pub before : checks_to L i ≡ k
  pub free : (x : ℕ) → i ≤ x → x < e → holds_data L x ≡ true

-- what stands for a cell where there is none
abbrev pub no_cell : ℕ
no_cell = max_cells

-- cell i is the one of class a that has position p
pub record IsCellAt (L : Layout) (a p i : ℕ) : Type 0 where
  pub below : i < L.cells
  pub class : L.class i ≡ a
  pub position : position L i ≡ p

-- what is given for position p of class a: the cell that has it, or none
pub record CellOrNone (L : Layout) (a p i : ℕ) : Type 0 where
  pub some : 1 ≤ p → p ≤ size L a → IsCellAt L a p i
  pub none : (p ≡ 0) ⊎ (size L a < p) → i ≡ no_cell

-- for each class below m, the cell that has the class's entry of `positions` as its position, or none
pub record CellsAt (L : Layout) (m : ℕ) (positions cells : List ℕ) : Type 0 where
  pub at : (a : ℕ) → a < m → CellOrNone L a (get_or positions a 0) (get_or cells a 0)
