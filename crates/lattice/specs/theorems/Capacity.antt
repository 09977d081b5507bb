-- The theorems on the number of checks and the capacity.
use Rattle.std.specs.Prelude.{ℕ, ◌-◌, ◌^◌, ◌<◌, ◌≤◌, ◌&&◌, ◌≡◌, eqb}
use Rattle.lattice.specs.Position.{Layout, size}
use Rattle.lattice.specs.Check.{checks, data_cells, holds_data, capacity}
use Rattle.lattice.specs.Counting.{count, sum_below}

-- Theorem. The number of powers of two up to n is the bit length of n: 0 for 0, else the one k with 2^(k − 1) ≤ n < 2^k.
pub record ChecksAreBitLength : Type 0 where
  pub none : checks 0 ≡ 0
  pub some : (n : ℕ) → 1 ≤ n → (1 ≤ checks n) × (2 ^ (checks n - 1) ≤ n) × (n < 2 ^ checks n)

-- Theorem. For any layout of cells in classes, the cells of a class that hold no check are as many as the positions that hold
-- none in a class of its size.
abbrev pub ClassCapacity : Type 0
ClassCapacity = (L : Layout) (a : ℕ) → count (λ i. eqb (L.class i) a && holds_data L i) L.cells ≡ data_cells (size L a)

-- Theorem. For any layout of cells in classes below m, the number of cells that hold no check is the sum over the classes of the
-- class's size less its number of checks.
abbrev pub CapacitySum : Type 0
CapacitySum =
    (L : Layout) (m : ℕ) → ((i : ℕ) → i < L.cells → L.class i < m)
    → capacity L ≡ sum_below (λ a. size L a - checks (size L a)) m
