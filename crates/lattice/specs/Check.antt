-- Check cells and the capacity, for any layout of cells in classes.
use Rattle.std.specs.Prelude.{ℕ, ◌+◌, ◌^◌, Bool, not, List, eqb, get_or}
use Rattle.lattice.specs.Counting.{count, any_below, sum_below}
use Rattle.lattice.specs.Position.{Layout, size, position}

-- p is a power of two: 2 to the power of some number, which is then below p
unfoldable pub is_power : ℕ → Bool
is_power p = any_below (λ k. eqb (2 ^ k) p) p

-- position p of a class of n cells holds a check
unfoldable pub is_check : ℕ → ℕ → Bool
is_check n p = is_power p

-- the number of powers of two up to n, which is the number of check cells of a class of n cells
unfoldable pub checks : ℕ → ℕ
checks n = count (λ i. is_power (i + 1)) n

-- how many of the positions 1 to n of a class of n cells hold no check
unfoldable pub data_cells : ℕ → ℕ
data_cells n = count (λ i. not (is_check n (i + 1))) n

-- cell i holds no check
unfoldable pub holds_data : Layout → ℕ → Bool
holds_data L i = not (is_check (size L (L.class i)) (position L i))

-- the capacity: the number of cells that hold no check
unfoldable pub capacity : Layout → ℕ
capacity L = count (holds_data L) L.cells

-- the number of cells that hold no check, where the list holds the size of each of m classes
unfoldable pub data_in : List ℕ → ℕ → ℕ
data_in sizes m = sum_below (λ a. data_cells (get_or sizes a 0)) m
