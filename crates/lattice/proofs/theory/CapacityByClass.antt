-- The cells of a class that hold no check are its size less its number of checks, and the capacity is the sum over the classes.
use Prim.Native.Nat.{ℕ, ◌+◌, ◌-◌, ◌<◌}
use mathlib.Core.Bool.{not, ◌&&◌}
use mathlib.Core.Path.{◌≡◌, sym, ◌∙◌}
use native.Mathlib.Omega.{arith}
use lib.Dec.{eqb}
use Rattle.lattice.specs.Position.{Layout, size}
use Rattle.lattice.specs.Check.{is_power, is_check, checks, data_cells, holds_data, capacity}
use Rattle.lattice.specs.Counting.{count, sum_below}
use Rattle.lattice.proofs.theory.Counting.{count_not, sum_same}
use Rattle.lattice.proofs.theory.Positions.{in_class, sum_classes}

-- a class's cells are its checks and its data cells
pub data_cells_lem : (n : ℕ) → data_cells n ≡ n - checks n
unfolding data_cells checks is_check
data_cells_lem n = omega (arith, count_not (λ i. is_power (i + 1)) n)

-- in any layout the cells of class a that hold no check are the data cells of its size
pub class_data : (L : Layout) (a : ℕ) → count (λ i. eqb (L.class i) a && holds_data L i) L.cells ≡ data_cells (size L a)
unfolding holds_data data_cells
class_data L a = in_class L (λ c p. not (is_check (size L c) p)) a L.cells

-- the capacity is the sum over the classes of their data cells
pub capacity_by_class : (L : Layout) (m : ℕ) → ((i : ℕ) → i < L.cells → L.class i < m)
    → capacity L ≡ sum_below (λ a. data_cells (size L a)) m
unfolding capacity
capacity_by_class L m p = sym (sum_same _ _ m (λ a l. sym (class_data L a)) ∙ sum_classes L (holds_data L) m L.cells p)
