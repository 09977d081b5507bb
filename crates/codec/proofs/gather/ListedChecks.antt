-- The list of the check cells of an accepted shape.
use Prim.Native.Nat.{ℕ, ◌<◌, ◌≤◌}
use mathlib.Core.List.{List}
use mathlib.Core.Path.{◌≡◌, sym, subst}
use native.Mathlib.Omega.{arith}
use lib.ListN.{get_or}
use Rattle.lattice.specs.declared.shape.Shape.{Shape}
use Rattle.lattice.specs.Shape.{cells_of}
use Rattle.lattice.specs.Class.{layout_of}
use Rattle.lattice.specs.Listing.{checks_to, ListsChecks}
use Rattle.lattice.proofs.theory.Runs.{checks_most}

module _ (s : Shape) (checks : List ℕ) (amount cells : ℕ) (own : cells ≡ cells_of s)
    (lists : ListsChecks (layout_of s) (cells_of s) amount checks) where
  -- the list, over the number of cells as the code has it
  pub lists_cells : ListsChecks (layout_of s) cells amount checks
  lists_cells = subst (λ (n : ℕ). ListsChecks (layout_of s) n amount checks) (sym own) lists

  -- a listed cell is one of them, and its number is small
  pub listed_inside : (k : ℕ) → k < amount → get_or checks k 0 < cells
  listed_inside k l = (lists_cells.at k l).below

-- the checks before a cell are no more than the cells
pub checks_before : (s : Shape) (i k : ℕ) → checks_to (layout_of s) i ≡ k → k ≤ i
checks_before s i k e = omega (arith, checks_most (layout_of s) i)
