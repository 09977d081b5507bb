-- Entries of the work arrays, and the cells of an accepted shape.
use Prim.Native.Nat.{ℕ, ◌<◌}
use mathlib.Core.Path.{◌≡◌}
use native.Mathlib.Nat.{lt_of_lt_of_le}
use lib.ListN.{replicate, get_or-replicate}
use Rattle.lattice.specs.declared.shape.Shape.{Shape}
use Rattle.lattice.specs.Shape.{max_cells, max_classes, Accepted, cells_of}
use Rattle.lattice.specs.Listing.{no_cell}
use Rattle.lattice.specs.Sizes.{HoldsZeros}
use Rattle.lattice.proofs.theory.Limits.{legal}
use Rattle.codec.specs.Working.{HoldsNone}

-- the cells of an accepted shape are at most 65,536
module _ (s : Shape) (n : ℕ) (e : n ≡ cells_of s) (i : ℕ) (l : i < n) where
  cell_below : i < cells_of s
  cell_below = rw (← e) l

  pub cell_limit : Accepted s → i < max_cells
  cell_limit a = lt_of_lt_of_le cell_below (legal _ a).product

-- an array that names no cell
pub nones : HoldsNone (replicate max_classes no_cell)
nones = record { at = λ a l. get_or-replicate max_classes a no_cell 0 l }

-- an array of zeros
pub zeros : HoldsZeros (replicate max_classes 0)
zeros = record { at = λ a l. get_or-replicate max_classes a 0 0 l }
