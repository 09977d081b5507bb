-- What the loop of `data_in` keeps.
use Prim.Native.Nat.{◌*◌, ◌≤◌}
use mathlib.Core.Path.{◌≡◌}
use lib.ListN.{get_or}
use Rattle.lattice.specs.Check.{data_cells}
use Rattle.lattice.specs.Counting.{sum_below}
use Rattle.lattice.proofs.capacity.data_in.Given as goal

abbrev pub invariant-loop-size : goal.invariant-loop-size
invariant-loop-size l =
    (l.sum ≤ 4294967295 * l.size-index) × (l.sum ≡ sum_below (λ b. data_cells (get_or l.sizes b 0)) l.size-index)
