-- `data_cells` meets its contract.
use mathlib.Core.Path.{sym}
use Rattle.lattice.proofs.theory.CapacityByClass.{data_cells_lem}
use Rattle.lattice.proofs.theory.Powers.{checks_most}
use Rattle.lattice.proofs.capacity.data_cells.Goals as goal

pub overflow_sub-result : goal.overflow_sub-result
overflow_sub-result c = rw c.checks.ensures (checks_most _)

pub returns : goal.returns
returns c = rw c.checks.ensures (sym (data_cells_lem _))
