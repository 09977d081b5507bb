-- The values of a cell: the term of the theorem.
use Rattle.codec.specs.theorems.Values.{CellValues}
use Rattle.codec.proofs.theory.CellValues.{cell_values_lem, received_values}

-- Theorem. A cell is 0 or 1; each cell of a field that is handed in is 0 or 1 or, where it is erased, 2.
pub cell_values : CellValues
cell_values = record { cell = cell_values_lem; received = received_values }
