-- `damaged_cell` meets its contract.
use borrow.Author.Tests.{eq-eqb, ne_eqb}
use Rattle.codec.specs.Working.{damaged_cell}
use Rattle.codec.proofs.erasures.damaged_cell.Goals as goal

pub returns-then-erasure-eq-NO_CELL : goal.returns-then-erasure-eq-NO_CELL
unfolding damaged_cell
returns-then-erasure-eq-NO_CELL c = rw (eq-eqb _ _ c.if-erasure-eq-NO_CELL.true)

pub returns-else-erasure-eq-NO_CELL : goal.returns-else-erasure-eq-NO_CELL
unfolding damaged_cell
returns-else-erasure-eq-NO_CELL c = rw (ne_eqb _ _ c.if-erasure-eq-NO_CELL.false)
