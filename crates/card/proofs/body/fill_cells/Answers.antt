-- `fill_cells` meets its contract. The loop's invariant: the first i bytes of the field are cells of the rows, and the others are
-- as they were.
use native.Mathlib.Omega.{arith}
use Rattle.card.proofs.theory.StoredFront.{stored_more}
use Rattle.card.proofs.theory.RowsStored.{cell_byte_lem, cells_stored}
use Rattle.card.proofs.body.fill_cells.Goals.{In-loop-i}
use Rattle.card.proofs.body.fill_cells.Goals as goal

pub loop-i-preserved : goal.loop-i-preserved
loop-i-preserved c =
    let a = c.args in
    stored_more _ _ _ _ c.loop-i.invariant _ c.loop-i-test.true
    (cell_byte_lem a.text.now a.at a.width _ _ _ c.byte_at.ensures c.cell_value.ensures)

pub returns : goal.returns
returns c = cells_stored _ _ _ _ _ _ c.loop-i.invariant (omega arith)
