-- What the loop of `fill_cells` keeps.
use Rattle.card.proofs.theory.StoredFront.{StoredTo}
use Rattle.card.proofs.theory.RowsRead.{cell_byte}
use Rattle.card.proofs.body.fill_cells.Given as goal

abbrev pub invariant-loop-i : goal.invariant-loop-i
invariant-loop-i l = StoredTo (cell_byte l.text l.at l.width) l.initial.field l.field l.i
