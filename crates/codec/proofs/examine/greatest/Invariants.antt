-- What the loop of `greatest` keeps: `most` is the greatest of the bytes before the next.
use Rattle.codec.specs.Field.{field_of}
use Rattle.codec.proofs.examine.Cells.{Tells}
use Rattle.codec.proofs.examine.greatest.Given as goal

abbrev pub invariant-loop-cell : goal.invariant-loop-cell
invariant-loop-cell l = Tells (field_of l.field) l.most l.cell-index
