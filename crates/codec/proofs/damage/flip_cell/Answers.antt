-- `flip_cell` meets its contract.
use Rattle.codec.proofs.damage.FlippedCells.{flipped_inside, flipped_outside}
use Rattle.codec.proofs.damage.flip_cell.Goals as goal

pub returns-then-cell-field : goal.returns-then-cell-field
returns-then-cell-field c =
    flipped_inside c.args.field.now _ _ c.if-cell-field.true
    c.flip.ensures

pub returns-else-cell-field : goal.returns-else-cell-field
returns-else-cell-field c = flipped_outside c.args.field.now _ c.if-cell-field.false
