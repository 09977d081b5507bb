-- `class_at` meets its contract.
use Rattle.lattice.proofs.theory.ClassAt.{class_at_lem}
use Rattle.lattice.proofs.class.class_at.Goals as goal

pub returns : goal.returns
returns c =
    class_at_lem
    _ _ _ _ _ _ _ _
    c.quotient-line.ensures
    c.remainder-row.ensures
    c.quotient-plane.ensures
    c.remainder-column.ensures
    c.class_by.ensures
