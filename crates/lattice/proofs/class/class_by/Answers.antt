-- `class_by` meets its contract: with a placement of 16 and 32 bits no product or sum wraps.
use Prim.Native.Nat.{◌≤◌}
use native.Mathlib.Nat.{add-le-add, mul-le-mul, mod-le, le_trans}
use mir.Facts.{Fits-below}
use Rattle.lattice.specs.Class.{class_by}
use Rattle.lattice.proofs.theory.ClassBelow.{class_most}
use Rattle.lattice.proofs.theory.Widths.{most_16, most_32}
use Rattle.lattice.proofs.class.class_by.Goals.{After-struct_known-1}
use Rattle.lattice.proofs.class.class_by.Goals as goal

-- the slice is not above the row
slice_most : (c : After-struct_known-1) → c.remainder-slice.result ≤ c.args.row
slice_most c = rw c.remainder-slice.ensures (mod-le _ _)

pub overflow_add-result : goal.overflow_add-result
overflow_add-result c =
    let fits = c.ranges in
    Fits-below tt
    (add-le-add
    (mul-le-mul (le_trans (slice_most (goal.at.overflow_add-result c).After-struct_known-1) (most_32 fits.row))
    (most_16 c.struct_known-1.given.0))
    (le_trans (rw c.class_with.ensures (class_most _ _))
    (add-le-add (most_16 c.struct_known-1.given.0) (most_32 fits.column))))

pub returns : goal.returns
unfolding class_by
returns c = rw (← c.remainder-slice.ensures, ← c.class_with.ensures)
