-- What the loop of `field_remainders` keeps: the tour is at cell i, and the counts and the remainders are those of the cells
-- before it.
use Rattle.lattice.specs.Class.{layout_of}
use Rattle.codec.specs.Field.{field_of}
use Rattle.levels.specs.Working.{Toured, HoldsRemainders}
use Rattle.levels.proofs.remainders.field_remainders.Given as goal

abbrev pub invariant-loop-i : goal.invariant-loop-i
invariant-loop-i l =
    Toured l.shape l.tour l.counts l.i
    × HoldsRemainders (layout_of l.shape) (field_of l.field) l.remainders l.i
