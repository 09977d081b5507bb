-- What the loop of `levels_in_reach` keeps: the tour is at cell i, the counts are those of the cells before it, and these pass
-- the test.
use Rattle.lattice.specs.Class.{layout_of}
use Rattle.codec.specs.Field.{field_of}
use Rattle.codec.proofs.theory.OneByOne.{PassedTo}
use Rattle.levels.specs.Restored.{fits}
use Rattle.levels.specs.Working.{Toured}
use Rattle.levels.proofs.examine.levels_in_reach.Given as goal

abbrev pub invariant-loop-i : goal.invariant-loop-i
invariant-loop-i l =
    Toured l.shape l.tour l.counts l.i × PassedTo (fits (layout_of l.shape) (field_of l.field)) l.i
