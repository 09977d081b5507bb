-- What the loop of `digit_remainders` keeps: the tour is at cell i, and the counts, the rank and the remainders are those of the
-- cells before it.
use mathlib.Core.Path.{◌≡◌}
use Rattle.lattice.specs.Class.{layout_of}
use Rattle.levels.specs.Payload.{digit_rank, digit_field}
use Rattle.levels.specs.Working.{Toured, HoldsRemainders}
use Rattle.levels.proofs.encode.digit_remainders.Given as goal

abbrev pub invariant-loop-i : goal.invariant-loop-i
invariant-loop-i l =
    Toured l.shape l.tour l.counts l.i
    × (l.rank ≡ digit_rank (layout_of l.shape) l.i)
    × HoldsRemainders (layout_of l.shape) (digit_field (layout_of l.shape) l.payload) l.remainders l.i
