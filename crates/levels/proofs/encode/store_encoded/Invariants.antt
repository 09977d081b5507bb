-- What the loop of `store_encoded` keeps: the tour is at cell i, the counts and the rank are those of the cells before it, and
-- these are stored.
use mathlib.Core.Path.{◌≡◌}
use Rattle.lattice.specs.Class.{layout_of}
use Rattle.levels.specs.Payload.{digit_rank}
use Rattle.levels.specs.Working.{Toured}
use Rattle.levels.proofs.encode.WrittenCells.{WrittenTo}
use Rattle.levels.proofs.encode.store_encoded.Given as goal

abbrev pub invariant-loop-i : goal.invariant-loop-i
invariant-loop-i l =
    Toured l.shape l.tour l.counts l.i
    × (l.rank ≡ digit_rank (layout_of l.shape) l.i)
    × WrittenTo l.shape l.payload l.initial.field l.field l.i
