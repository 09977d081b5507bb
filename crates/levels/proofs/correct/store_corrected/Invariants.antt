-- What the loop of `store_corrected` keeps: the tour is at cell i, the counts are those of the cells before it, and these are
-- corrected and counted where they change.
use Rattle.levels.specs.Working.{Toured}
use Rattle.levels.proofs.correct.StoredCells.{StoredTo}
use Rattle.levels.proofs.correct.store_corrected.Given as goal

abbrev pub invariant-loop-i : goal.invariant-loop-i
invariant-loop-i l =
    Toured l.shape l.tour l.counts l.i × StoredTo l.shape l.initial.field l.field l.changed l.i
