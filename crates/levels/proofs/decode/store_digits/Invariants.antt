-- What the loop of `store_digits` keeps: the tour is at cell i, and the counts, the rank, the digits and the word cells that
-- differ are those of the cells before it.
use mathlib.Core.Path.{◌≡◌}
use Rattle.lattice.specs.Class.{layout_of}
use Rattle.codec.specs.Field.{field_of}
use Rattle.levels.specs.Payload.{digit_rank, word_differences_to}
use Rattle.levels.specs.Decode.{restored_field}
use Rattle.levels.specs.Working.{Toured}
use Rattle.levels.proofs.decode.StoredDigits.{HoldsHeld}
use Rattle.levels.proofs.decode.store_digits.Given as goal

abbrev pub invariant-loop-i : goal.invariant-loop-i
invariant-loop-i l =
    Toured l.shape l.tour l.counts l.i
    × (l.rank ≡ digit_rank (layout_of l.shape) l.i)
    × HoldsHeld (layout_of l.shape) (restored_field l.shape (field_of l.field)) l.payload l.i
    × (l.changed ≡ word_differences_to (layout_of l.shape) (field_of l.field) (restored_field l.shape (field_of l.field)) l.i)
