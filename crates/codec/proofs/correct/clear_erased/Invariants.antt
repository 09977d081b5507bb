-- What the loop of `clear_erased` keeps: the cells before i are cleared.
use Rattle.codec.proofs.correct.Cleared.{ClearedTo}
use Rattle.codec.proofs.correct.clear_erased.Given as goal

abbrev pub invariant-loop-i : goal.invariant-loop-i
invariant-loop-i l = ClearedTo l.initial.field l.field l.i
