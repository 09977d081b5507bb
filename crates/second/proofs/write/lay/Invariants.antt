-- What the loop of `lay` keeps.
use Rattle.std.proofs.Common.{◌≤◌}
use Rattle.second.proofs.write.lay.Given as goal

abbrev pub invariant-loop-i : goal.invariant-loop-i
invariant-loop-i l = l.k ≤ l.i
