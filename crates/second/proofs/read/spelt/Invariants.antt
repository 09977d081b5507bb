-- What the loop of `spelt` keeps.
use Rattle.std.proofs.Common.{◌≤◌}
use Rattle.second.proofs.read.spelt.Given as goal

abbrev pub invariant-loop-i : goal.invariant-loop-i
invariant-loop-i l = l.k ≤ l.i
