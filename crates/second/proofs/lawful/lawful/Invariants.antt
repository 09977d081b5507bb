-- What the loop of `lawful` keeps.
use Rattle.std.proofs.Common.{◌≤◌}
use Rattle.second.proofs.lawful.lawful.Given as goal

abbrev pub invariant-loop-i : goal.invariant-loop-i
invariant-loop-i l = l.position ≤ l.i
