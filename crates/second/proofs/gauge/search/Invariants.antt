-- What the loop of `search` keeps.
use Rattle.std.proofs.Common.{◌≤◌}
use Rattle.second.proofs.gauge.search.Given as goal

abbrev pub invariant-loop-x : goal.invariant-loop-x
invariant-loop-x l = l.tried ≤ l.x
