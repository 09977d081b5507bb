-- What the loop of `used_classes` keeps.
use Rattle.std.proofs.Common.{◌≤◌}
use Rattle.second.proofs.used.used_classes.Given as goal

abbrev pub invariant-loop-i : goal.invariant-loop-i
invariant-loop-i l = l.n ≤ 512
