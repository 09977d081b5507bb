-- What the loops of `class` keep.
use Rattle.std.proofs.Common.{◌*◌, ◌<◌, ◌≤◌}
use Rattle.second.proofs.window.class.Given as goal

abbrev pub invariant-loop-i : goal.invariant-loop-i
invariant-loop-i l = l.p * l.q ≤ 512

abbrev pub invariant-loop-j : goal.invariant-loop-j
invariant-loop-j l = (l.p * l.q ≤ 512) × (l.i < l.p)
