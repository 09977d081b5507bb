-- What the loop of `lay_out` keeps.
use Rattle.std.proofs.Common.{◌≤◌}
use Rattle.second.proofs.layout.lay_out.Given as goal

abbrev pub invariant-loop-i : goal.invariant-loop-i
invariant-loop-i l = (l.capacity ≤ l.i) × (l.words ≤ l.i)
