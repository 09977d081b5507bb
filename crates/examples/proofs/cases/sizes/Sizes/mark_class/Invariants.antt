-- What the loop of `mark_class` keeps.
use Rattle.std.proofs.Common.{◌≤◌}
use Rattle.examples.proofs.cases.sizes.Sizes.mark_class.Given as goal

abbrev pub invariant-loop-step : goal.invariant-loop-step
invariant-loop-step l = l.n ≤ l.step
