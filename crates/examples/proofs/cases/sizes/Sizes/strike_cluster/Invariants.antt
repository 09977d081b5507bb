-- What the loop of `strike_cluster` keeps.
use Rattle.std.proofs.Common.{◌<◌}
use Rattle.examples.proofs.cases.sizes.Sizes.strike_cluster.Given as goal

abbrev pub invariant-loop-state : goal.invariant-loop-state
invariant-loop-state l = l.i < l.self.cells
