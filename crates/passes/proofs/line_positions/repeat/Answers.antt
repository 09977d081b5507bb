-- `repeat` meets its contract.
use native.Mathlib.Omega.{arith}
use Rattle.lattice.specs.Lines.{Repeats}
use Rattle.passes.proofs.line_positions.repeat.Goals as goal

pub returns-clause-repeats : goal.returns-clause-repeats
unfolding Repeats
returns-clause-repeats c = λ y l. c.loop-z.invariant.2 y (omega arith)
