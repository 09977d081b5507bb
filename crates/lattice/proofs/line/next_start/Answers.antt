-- `next_start` meets its contract.
use native.Mathlib.Omega.{arith}
use Rattle.lattice.proofs.theory.Starts.{back_above, back_below}
use Rattle.lattice.proofs.line.next_start.Goals as goal

pub returns-then-step-start : goal.returns-then-step-start
returns-then-step-start c = λ below less. back_above _ (omega arith) _ _ below c.if-step-start.true

pub returns : goal.returns
returns c =
    let a = c.args in
    λ below less. omega (arith, back_below a.m (omega arith) a.start a.step (omega arith) less)
