-- `next_line` meets its contract.
use Rattle.lattice.proofs.theory.NextLine.{pass_on, pass_over}
use Rattle.lattice.proofs.line.next_line.Goals as goal

pub returns-then-line-gt0 : goal.returns-then-line-gt0
returns-then-line-gt0 c = λ s accepted same l is. pass_on s accepted _ same l _ is c.if-line-gt0.true _ c.next_start.ensures

pub returns-else-line-gt0 : goal.returns-else-line-gt0
returns-else-line-gt0 c = λ s accepted same l is. pass_over s accepted _ same l _ is c.if-line-gt0.false _
    c.next_start-else-line-gt0.ensures
