-- `only_change` meets its contract.
use mathlib.Core.Path.{refl}
use borrow.Author.Tests.{eq-eqb, ne_eqb}
use Rattle.levels.specs.Working.{only_change}
use Rattle.levels.proofs.faults.only_change.Goals as goal

pub returns-then-factor-eq5 : goal.returns-then-factor-eq5
unfolding only_change
returns-then-factor-eq5 c = rw (eq-eqb _ _ c.if-factor-eq5.true) refl

pub returns-else-factor-eq5 : goal.returns-else-factor-eq5
unfolding only_change
returns-else-factor-eq5 c = rw (ne_eqb _ _ c.if-factor-eq5.false) refl
