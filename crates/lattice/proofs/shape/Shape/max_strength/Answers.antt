-- `Shape::max_strength` meets its contract.
use mathlib.Core.Path.{sym}
use Rattle.lattice.proofs.theory.Limits.{max_flat, max_stack}
use Rattle.lattice.proofs.shape.Shape.max_strength.Goals as goal

pub returns-then-planes-eq1 : goal.returns-then-planes-eq1
returns-then-planes-eq1 c = sym (max_flat _ c.if-planes-eq1.true)

pub returns-else-planes-eq1 : goal.returns-else-planes-eq1
returns-else-planes-eq1 c = sym (max_stack _ c.if-planes-eq1.false)
