-- `Shape::placement` meets its contract.
use mathlib.Core.Path.{sym}
use Rattle.lattice.specs.Class.{placement_given}
use Rattle.lattice.proofs.theory.Answers.{refused, done}
use Rattle.lattice.proofs.shape.Shape.placement.Goals as goal

pub returns-in_default : goal.returns-in_default
unfolding placement_given
returns-in_default c = refused c.in_default.field-0 _ _ _ c.in_default.ensures

pub returns : goal.returns
unfolding placement_given
returns c = done _ _ _ _ (sym c.in-Ok.ensures) c.placed.ensures
