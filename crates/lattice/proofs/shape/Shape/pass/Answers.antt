-- `Shape::pass` meets its contract.
use mathlib.Core.Path.{sym}
use Rattle.lattice.specs.Lines.{no_pass, pass_given}
use Rattle.lattice.proofs.theory.Answers.{refused, done}
use Rattle.lattice.proofs.shape.Shape.pass.Goals as goal

pub returns-in_default : goal.returns-in_default
unfolding pass_given no_pass
returns-in_default c = refused c.in_default.field-0 _ _ _ c.in_default.ensures

pub returns : goal.returns
unfolding pass_given
returns c = done _ _ _ _ (sym c.in-Ok.ensures) c.pass_with.ensures
