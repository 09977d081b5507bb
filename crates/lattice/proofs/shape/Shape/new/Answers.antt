-- `Shape::new` meets its contract: accepted numbers fit the shape's.
use mathlib.Core.Path.{sym}
use mir.Facts.{Fits-below}
use Rattle.lattice.proofs.theory.Limits.{legal, strength_most}
use Rattle.lattice.proofs.shape.Shape.new.Goals as goal

pub overflow_cast-result : goal.overflow_cast-result
overflow_cast-result c = Fits-below tt (legal _ (sym c.in_ok-tests_of.ensures)).width_high

pub overflow_cast-result-2 : goal.overflow_cast-result-2
overflow_cast-result-2 c = Fits-below tt (legal _ (sym c.in_ok-tests_of.ensures)).height_high

pub overflow_cast-result-3 : goal.overflow_cast-result-3
overflow_cast-result-3 c = Fits-below tt (legal _ (sym c.in_ok-tests_of.ensures)).planes_high

pub overflow_cast-result-4 : goal.overflow_cast-result-4
overflow_cast-result-4 c = Fits-below tt (strength_most _ (sym c.in_ok-tests_of.ensures))
