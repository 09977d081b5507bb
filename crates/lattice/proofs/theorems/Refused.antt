-- Demand 1 for placing: the terms of the theorems.
use Rattle.lattice.specs.Shape.{shape_refusals}
use Rattle.lattice.specs.Class.{class_of, class_number, class_given, class_refusals}
use Rattle.lattice.specs.DistanceTest.{test_refusals}
use Rattle.lattice.specs.theorems.Refused.{ShapeRefused, ClassRefused, ClassRefusedFigure, TestRefused, TestRefusedFigures}
use Rattle.lattice.proofs.theory.Answers.{beside_other}
use Rattle.lattice.proofs.theory.Due.{due_settled}
use Rattle.lattice.proofs.theory.RefusalTests.{shape_due, class_due, test_due}
use Rattle.lattice.proofs.theory.TestAnswer.{refused_verdict, refused_triple, refused_tried}

-- Theorem. The constructor's number is settled by its refusals in the listed order.
pub shape_refused : ShapeRefused
shape_refused s = due_settled (shape_refusals s) _ (shape_due s)

-- Theorem. So is the number of the class of a cell.
pub class_refused : ClassRefused
class_refused s x = due_settled (class_refusals s x) _ (class_due s x)

-- Theorem. Beside any number but 0 the class is 0.
pub class_refused_figure : ClassRefusedFigure
unfolding class_given
class_refused_figure s x other = beside_other (class_number s x) (class_of s x) 0 other

-- Theorem. So is the number of the distance test.
pub test_refused : TestRefused
test_refused m b c t = due_settled (test_refusals m b c t) _ (test_due m b c t)

-- Beside any number but 0 the figures are no, (0, 0, 0) and 0.
pub test_refused_figures : TestRefusedFigures
test_refused_figures m b c t h = (refused_verdict m b c t h, refused_triple m b c t h, refused_tried m b c t h)
