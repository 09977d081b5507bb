-- `Shape::class_tests` meets its contract: the shape's tests, then the cell's.
use mathlib.Core.Path.{sym}
use Rattle.lattice.specs.declared.refusal.Refusal.TheVariants as why
use Rattle.lattice.proofs.theory.Answers.{handed_on, other_reason}
use Rattle.lattice.proofs.theory.Limits.{number_other}
use Rattle.lattice.proofs.shape.ClassNumber.{class_refused_lem, outside_number, inside_number}
use Rattle.lattice.proofs.shape.Shape.class_tests.Goals as goal

pub returns-in_err-tests-clause-result_value : goal.returns-in_err-tests-clause-result_value
returns-in_err-tests-clause-result_value c =
    rw (handed_on c.from_residual.ensures.1) (class_refused_lem _ _ _ c.in_err-tests.ensures)

pub returns-in_err-tests-clause-no_length : goal.returns-in_err-tests-clause-no_length
returns-in_err-tests-clause-no_length c =
    rw (handed_on c.from_residual.ensures.1) (λ e. other_reason c.in_err-tests.ensures why.FieldLength (number_other _) e)

pub returns-then-not-contains-clause-result_value : goal.returns-then-not-contains-clause-result_value
returns-then-not-contains-clause-result_value c =
    sym (outside_number _ _ (sym c.in_ok-tests.ensures) (sym c.if-not-contains.ensures))

pub returns-clause-result_value : goal.returns-clause-result_value
returns-clause-result_value c =
    sym (inside_number _ _ (sym c.in_ok-tests.ensures) (sym c.if-not-contains.ensures))
