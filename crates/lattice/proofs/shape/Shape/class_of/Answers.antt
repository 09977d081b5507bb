-- `Shape::class_of` meets its contract: a refusal settles the answer, and the class is that by the shape's placement.
use mathlib.Core.Path.{sym}
use native.Mathlib.Nat.{le_of_lt, le_trans}
use mir.Facts.{Fits-below}
use Rattle.lattice.specs.Class.{class_given}
use Rattle.lattice.proofs.theory.Answers.{handed_on, kept_reason, refused}
use Rattle.lattice.proofs.theory.Limits.{legal}
use Rattle.lattice.proofs.shape.ClassNumber.{classed, class_given_lem}
use Rattle.lattice.proofs.shape.Shape.class_of.Goals as goal

pub returns-in_err-class_tests : goal.returns-in_err-class_tests
unfolding class_given
returns-in_err-class_tests c =
    let told = c.in_err-class_tests.ensures in
    rw (handed_on c.from_residual.ensures.1)
    (record {
      number = told.result_value;
      class = refused c.in_err-class_tests.field-0.0 _ _ _ told.result_value;
      reason = kept_reason told.no_length;
    })

pub overflow_cast-row : goal.overflow_cast-row
overflow_cast-row c =
    let k = classed _ _ (sym c.in_ok-class_tests.ensures.result_value) in
    Fits-below tt (le_trans (le_of_lt k.field.row) (legal _ k.accepted).height_high)

pub overflow_cast-plane : goal.overflow_cast-plane
overflow_cast-plane c =
    let k = classed _ _ (sym c.in_ok-class_tests.ensures.result_value) in
    Fits-below tt (le_trans (le_of_lt k.field.plane) (legal _ k.accepted).planes_high)

pub overflow_cast-column : goal.overflow_cast-column
overflow_cast-column c =
    let k = classed _ _ (sym c.in_ok-class_tests.ensures.result_value) in
    Fits-below tt (le_trans (le_of_lt k.field.column) (legal _ k.accepted).width_high)

pub returns : goal.returns
returns c =
    class_given_lem _ _ _ _ (classed _ _ (sym c.in_ok-class_tests.ensures.result_value)) c.placement.ensures c.class_by.ensures
