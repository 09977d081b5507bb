-- `correct_tests` meets its contract: the shape's tests, then the field's length, then its own.
use mathlib.Core.Path.{sym, ◌∙◌}
use native.Mathlib.Omega.{arith}
use Rattle.lattice.specs.declared.refusal.Refusal.TheVariants as why
use Rattle.lattice.proofs.theory.Answers.{handed_on, other_reason, some_number}
use Rattle.lattice.proofs.theory.Limits.{number_other}
use Rattle.codec.specs.Working.{FieldFits}
use Rattle.codec.proofs.theory.Accepted.{plan_cells_lem, correct_number_lem}
use Rattle.codec.proofs.theory.FieldNumber.{field_inside}
use Rattle.codec.proofs.theory.OperationNumbers.{cells_given, correct_refused_lem, correct_length}
use Rattle.codec.proofs.correct.correct_tests.Goals.{Else-field-cells}
use Rattle.codec.proofs.correct.correct_tests.Goals as goal

-- a field of an accepted shape's length
fits : (c : Else-field-cells)
    → let a = c.args in
    FieldFits a.shape a.field.now
fits c =
    let a = sym c.in_ok-tests.ensures in
    record { accepted = a; long = c.if-field-cells.false ∙ cells_given _ _ c.cells.ensures ∙ plan_cells_lem _ a }

pub returns-in_err-tests : goal.returns-in_err-tests
returns-in_err-tests c =
    let e = c.in_err-tests.ensures in
    rw (handed_on c.from_residual.ensures.1)
    (record {
      result_value = correct_refused_lem _ _ c.in_err-tests.field-0.0 e;
      no_outside = λ z. other_reason e why.OutsideShape (number_other _) z;
      sound = λ z. absurd (some_number c.in_err-tests.field-0.0 z);
    })

pub returns-then-field-cells : goal.returns-then-field-cells
returns-then-field-cells c =
    record {
      result_value = sym (correct_length _ _ (sym c.in_ok-tests.ensures)
          (λ e. c.if-field-cells.true (e ∙ sym (cells_given _ _ c.cells.ensures))));
      no_outside = λ e. cc;
      sound = λ z. absurd (omega arith);
    }

pub returns : goal.returns
returns c =
    let f = fits (goal.at.returns c).Else-field-cells in
    record {
      result_value = c.examine.ensures.result_value ∙ sym (correct_number_lem _ f.accepted _ f.long);
      no_outside = field_inside _ _ c.examine.ensures.result_value;
      sound = c.examine.ensures.sound;
    }
