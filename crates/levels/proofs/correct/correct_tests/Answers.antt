-- `correct_tests` meets its contract: the shape's tests, then the field's length, then its own.
use mathlib.Core.Path.{◌≡◌, sym, ◌∙◌}
use native.Mathlib.Omega.{arith}
use lib.ListN.{length}
use Rattle.lattice.specs.declared.refusal.Refusal.TheVariants as why
use Rattle.lattice.specs.Shape.{cells_of}
use Rattle.lattice.proofs.theory.Answers.{handed_on, some_number, other_reason}
use Rattle.lattice.proofs.theory.Limits as limits
use Rattle.codec.proofs.theory.Accepted.{plan_cells_lem}
use Rattle.codec.proofs.theory.OperationNumbers.{cells_given}
use Rattle.levels.proofs.theory.LevelNumbers.{correct_refused_lem, correct_length, correct_number_lem}
use Rattle.levels.proofs.theory.LevelTests.{number_other}
use Rattle.levels.proofs.correct.correct_tests.Goals.{Else-field-cells}
use Rattle.levels.proofs.correct.correct_tests.Goals as goal

-- a field of an accepted shape's length
long : (c : Else-field-cells)
    → let a = c.args in length a.field.now ≡ cells_of a.shape
long c = c.if-field-cells.false ∙ cells_given _ _ c.cells.ensures
    ∙ plan_cells_lem _ (sym c.in_ok-tests.ensures)

pub returns-in_err-tests : goal.returns-in_err-tests
returns-in_err-tests c =
    let e = c.in_err-tests.ensures in
    rw (handed_on c.from_residual.ensures.1)
    (record {
      result_value = correct_refused_lem _ _ c.in_err-tests.field-0.0 e;
      no_outside = λ z. other_reason e why.OutsideShape (limits.number_other _) z;
      levels_examined = λ z. absurd (some_number c.in_err-tests.field-0.0 z);
    })

pub returns-then-field-cells : goal.returns-then-field-cells
returns-then-field-cells c =
    record {
      result_value = sym (correct_length _ _ (sym c.in_ok-tests.ensures)
          (λ e. c.if-field-cells.true (e ∙ sym (cells_given _ _ c.cells.ensures))));
      no_outside = λ e. cc;
      levels_examined = λ z. absurd (omega arith);
    }

pub returns : goal.returns
returns c =
    let made = c.examine_levels.ensures in
    record {
      result_value = made.result_value ∙ sym (correct_number_lem _ (sym c.in_ok-tests.ensures) _
          (long (goal.at.returns c).Else-field-cells));
      no_outside = other_reason made.result_value why.OutsideShape (number_other _ _);
      levels_examined = made.levels_examined;
    }
