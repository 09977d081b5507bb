-- `length_tests` meets its contract: the shape's tests, then the lengths.
use mathlib.Core.Path.{◌≡◌, sym, ◌∙◌}
use native.Mathlib.Omega.{arith}
use lib.ListN.{length}
use Rattle.lattice.specs.declared.refusal.Refusal.TheVariants as why
use Rattle.lattice.proofs.theory.Answers.{handed_on, some_number, other_reason}
use Rattle.lattice.proofs.theory.Limits.{number_other}
use Rattle.codec.specs.Plan.{plan_digits}
use Rattle.codec.proofs.theory.Accepted.{plan_cells_lem, plan_digits_lem}
use Rattle.codec.proofs.theory.OperationNumbers.{cells_given}
use Rattle.levels.proofs.theory.LevelNumbers.{lengths_refused, digits_number, field_number_lem, fit_number}
use Rattle.levels.proofs.lengths.length_tests.Goals.{After-lay, Else-payload-lay}
use Rattle.levels.proofs.lengths.length_tests.Goals as goal

-- the length that the words give is the plan's
planned : (c : After-lay)
    → c.lay.result ≡ plan_digits c.args.shape
planned c = c.lay.ensures.value ∙ sym (plan_digits_lem _ (sym c.in_ok-tests.ensures))

digits : (c : Else-payload-lay)
    → let a = c.args in
    length a.payload.now ≡ plan_digits a.shape
digits c = c.if-payload-lay.false ∙ (c.lay.ensures.value
    ∙ sym (plan_digits_lem _ (sym c.in_ok-tests.ensures)))

pub returns-in_err-tests : goal.returns-in_err-tests
returns-in_err-tests c =
    let e = c.in_err-tests.ensures in
    rw (handed_on c.from_residual.ensures.1)
    (record {
      result_value = lengths_refused _ _ _ c.in_err-tests.field-0.0 e;
      no_outside = λ z. other_reason e why.OutsideShape (number_other _) z;
      lengths_fit = λ z. absurd (some_number c.in_err-tests.field-0.0 z);
    })

pub returns-then-payload-lay : goal.returns-then-payload-lay
returns-then-payload-lay c =
    record {
      result_value = sym (digits_number _ _ _ (sym c.in_ok-tests.ensures)
          (λ e. c.if-payload-lay.true (e ∙ sym (planned (goal.at.returns-then-payload-lay c).After-lay))));
      no_outside = λ e. cc;
      lengths_fit = λ z. absurd (omega arith);
    }

pub returns-then-field-cells : goal.returns-then-field-cells
returns-then-field-cells c =
    record {
      result_value = sym
          (field_number_lem _ _ _ (sym c.in_ok-tests.ensures)
          (digits (goal.at.returns-then-field-cells c).Else-payload-lay)
          (λ z. c.if-field-cells.true (z ∙ sym (cells_given _ _ c.cells.ensures))));
      no_outside = λ e. cc;
      lengths_fit = λ z. absurd (omega arith);
    }

pub returns : goal.returns
returns c =
    let a = sym c.in_ok-tests.ensures in
    let cells = c.if-field-cells.false ∙ cells_given _ _ c.cells.ensures in
    record {
      result_value = sym (fit_number _ _ _ a (digits (goal.at.returns c).Else-payload-lay) cells);
      no_outside = λ e. cc;
      lengths_fit = λ z. record {
        laid = c.lay.ensures.laid;
        digits = digits (goal.at.returns c).Else-payload-lay ∙ plan_digits_lem _ a;
        cells = cells ∙ plan_cells_lem _ a;
      };
    }
