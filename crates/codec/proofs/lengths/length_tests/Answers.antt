-- `length_tests` meets its contract: the shape's tests, then the lengths.
use Prim.Native.Nat.{◌/◌}
use mathlib.Core.Path.{◌≡◌, sym, ◌∙◌}
use native.Mathlib.Omega.{arith}
use lib.ListN.{length}
use Rattle.lattice.specs.declared.refusal.Refusal.TheVariants as why
use Rattle.lattice.specs.Shape.{Accepted, cells_of}
use Rattle.lattice.specs.Class.{layout_of}
use Rattle.lattice.specs.Sizes.{HoldsSizes}
use Rattle.lattice.proofs.theory.Answers.{handed_on, some_number, other_reason}
use Rattle.lattice.proofs.theory.CapacityGiven.{classes_given}
use Rattle.lattice.proofs.theory.Limits.{number_other}
use Rattle.codec.specs.Plan.{plan_bytes}
use Rattle.codec.proofs.theory.Accepted.{plan_bytes_lem, plan_cells_lem}
use Rattle.codec.proofs.theory.OperationNumbers.{bytes_given, cells_given, length_refused, payload_number, field_number_lem}
use Rattle.codec.proofs.theory.OperationNumbers.{fit_number}
use Rattle.codec.proofs.lengths.length_tests.Goals.{After-class_sizes, After-data_in, Else-payload-data_in}
use Rattle.codec.proofs.lengths.length_tests.Goals as goal

-- what the sizes of the classes are taken for: an accepted shape
module _ (c : After-class_sizes) where
  accepted : Accepted c.args.shape
  accepted = sym c.in_ok-tests.ensures

  sized :
      let a = c.args in
      HoldsSizes (layout_of a.shape) c.class_sizes.new.sizes (cells_of a.shape)
  sized = c.class_sizes.ensures.holds_sizes accepted

planned : (c : After-data_in)
    → c.data_in.result / 8
    ≡ plan_bytes
    c.args.shape
planned c =
    let own = c.classes.ensures in
    bytes_given _ _ _ _ (sym c.in_ok-tests.ensures) (c.class_sizes.ensures.holds_sizes
    (sym c.in_ok-tests.ensures)) own (c.data_in.ensures (rw own (classes_given _)))

bytes : (c : Else-payload-data_in)
    → let a = c.args in
    length a.payload.now ≡ plan_bytes a.shape
bytes c = c.if-payload-data_in.false ∙ (let own = c.classes.ensures in bytes_given _ _ _ _ (sym c.in_ok-tests.ensures)
    (c.class_sizes.ensures.holds_sizes (sym c.in_ok-tests.ensures)) own
    (c.data_in.ensures (rw own (classes_given _))))

pub returns-in_err-tests : goal.returns-in_err-tests
returns-in_err-tests c =
    let e = c.in_err-tests.ensures in
    rw (handed_on c.from_residual.ensures.1)
    (record {
      result_value = length_refused _ _ _ c.in_err-tests.field-0.0 e;
      no_outside = λ z. other_reason e why.OutsideShape (number_other _) z;
      fits = λ z. absurd (some_number c.in_err-tests.field-0.0 z);
    })

pub returns-then-payload-data_in : goal.returns-then-payload-data_in
returns-then-payload-data_in c =
    record {
      result_value = sym (payload_number _ _ _ (accepted (goal.at.returns-then-payload-data_in c).After-class_sizes)
          (λ e. c.if-payload-data_in.true (e ∙ sym (planned (goal.at.returns-then-payload-data_in c).After-data_in))));
      no_outside = λ e. cc;
      fits = λ z. absurd (omega arith);
    }

pub returns-then-field-cells : goal.returns-then-field-cells
returns-then-field-cells c =
    record {
      result_value = sym
          (field_number_lem _ _ _ (accepted (goal.at.returns-then-field-cells c).After-class_sizes)
          (bytes (goal.at.returns-then-field-cells c).Else-payload-data_in)
          (λ z. c.if-field-cells.true (z ∙ sym (cells_given _ _ c.cells.ensures))));
      no_outside = λ e. cc;
      fits = λ z. absurd (omega arith);
    }

pub returns : goal.returns
returns c =
    let cells = c.if-field-cells.false ∙ cells_given _ _ c.cells.ensures in
    record {
      result_value = sym (fit_number _ _ _ (accepted (goal.at.returns c).After-class_sizes)
          (bytes (goal.at.returns c).Else-payload-data_in) cells);
      no_outside = λ e. cc;
      fits = λ z. record {
        of_payload = record {
          accepted = accepted (goal.at.returns c).After-class_sizes;
          long = bytes
              (goal.at.returns c).Else-payload-data_in ∙ plan_bytes_lem _ (accepted (goal.at.returns c).After-class_sizes);
          sized = sized (goal.at.returns c).After-class_sizes;
        };
        of_field = record {
          accepted = accepted (goal.at.returns c).After-class_sizes;
          long = cells
              ∙ plan_cells_lem _ (accepted (goal.at.returns c).After-class_sizes);
        };
      };
    }
