-- `decode_tests` meets its contract: the tests of the lengths, then the field's own.
use mathlib.Core.Path.{refl, sym, ◌∙◌}
use Rattle.lattice.proofs.theory.Answers.{handed_on, kept_reason, some_number, earlier_told, none_earlier}
use Rattle.codec.proofs.theory.FieldNumber.{field_inside}
use Rattle.codec.proofs.theory.OperationNumbers.{decode_tests}
use Rattle.codec.proofs.decode.decode_tests.Goals as goal

pub returns-in_err-length_tests : goal.returns-in_err-length_tests
returns-in_err-length_tests c =
    let told = c.in_err-length_tests.ensures in
    rw (handed_on c.from_residual.ensures.1)
    (record {
      result_value = earlier_told c.in_err-length_tests.field-0.0 _ _ told.result_value ∙ decode_tests _ _ _;
      no_outside = kept_reason told.no_outside;
      holds_sizes = λ z. absurd (some_number c.in_err-length_tests.field-0.0 z);
    })

pub returns : goal.returns
returns c =
    let told = c.in_ok-length_tests.ensures in
    record {
      result_value = c.examine.ensures.result_value ∙ sym (none_earlier _ _ (sym told.result_value)) ∙ decode_tests _ _ _;
      no_outside = field_inside _ _ c.examine.ensures.result_value;
      holds_sizes = λ z. ((told.fits refl).of_payload.sized, c.examine.ensures.sound z);
    }
