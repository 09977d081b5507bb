-- `decode_tests` meets its contract: the tests of the lengths, then the field's own.
use mathlib.Core.Path.{refl, sym, ◌∙◌}
use Rattle.lattice.specs.declared.refusal.Refusal.TheVariants as why
use Rattle.lattice.proofs.theory.Answers.{handed_on, some_number, earlier_told, none_earlier, other_reason}
use Rattle.levels.proofs.theory.LevelNumbers.{decode_tests}
use Rattle.levels.proofs.theory.LevelTests.{number_other}
use Rattle.levels.proofs.decode.decode_tests.Goals as goal

pub returns-in_err-length_tests : goal.returns-in_err-length_tests
returns-in_err-length_tests c =
    let why = c.in_err-length_tests.field-0.0 in
    let told = c.in_err-length_tests.ensures in
    rw (handed_on c.from_residual.ensures.1)
    (record {
      result_value = earlier_told why _ _ told.result_value ∙ decode_tests _ _ _;
      no_outside = told.no_outside;
      levels_examined = λ z. absurd (some_number why z);
    })

pub returns : goal.returns
returns c =
    let told = c.in_ok-length_tests.ensures in
    let made = c.examine_levels.ensures in
    record {
      result_value = made.result_value ∙ sym (none_earlier _ _ (sym told.result_value)) ∙ decode_tests _ _ _;
      no_outside = other_reason made.result_value why.OutsideShape (number_other _ _);
      levels_examined = λ z. (made.levels_examined z, (told.lengths_fit refl).digits);
    }
