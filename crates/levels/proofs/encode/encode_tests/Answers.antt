-- `encode_tests` meets its contract: the tests of the lengths, then that of the digits.
use mathlib.Core.Bool.{Bool}
use mathlib.Core.Path.{◌≡◌, refl, sym, ap, ◌∙◌}
use native.Mathlib.Omega.{arith}
use lib.ListN.{length}
use Rattle.lattice.specs.Refusal.{unless}
use Rattle.lattice.proofs.theory.Answers.{handed_on, some_number, earlier_told, none_earlier}
use Rattle.lattice.proofs.theory.Bools.{failed, passed}
use Rattle.codec.specs.Field.{field_of}
use Rattle.levels.specs.Level.{levels_ok}
use Rattle.levels.specs.Encode.{encode_levels_number}
use Rattle.levels.proofs.theory.LevelNumbers.{encode_tests}
use Rattle.levels.proofs.encode.encode_tests.Goals.{In_ok-length_tests}
use Rattle.levels.proofs.encode.encode_tests.Goals as goal

-- where the lengths are the plan's, the digits are left
left : (c : In_ok-length_tests)
    → let a = c.args in
    (b : Bool) → levels_ok (field_of a.payload.now) (length a.payload.now) ≡ b
    → unless b 12 0 ≡ encode_levels_number a.shape a.payload.now a.field.now
left c b e =
    ap (λ (d : Bool). unless d 12 0) (sym e)
    ∙ sym (none_earlier _ _ (sym c.in_ok-length_tests.ensures.result_value))
    ∙ encode_tests _ _ _

pub returns-in_err-length_tests : goal.returns-in_err-length_tests
returns-in_err-length_tests c =
    let why = c.in_err-length_tests.field-0.0 in
    let told = c.in_err-length_tests.ensures in
    rw (handed_on c.from_residual.ensures.1)
    (record {
      result_value = earlier_told why _ _ told.result_value ∙ encode_tests _ _ _;
      no_outside = told.no_outside;
      lengths_fit = λ z. absurd (some_number why z);
    })

pub returns-then-not-levels_ok : goal.returns-then-not-levels_ok
returns-then-not-levels_ok c =
    record {
      result_value = left (goal.at.returns-then-not-levels_ok c).In_ok-length_tests _
          (failed _ _ c.if-not-levels_ok.true c.levels_ok.ensures);
      no_outside = λ e. cc;
      lengths_fit = λ z. absurd (omega arith);
    }

pub returns : goal.returns
returns c =
    record {
      result_value = left (goal.at.returns c).In_ok-length_tests _ (passed _ _ c.if-not-levels_ok.false c.levels_ok.ensures);
      no_outside = λ e. cc;
      lengths_fit = λ z. c.in_ok-length_tests.ensures.lengths_fit refl;
    }
