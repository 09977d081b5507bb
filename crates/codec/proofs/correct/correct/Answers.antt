-- `correct` meets its contract: a refusal settles the answer, and else the corrected field is stored.
use mathlib.Core.Path.{refl, sym}
use Rattle.lattice.proofs.theory.Answers.{handed_on, refused, done}
use Rattle.codec.specs.Correct.{correct_count, correct_leaves}
use Rattle.codec.proofs.theory.OperationNumbers.{correct_taken}
use Rattle.codec.proofs.theory.WorkArrays.{nones}
use Rattle.codec.proofs.correct.correct.Goals as goal

pub correct_tests-requires : goal.correct_tests-requires
correct_tests-requires c = (nones, nones)

pub returns-in_err-erased : goal.returns-in_err-erased
unfolding correct_count correct_leaves
returns-in_err-erased c =
    let why = c.in_err-erased.field-0.0 in
    let told = c.in_err-erased.ensures in
    let e = told.result_value in
    rw (handed_on c.from_residual.ensures.1)
    (record { number = e; count = refused why _ _ _ e; leaves = refused why _ _ _ e; reason = told.no_outside })

pub store_corrected-requires : goal.store_corrected-requires
store_corrected-requires c =
    let told = c.in_ok-erased.ensures in
    let sound = told.sound refl in
    record {
      readable = correct_taken _ _ (sym told.result_value);
      erased_value = sound.erased_cells;
      located = sound.located;
    }

pub returns : goal.returns
unfolding correct_count correct_leaves
returns c =
    let z = sym c.in_ok-erased.ensures.result_value in
    let made = c.store_corrected.ensures in
    record {
      number = sym z;
      count = done _ _ _ _ z made.value;
      leaves = done _ _ _ _ z made.field_after;
      reason = λ e. cc;
    }
