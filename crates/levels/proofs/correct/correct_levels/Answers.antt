-- `correct_levels` meets its contract: a refusal settles the answer, and else the corrected field is stored.
use mathlib.Core.Path.{sym}
use Rattle.lattice.proofs.theory.Answers.{handed_on, kept_reason, refused, done}
use Rattle.levels.specs.Correct.{correct_levels_count, correct_levels_leaves}
use Rattle.levels.proofs.theory.HeldRemainders.{no_remainders}
use Rattle.levels.proofs.correct.correct_levels.Goals as goal

pub correct_tests-requires : goal.correct_tests-requires
correct_tests-requires c = no_remainders

pub returns-in_err-correct_tests : goal.returns-in_err-correct_tests
unfolding correct_levels_count correct_levels_leaves
returns-in_err-correct_tests c =
    let why = c.in_err-correct_tests.field-0.0 in
    let told = c.in_err-correct_tests.ensures in
    let e = told.result_value in
    rw (handed_on c.from_residual.ensures.1)
    (record { number = e; count = refused why _ _ _ e; leaves = refused why _ _ _ e; reason = kept_reason told.no_outside })

pub returns : goal.returns
unfolding correct_levels_count correct_levels_leaves
returns c =
    let z = sym c.in_ok-correct_tests.ensures.result_value in
    let made = c.store_corrected.ensures in
    record {
      number = sym z;
      count = done _ _ _ _ z made.value;
      leaves = done _ _ _ _ z made.field_after;
      reason = λ e. cc;
    }
