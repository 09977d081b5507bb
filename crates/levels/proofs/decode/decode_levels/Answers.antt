-- `decode_levels` meets its contract: a refusal settles the answer, and else the digits are stored.
use mathlib.Core.Path.{sym}
use Rattle.lattice.proofs.theory.Answers.{handed_on, kept_reason, refused, done}
use Rattle.levels.specs.Decode.{decode_levels_count, decode_levels_leaves}
use Rattle.levels.proofs.theory.HeldRemainders.{no_remainders}
use Rattle.levels.proofs.decode.decode_levels.Goals as goal

pub decode_tests-requires : goal.decode_tests-requires
decode_tests-requires c = no_remainders

pub returns-in_err-decode_tests : goal.returns-in_err-decode_tests
unfolding decode_levels_count decode_levels_leaves
returns-in_err-decode_tests c =
    let why = c.in_err-decode_tests.field-0.0 in
    let told = c.in_err-decode_tests.ensures in
    let e = told.result_value in
    rw (handed_on c.from_residual.ensures.1)
    (record { number = e; count = refused why _ _ _ e; leaves = refused why _ _ _ e; reason = kept_reason told.no_outside })

pub returns : goal.returns
unfolding decode_levels_count decode_levels_leaves
returns c =
    let z = sym c.in_ok-decode_tests.ensures.result_value in
    let made = c.store_digits.ensures in
    record {
      number = sym z;
      count = done _ _ _ _ z made.value;
      leaves = done _ _ _ _ z made.payload_after;
      reason = λ e. cc;
    }
