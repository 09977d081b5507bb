-- `encode_levels` meets its contract: a refusal settles the answer, and else the field is written.
use mathlib.Core.Path.{refl, sym}
use Rattle.lattice.proofs.theory.Answers.{handed_on, refused, done}
use Rattle.levels.specs.Encode.{encode_levels_leaves}
use Rattle.levels.proofs.theory.HeldRemainders.{no_remainders}
use Rattle.levels.proofs.encode.encode_levels.Goals as goal

pub returns-in_err-encode_tests : goal.returns-in_err-encode_tests
unfolding encode_levels_leaves
returns-in_err-encode_tests c =
    let told = c.in_err-encode_tests.ensures in
    let e = told.result_value in
    rw (handed_on c.from_residual.ensures.1)
    (record { number = e; leaves = refused c.in_err-encode_tests.field-0.0 _ _ _ e; reason = told.no_outside })

pub digit_remainders-requires : goal.digit_remainders-requires
digit_remainders-requires c =
    record { laid = (c.in_ok-encode_tests.ensures.lengths_fit refl).laid; by_index = no_remainders }

pub returns : goal.returns
unfolding encode_levels_leaves
returns c =
    let z = sym c.in_ok-encode_tests.ensures.result_value in
    record { number = sym z; leaves = done _ _ _ _ z c.store_encoded.ensures; reason = λ e. cc }
