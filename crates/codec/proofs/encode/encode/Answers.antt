-- `encode` meets its contract: a refusal settles the answer, and else the field is written.
use mathlib.Core.Path.{◌≡◌, sym, ◌∙◌}
use Rattle.lattice.proofs.theory.Answers.{handed_on, refused, done}
use Rattle.codec.specs.Encode.{encode_number, encode_leaves}
use Rattle.codec.proofs.theory.OperationNumbers.{encode_tests}
use Rattle.codec.proofs.encode.encode.Goals.{In_ok-length_tests}
use Rattle.codec.proofs.encode.encode.Goals as goal

-- where the tests pass
none : (c : In_ok-length_tests)
    → let a = c.args in
    encode_number a.shape a.payload.now a.field.now ≡ 0
none c = encode_tests _ _ _ ∙ sym c.in_ok-length_tests.ensures.result_value

pub returns-in_err-length_tests : goal.returns-in_err-length_tests
unfolding encode_leaves
returns-in_err-length_tests c =
    let told = c.in_err-length_tests.ensures in
    let e = told.result_value ∙ sym (encode_tests _ _ _) in
    rw (handed_on c.from_residual.ensures.1)
    (record { number = e; leaves = refused c.in_err-length_tests.field-0.0 _ _ _ e; reason = told.no_outside })

pub returns : goal.returns
unfolding encode_leaves
returns c =
    let z = none (goal.at.returns c).In_ok-length_tests in
    record { number = sym z; leaves = done _ _ _ _ z c.write_field.ensures; reason = λ e. cc }
