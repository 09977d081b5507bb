-- `decode` meets its contract: a refusal settles the answer, and else the payload is stored.
use Prim.Native.Nat.{ℕ, ◌+◌}
use mathlib.Core.Path.{refl, sym, ap, ◌∙◌}
use native.Mathlib.Omega.{arith}
use Rattle.lattice.specs.Class.{classes_of}
use Rattle.lattice.specs.Counting.{count}
use Rattle.lattice.specs.Shape.{cells_of}
use Rattle.lattice.proofs.theory.Answers.{handed_on, refused, done}
use Rattle.lattice.proofs.theory.Counting.{count_most}
use Rattle.lattice.proofs.theory.Limits.{legal}
use Rattle.codec.specs.Field.{field_of}
use Rattle.codec.specs.Erasure.{is_erased}
use Rattle.codec.specs.Decode.{decode_count, decode_leaves}
use Rattle.codec.specs.Working.{names}
use Rattle.codec.proofs.theory.OperationNumbers.{decode_taken}
use Rattle.codec.proofs.theory.WorkArrays.{nones}
use Rattle.codec.proofs.decode.decode.Goals as goal

pub decode_tests-requires : goal.decode_tests-requires
decode_tests-requires c = (nones, nones)

pub returns-in_err-erased : goal.returns-in_err-erased
unfolding decode_count decode_leaves
returns-in_err-erased c =
    let why = c.in_err-erased.field-0.0 in
    let told = c.in_err-erased.ensures in
    let e = told.result_value in
    rw (handed_on c.from_residual.ensures.1)
    (record { number = e; count = refused why _ _ _ e; leaves = refused why _ _ _ e; reason = told.no_outside })

pub store_payload-requires : goal.store_payload-requires
store_payload-requires c =
    let told = c.in_ok-erased.ensures in
    let made = told.holds_sizes refl in
    let taken = decode_taken _ _ _ (sym told.result_value) in
    record { readable = taken.0; holds_sizes = made.0; located = made.1.located; payload_len = taken.1 }

pub count_changed-requires : goal.count_changed-requires
count_changed-requires c =
    let a = c.args in
    let told = c.in_ok-erased.ensures in
    let ok = (decode_taken _ _ _ (sym told.result_value)).0.accepted in (
      ok,
      omega (
        arith,
        (told.holds_sizes refl).1.erased_cells,
        count_most (is_erased (field_of a.field.now)) (cells_of a.shape),
        (legal a.shape ok).product,
      ),
    )

pub returns : goal.returns
unfolding decode_count decode_leaves
returns c =
    let told = c.in_ok-erased.ensures in
    let z = sym told.result_value in
    let sound = (told.holds_sizes refl).1 in
    let named : ℕ = count (names c.decode_tests.new.damaged) (classes_of c.args.shape) in
    record {
      number = sym z;
      count =
          done _ _ _ _ z
          (c.count_changed.ensures ∙ ap (λ (n : ℕ). named + n) sound.erased_cells ∙ sound.located.counted);
      leaves = done _ _ _ _ z c.store_payload.ensures;
      reason = λ e. cc;
    }
