-- Demand 1: the terms of the theorems.
use Prim.Native.Nat.{ℕ}
use native.Mathlib.Nat.{zero-div}
use lib.ListN.{length}
use Rattle.lattice.specs.Shape.{shape_refusals}
use Rattle.lattice.proofs.theory.Answers.{beside_other}
use Rattle.lattice.proofs.theory.Due.{due_none, due_test, due_append, due_settled}
use Rattle.lattice.proofs.theory.RefusalTests.{shape_due}
use Rattle.lattice.proofs.theorems.Refused.{shape_refused}
use Rattle.codec.specs.Plan.{plan_number, plan_classes, plan_capacity, plan_bytes, plan_cells, plan_used, plan_digits}
use Rattle.codec.specs.Decode.{decode_number, decode_count, decode_leaves}
use Rattle.codec.specs.Conditions.{encode_refusals, decode_refusals, correct_refusals}
use Rattle.codec.specs.Encode.{encode_number, encode_leaves}
use Rattle.codec.specs.Correct.{correct_number, correct_count, correct_leaves}
use Rattle.codec.specs.theorems.Refused.{PlanRefused, EncodeRefused, DecodeRefused, CorrectRefused, RefusalsChangeNothing}
use Rattle.codec.proofs.theory.FieldTests.{equal_decides, field_due}

-- Theorem. The plan's number is settled by its conditions in the listed order: 1, 2, 11.
pub plan_refused : PlanRefused
plan_refused = shape_refused

-- Theorem. Encoding's number is settled by its conditions in the listed order: 1, 2, 11, 3, 4.
pub encode_refused : EncodeRefused
unfolding encode_number
encode_refused s payload field =
    due_settled (encode_refusals s payload field) _
    (due_append (shape_refusals s) _ _ _ (shape_due s)
    (λ _. due_test 2 _ (equal_decides (length payload) (plan_bytes s))
    (λ _. due_test 3 _ (equal_decides (length field) (plan_cells s)) (λ _. due_none))))

-- Theorem. Decoding's number is settled by its conditions in the listed order: 1, 2, 11, 3, 4, 5, 10, 6, 7.
pub decode_refused : DecodeRefused
unfolding decode_number
decode_refused s payload field =
    due_settled (decode_refusals s payload field) _
    (due_append (shape_refusals s) _ _ _ (shape_due s)
    (λ a. due_test 2 _ (equal_decides (length payload) (plan_bytes s)) (λ _. field_due s field a)))

-- Theorem. Correcting's number is settled by its conditions in the listed order: 1, 2, 11, 4, 5, 10, 6, 7.
pub correct_refused : CorrectRefused
unfolding correct_number
correct_refused s field =
    due_settled (correct_refusals s field) _ (due_append (shape_refusals s) _ _ _ (shape_due s) (field_due s field))

-- Theorem. Beside any number but 0 every lent buffer keeps its bytes and every count and figure is 0.
pub refusals_change_nothing : RefusalsChangeNothing
unfolding
    plan_classes plan_capacity plan_bytes plan_cells plan_used plan_digits
    encode_leaves decode_leaves decode_count correct_leaves correct_count
refusals_change_nothing =
    record {
      plan = λ s other. (
        beside_other {A = ℕ} (plan_number s) _ 0 other,
        beside_other {A = ℕ} (plan_number s) _ 0 other,
        rw (beside_other {A = ℕ} (plan_number s) _ 0 other) (zero-div 8),
        beside_other {A = ℕ} (plan_number s) _ 0 other,
        beside_other {A = ℕ} (plan_number s) _ 0 other,
        beside_other {A = ℕ} (plan_number s) _ 0 other,
      );
      encode = λ s payload field other. beside_other (encode_number s payload field) _ _ other;
      decode = λ s payload field other. (
        beside_other (decode_number s payload field) _ _ other,
        beside_other (decode_number s payload field) _ _ other,
      );
      correct = λ s field other. (
        beside_other (correct_number s field) _ _ other,
        beside_other (correct_number s field) _ _ other,
      );
    }
