-- Demand 1 for fields of levels: the terms of the theorems.
use Prim.Native.Nat.{ℕ}
use mathlib.Core.List.{List}
use mathlib.Core.Path.{◌≡◌, refl, ◌∙◌}
use native.Mathlib.Nat.{not-le_of_lt}
use native.Mathlib.Omega.{arith}
use borrow.Author.Tests.{eqb-true}
use lib.Dec.{eqb}
use lib.ListN.{length}
use Rattle.lattice.specs.declared.shape.Shape.{Shape}
use Rattle.lattice.specs.Refusal.{unless}
use Rattle.lattice.specs.Shape.{shape_refusals, Accepted, cells_of}
use Rattle.lattice.specs.Class.{layout_of}
use Rattle.lattice.proofs.theory.Answers.{beside_other}
use Rattle.lattice.proofs.theory.Due.{Decides, Due, due_none, due_test, due_append, due_settled}
use Rattle.lattice.proofs.theory.RefusalTests.{shape_due}
use Rattle.codec.specs.Field.{Field, field_of}
use Rattle.codec.specs.Plan.{plan_cells, plan_digits}
use Rattle.codec.proofs.theory.Accepted.{plan_cells_lem}
use Rattle.codec.proofs.theory.FieldTests.{equal_decides}
use Rattle.levels.specs.Level.{levels_ok}
use Rattle.levels.specs.Restored.{levels_in_reach}
use Rattle.levels.specs.Encode.{encode_levels_number, encode_levels_leaves}
use Rattle.levels.specs.Decode.{levels_number, decode_levels_number, decode_levels_count, decode_levels_leaves}
use Rattle.levels.specs.Correct.{correct_levels_number, correct_levels_count, correct_levels_leaves}
use Rattle.levels.specs.Reach.{NoWordInReach}
use Rattle.levels.specs.Conditions.{AboveLevel, levels_refusals, encode_levels_refusals, decode_levels_refusals}
use Rattle.levels.specs.Conditions.{correct_levels_refusals}
use Rattle.levels.specs.theorems.Refused.{EncodeLevelsRefused, DecodeLevelsRefused, CorrectLevelsRefused}
use Rattle.levels.specs.theorems.Refused.{LevelsRefusalsChangeNothing}
use Rattle.levels.proofs.theory.LevelTests.{ok_levels, not_levels}
use Rattle.levels.proofs.theory.WordReach.{none_in_reach, in_reach_all}

-- the test of the levels decides that one is above 24
levels_decide : (bytes : List ℕ) (n : ℕ) → length bytes ≡ n → Decides (levels_ok (field_of bytes) n) (AboveLevel bytes)
levels_decide bytes n e =
    record {
      fails = λ z. let found = not_levels (field_of bytes) n z in (found.0, omega (arith, found.1), found.2);
      passes = λ z above. not-le_of_lt above.2 (ok_levels (field_of bytes) n z above.0 (omega (arith, above.1)));
    }

-- the test of the changes decides that some word comes from no lawful one
reach_decides : (s : Shape) (f : Field) → Decides (levels_in_reach (layout_of s) f) (NoWordInReach s f)
reach_decides s f =
    record {
      fails = none_in_reach (layout_of s) f;
      passes = λ z none. none.1 (in_reach_all (layout_of s) f z none.0);
    }

-- the field's own, behind an accepted shape
field_due : (s : Shape) (field : List ℕ) → Accepted s
    → Due (levels_refusals s field) (unless (eqb (length field) (plan_cells s)) 4 (levels_number s (field_of field)))
unfolding levels_number
field_due s field a =
    due_test 3 (eqb (length field) (plan_cells s)) (equal_decides (length field) (plan_cells s))
    (λ e. due_test 11 (levels_ok (field_of field) (cells_of s)) (levels_decide field (cells_of s) (eqb-true _ _ e
    ∙ plan_cells_lem s a))
    (λ _. due_test 5 (levels_in_reach (layout_of s) (field_of field)) (reach_decides s (field_of field)) (λ _. due_none)))

-- Theorem. Encoding's number is settled by its conditions in the listed order: 1, 2, 11, 3, 4, 12.
pub encode_levels_refused : EncodeLevelsRefused
unfolding encode_levels_number
encode_levels_refused s payload field =
    due_settled (encode_levels_refusals s payload field) _
    (due_append (shape_refusals s) _ _ _ (shape_due s)
    (λ _. due_test 2 _ (equal_decides (length payload) (plan_digits s))
    (λ _. due_test 3 _ (equal_decides (length field) (plan_cells s))
    (λ _. due_test 11 _ (levels_decide payload (length payload) refl) (λ _. due_none)))))

-- Theorem. Decoding's number is: 1, 2, 11, 3, 4, 12, 6.
pub decode_levels_refused : DecodeLevelsRefused
unfolding decode_levels_number
decode_levels_refused s payload field =
    due_settled (decode_levels_refusals s payload field) _
    (due_append (shape_refusals s) _ _ _ (shape_due s)
    (λ a. due_test 2 _ (equal_decides (length payload) (plan_digits s)) (λ _. field_due s field a)))

-- Theorem. Correcting's number is: 1, 2, 11, 4, 12, 6.
pub correct_levels_refused : CorrectLevelsRefused
unfolding correct_levels_number
correct_levels_refused s field =
    due_settled (correct_levels_refusals s field) _ (due_append (shape_refusals s) _ _ _ (shape_due s) (field_due s field))

-- Theorem. Beside any number but 0 every lent buffer keeps its bytes and every count is 0.
pub levels_refusals_change_nothing : LevelsRefusalsChangeNothing
unfolding encode_levels_leaves decode_levels_leaves decode_levels_count correct_levels_leaves correct_levels_count
levels_refusals_change_nothing =
    record {
      encode = λ s payload field other. beside_other (encode_levels_number s payload field) _ _ other;
      decode = λ s payload field other. (
        beside_other (decode_levels_number s payload field) _ _ other,
        beside_other (decode_levels_number s payload field) _ _ other,
      );
      correct = λ s field other. (
        beside_other (correct_levels_number s field) _ _ other,
        beside_other (correct_levels_number s field) _ _ other,
      );
    }
