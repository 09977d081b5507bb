-- Demand 1: each operation's number is settled by its conditions in the listed order, and a refusal changes nothing.
use Prim.Native.Nat.{ℕ}
use mathlib.Core.Bool.{true, true≢false}
use mathlib.Core.List.{List}
use mathlib.Core.Logic.{◌≢◌}
use mathlib.Core.Path.{◌≡◌, sym, ◌∙◌}
use native.Mathlib.Omega.{arith}
use borrow.Author.Tests.{eqb-true, eqb-false}
use lib.Dec.{eqb}
use lib.ListN.{length}
use Rattle.lattice.specs.declared.shape.Shape.{Shape}
use Rattle.lattice.specs.Refusal.{unless}
use Rattle.lattice.specs.Shape.{Accepted, cells_of}
use Rattle.lattice.specs.Class.{classes_of, layout_of}
use Rattle.lattice.proofs.theory.Due.{Decides, Due, due_none, due_test}
use Rattle.codec.specs.Field.{Field, field_of, Received, cells_ok}
use Rattle.codec.specs.Hamming.{Tells}
use Rattle.codec.specs.Erasure.{FewErasures}
use Rattle.codec.specs.Payload.{padding_ok}
use Rattle.codec.specs.Plan.{plan_cells}
use Rattle.codec.specs.Decode.{corrected_field, field_number}
use Rattle.codec.specs.Conditions.{NotACell, ManyErasures, NoneInReach, field_refusals}
use Rattle.codec.specs.Reach.{WrongInReach}
use Rattle.codec.specs.Code.{tags_at, field_few_erasures, field_in_reach}
use Rattle.codec.proofs.theory.Accepted.{class_at_below, plan_cells_lem}
use Rattle.codec.proofs.theory.FieldLists.{ok_received, not_received}
use Rattle.codec.proofs.theory.NearestField.{nearest_corrected}
use Rattle.codec.proofs.theory.Reach.{all_few, many_erasures, some_reach, none_in_reach, reach_nearest}
use Rattle.codec.proofs.theory.PaddingCells.{ok_padding, not_padding, padding_right_same}
use Rattle.codec.proofs.theory.Tags.{tags_tell}

-- a test of two lengths decides that they differ
pub equal_decides : (a b : ℕ) → Decides (eqb a b) (a ≢ b)
equal_decides a b = record { fails = eqb-false a b; passes = λ e other. other (eqb-true a b e) }

-- the test of the cells of a field of the plan's length
cells_decide : (s : Shape) (field : List ℕ) → length field ≡ cells_of s
    → Decides (cells_ok (field_of field) (cells_of s)) (NotACell (field_of field) (length field))
cells_decide s field long =
    record {
      fails = λ e. let found = not_received (field_of field) (cells_of s) e in (found.0, omega (arith, found.1), found.2);
      passes = λ e none.
          true≢false (sym (ok_received (field_of field) (cells_of s) e none.0 (omega (arith, none.1))) ∙ none.2);
    }

-- the tests of a field of cells and erasures
module _ (s : Shape) (accepted : Accepted s) (f : Field) where
  pub few_decides : Decides (field_few_erasures s f) (ManyErasures s f)
  few_decides =
      record {
        fails = many_erasures (layout_of s) (tags_at s) (classes_of s) (class_at_below s accepted) f;
        passes = λ e many.
            let few = all_few (layout_of s) (tags_at s) (classes_of s) (class_at_below s accepted) f e many.0 in
            omega (arith, few, many.1);
      }

  module _ (received : Received f (cells_of s)) (few : FewErasures (layout_of s) f) where
    pub reach_decides : Decides (field_in_reach s f) (NoneInReach s f)
    reach_decides =
        record {
          fails = none_in_reach (layout_of s) (tags_at s) (classes_of s) (class_at_below s accepted) f tells received few;
          passes = λ e none.
              let some = some_reach (layout_of s) (tags_at s) (classes_of s) (class_at_below s accepted) f tells received e in
              let near = some none.0 in
              none.1 near.0 near.1 near.2 near.3;
        }
      where
        tells : Tells (layout_of s) (tags_at s)
        tells = tags_tell (layout_of s)

    pub padding_decides : field_in_reach s f ≡ true → Decides (padding_ok (layout_of s) (corrected_field s f)) (WrongInReach s f)
    padding_decides reach =
        record {
          fails = λ e. (
            corrected_field s f,
            reach_nearest (layout_of s) (tags_at s) (classes_of s) (class_at_below s accepted) f (tags_tell (layout_of s))
                received
                reach,
            not_padding (layout_of s) (corrected_field s f) e,
          );
          passes = λ e wrong.
              wrong.2
              (padding_right_same (layout_of s) (corrected_field s f) wrong.0
              (nearest_corrected (tags_tell (layout_of s)) f received few wrong.0 wrong.1)
              (ok_padding (layout_of s) (corrected_field s f) e));
        }

-- what the test of the erasures tells
pub tested_few : (s : Shape) → Accepted s → (f : Field) → field_few_erasures s f ≡ true → FewErasures (layout_of s) f
tested_few s accepted f = all_few (layout_of s) (tags_at s) (classes_of s) (class_at_below s accepted) f

-- the number that is due to a field, from its length on
pub field_due : (s : Shape) (field : List ℕ) → Accepted s
    → Due (field_refusals s field) (unless (eqb (length field) (plan_cells s)) 4 (field_number s (field_of field)))
unfolding field_number
field_due s field a =
    let f = field_of field in
    due_test 3 _ (equal_decides (length field) (plan_cells s))
    (λ right.
    let long = eqb-true (length field) (plan_cells s) right ∙ plan_cells_lem s a in
    due_test 4 _ (cells_decide s field long)
    (λ ok.
    let received = ok_received f (cells_of s) ok in
    due_test 9 _ (few_decides s a f)
    (λ few.
    due_test 5 _ (reach_decides s a f received (tested_few s a f few))
    (λ reach. due_test 6 _ (padding_decides s a f received (tested_few s a f few) reach) (λ _. due_none)))))
