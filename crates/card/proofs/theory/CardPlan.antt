-- The plan of a card: how large its figures are.
use Prim.Native.Nat.{ℕ, zero, suc, ◌≤◌, zero-le}
use mathlib.Core.List.{List}
use mathlib.Core.Logic.{◌≢◌}
use mathlib.Core.Path.{◌≡◌, sym, ◌∙◌}
use lib.ListN.{length}
use Rattle.lattice.specs.declared.shape.Shape.{Shape}
use Rattle.lattice.specs.Shape.{max_classes, Accepted, cells_of}
use Rattle.lattice.specs.Class.{layout_of}
use Rattle.lattice.specs.Refusal.{beside, figure}
use Rattle.lattice.proofs.theory.Counting.{count_most}
use Rattle.lattice.proofs.theory.CapacityGiven.{classes_given}
use Rattle.lattice.proofs.theory.ClassBelow.{classes_stack_most}
use Rattle.codec.specs.Field.{field_of, differences}
use Rattle.codec.specs.Payload.{payload_bytes, held_payload}
use Rattle.codec.specs.Plan.{plan_classes, plan_bytes}
use Rattle.codec.specs.Decode.{corrected_field, corrected_count, decode_number, decode_count, decode_leaves}
use Rattle.codec.proofs.theory.Accepted.{plan_bytes_lem, plan_classes_lem}
use Rattle.codec.proofs.theory.FieldLists.{length_list_of}

-- no shape has more than 512 classes, and no accepted stack more than 92
pub classes_most : (s : Shape) → plan_classes s ≤ max_classes
unfolding plan_classes
classes_most s = classes_given s

-- no count is above the number of cells
pub count_cells : (s : Shape) (payload field : List ℕ) → decode_count s payload field ≤ cells_of s
unfolding decode_count corrected_count differences
count_cells s payload field =
    less (decode_number s payload field) (corrected_count s (field_of field)) (cells_of s) (count_most _ (cells_of s))
  where
    less : (number n m : ℕ) → n ≤ m → figure number n ≤ m
    less zero n m l = l
    less (suc number) n m l = zero-le

module _ (s : Shape) (accepted : Accepted s) where
  pub classes_stack : s.planes ≢ 1 → plan_classes s ≤ 92
  classes_stack stack =
      rw (plan_classes_lem s accepted) (classes_stack_most s accepted stack)

  -- decoding leaves as many bytes as the plan gives
  pub leaves_long : (payload field : List ℕ) → length payload ≡ plan_bytes s → length (decode_leaves s payload field)
      ≡ plan_bytes s
  unfolding decode_leaves held_payload
  leaves_long payload field long = go (decode_number s payload field)
    where
      go : (n : ℕ) → length (beside n (held_payload (layout_of s) (corrected_field s (field_of field))) payload) ≡ plan_bytes s
      go zero = length_list_of _ (payload_bytes (layout_of s)) ∙ sym (plan_bytes_lem s accepted)
      go (suc n) = long
