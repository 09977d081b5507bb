-- The plan's figures: at most the shape's, and of an accepted shape these; and the numbers of the operations on buffers of the
-- plan's lengths.
use Prim.Native.Nat.{ℕ, zero, suc, ◌/◌, ◌<◌, ◌≤◌}
use mathlib.Core.List.{List}
use mathlib.Core.Path.{◌≡◌, sym, ◌∙◌, ap}
use native.Mathlib.Nat.{le_refl}
use native.Mathlib.Omega.{arith}
use borrow.Author.Tests.{eq-eqb}
use lib.ListN.{length}
use Rattle.lattice.specs.declared.shape.Shape.{Shape}
use Rattle.lattice.specs.Refusal.{figure}
use Rattle.lattice.specs.Shape.{Accepted, cells_of}
use Rattle.lattice.specs.Cell.{cell_at}
use Rattle.lattice.specs.Class.{classes_of, class_at, layout_of}
use Rattle.lattice.specs.Used.{used_of}
use Rattle.lattice.specs.Digits.{digits_of}
use Rattle.lattice.proofs.theory.Answers.{beside_zero}
use Rattle.lattice.proofs.theory.ClassBelow.{class_below}
use Rattle.codec.specs.Payload.{payload_bytes}
use Rattle.codec.specs.Plan.{plan_number, plan_classes, plan_capacity, plan_bytes, plan_cells, plan_used, plan_digits}
use Rattle.codec.specs.Encode.{encode_number}
use Rattle.codec.specs.Decode.{decode_number, field_number}
use Rattle.codec.specs.Correct.{correct_number}
use Rattle.codec.specs.Field.{field_of}

-- a figure beside a number is at most itself
figure_most : (n x : ℕ) → figure n x ≤ x
figure_most zero x = le_refl x
figure_most (suc n) x = omega arith

-- and a larger one is not less beside the same number
pub figure_mono : {x y : ℕ} (n : ℕ) → x ≤ y → figure n x ≤ figure n y
figure_mono zero l = l
figure_mono (suc n) l = le_refl 0

pub plan_classes_most : (s : Shape) → plan_classes s ≤ classes_of s
unfolding plan_classes
plan_classes_most s = figure_most (plan_number s) (classes_of s)

module _ (s : Shape) (accepted : Accepted s) where
  -- the plan's figures are those of the shape
  pub plan_bytes_lem : plan_bytes s ≡ payload_bytes (layout_of s)
  unfolding plan_bytes plan_capacity payload_bytes
  plan_bytes_lem = ap (λ (k : ℕ). k / 8) (beside_zero (plan_number s) _ 0 accepted)

  pub plan_cells_lem : plan_cells s ≡ cells_of s
  unfolding plan_cells
  plan_cells_lem = beside_zero (plan_number s) (cells_of s) 0 accepted

  pub plan_classes_lem : plan_classes s ≡ classes_of s
  unfolding plan_classes
  plan_classes_lem = beside_zero (plan_number s) (classes_of s) 0 accepted

  pub plan_used_lem : plan_used s ≡ used_of s
  unfolding plan_used
  plan_used_lem = beside_zero (plan_number s) (used_of s) 0 accepted

  pub plan_digits_lem : plan_digits s ≡ digits_of s
  unfolding plan_digits
  plan_digits_lem = beside_zero (plan_number s) (digits_of s) 0 accepted

  -- every class is below the number of classes
  pub class_at_below : (i : ℕ) → i < cells_of s → class_at s i < classes_of s
  class_at_below i h = class_below s accepted (cell_at s i)

  -- on buffers of the plan's lengths only the field is left to refuse
  pub encode_number_lem : (payload field : List ℕ)
      → length payload ≡ plan_bytes s
      → length field ≡ cells_of s
      → encode_number s payload field ≡ 0
  unfolding encode_number
  encode_number_lem payload field hp hf =
      rw (accepted, eq-eqb (length payload) (plan_bytes s) hp, eq-eqb (length field) (plan_cells s) (hf ∙ sym plan_cells_lem))

  pub decode_number_lem : (payload field : List ℕ) → length payload ≡ plan_bytes s → length field ≡ cells_of s
      → decode_number s payload field ≡ field_number s (field_of field)
  unfolding decode_number
  decode_number_lem payload field hp hf =
      rw (accepted, eq-eqb (length payload) (plan_bytes s) hp, eq-eqb (length field) (plan_cells s) (hf ∙ sym plan_cells_lem))

  pub correct_number_lem : (field : List ℕ) → length field ≡ cells_of s → correct_number s field ≡ field_number s (field_of field)
  unfolding correct_number
  correct_number_lem field hf =
      rw (accepted, eq-eqb (length field) (plan_cells s) (hf ∙ sym plan_cells_lem))
