-- The answers: what a contract says of the number of each, of its figures, and of the bytes that are left.
use Rattle.std.specs.Prelude.{ℕ, List, ◌≡◌, Result, Ok, Err}
use Rattle.lattice.specs.declared.refusal.Refusal.{Refusal}
use Rattle.lattice.specs.declared.shape.Shape.{Shape}
use Rattle.lattice.specs.Refusal.{number_of, figure_of, NoOutside}
use Rattle.codec.specs.declared.plan.FieldPlan.{FieldPlan}
use Rattle.codec.specs.Plan.{plan_number, plan_classes, plan_capacity, plan_bytes, plan_cells, plan_used, plan_digits}
use Rattle.codec.specs.Encode.{encode_number, encode_leaves}
use Rattle.codec.specs.Decode.{decode_number, decode_count, decode_leaves}
use Rattle.codec.specs.Correct.{correct_number, correct_count, correct_leaves}

-- the figures of the plan's answer, each 0 beside a refusal
abbrev pub plan_figures : Result FieldPlan Refusal → FieldPlan
plan_figures (Ok p) = p
plan_figures (Err q) = record { classes = 0; capacity = 0; bytes = 0; cells = 0; used = 0; digits = 0 }

-- the number and the six figures, each 0 beside a refusal
pub record IsPlan (s : Shape) (r : Result FieldPlan Refusal) : Type 0 where
  pub number : number_of r ≡ plan_number s
  pub classes : (plan_figures r).classes ≡ plan_classes s
  pub capacity : (plan_figures r).capacity ≡ plan_capacity s
  pub bytes : (plan_figures r).bytes ≡ plan_bytes s
  pub cells : (plan_figures r).cells ≡ plan_cells s
  pub used : (plan_figures r).used ≡ plan_used s
  pub digits : (plan_figures r).digits ≡ plan_digits s

-- the number, and the bytes of the lent field at the end; of the two reasons with the number 4 it is the field's length, here and
-- below
pub record IsEncoded (s : Shape) (payload field last : List ℕ) (r : Result (Unit {0}) Refusal) : Type 0 where
  pub number : number_of r ≡ encode_number s payload field
  pub leaves : last ≡ encode_leaves s payload field
  pub reason : NoOutside r

-- the number, the count, 0 beside a refusal, and the bytes of the lent payload at the end
pub record IsDecoded (s : Shape) (payload field last : List ℕ) (r : Result ℕ Refusal) : Type 0 where
  pub number : number_of r ≡ decode_number s payload field
  pub count : figure_of r ≡ decode_count s payload field
  pub leaves : last ≡ decode_leaves s payload field
  pub reason : NoOutside r

-- the number, the count, 0 beside a refusal, and the bytes of the lent field at the end
pub record IsCorrected (s : Shape) (field last : List ℕ) (r : Result ℕ Refusal) : Type 0 where
  pub number : number_of r ≡ correct_number s field
  pub count : figure_of r ≡ correct_count s field
  pub leaves : last ≡ correct_leaves s field
  pub reason : NoOutside r
