-- Demand 1: each operation's number by its conditions in the listed order, and what a refusal changes.
use Rattle.std.specs.Prelude.{ℕ, List, ◌≢◌, ◌≡◌}
use Rattle.lattice.specs.declared.shape.Shape.{Shape}
use Rattle.lattice.specs.Refusal.{Settled}
use Rattle.lattice.specs.Shape.{shape_refusals}
use Rattle.codec.specs.Plan.{plan_number, plan_classes, plan_capacity, plan_bytes, plan_cells, plan_used, plan_digits}
use Rattle.codec.specs.Encode.{encode_number, encode_leaves}
use Rattle.codec.specs.Decode.{decode_number, decode_count, decode_leaves}
use Rattle.codec.specs.Correct.{correct_number, correct_count, correct_leaves}
use Rattle.codec.specs.Conditions.{encode_refusals, decode_refusals, correct_refusals}

-- Theorem (demand 1). The plan's number is settled by its conditions in the listed order: 1, 2, 11.
abbrev pub PlanRefused : Type 0
PlanRefused = (s : Shape) → Settled (shape_refusals s) (plan_number s)

-- Theorem (demand 1). Encoding's number is: 1, 2, 11, 3, 4.
abbrev pub EncodeRefused : Type 0
EncodeRefused =
    (s : Shape) (payload field : List ℕ) → Settled (encode_refusals s payload field) (encode_number s payload field)

-- Theorem (demand 1). Decoding's number is: 1, 2, 11, 3, 4, 5, 10, 6, 7.
abbrev pub DecodeRefused : Type 0
DecodeRefused =
    (s : Shape) (payload field : List ℕ) → Settled (decode_refusals s payload field) (decode_number s payload field)

-- Theorem (demand 1). Correcting's number is: 1, 2, 11, 4, 5, 10, 6, 7.
abbrev pub CorrectRefused : Type 0
CorrectRefused = (s : Shape) (field : List ℕ) → Settled (correct_refusals s field) (correct_number s field)

-- Theorem (demand 1). Beside any number but 0 every lent buffer keeps its bytes and every count and figure is 0.
pub record RefusalsChangeNothing : Type 0 where
  pub plan : (s : Shape) → plan_number s ≢ 0
      → (plan_classes s ≡ 0)
      × (plan_capacity s ≡ 0)
      × (plan_bytes s ≡ 0)
      × (plan_cells s ≡ 0)
      × (plan_used s ≡ 0)
      × (plan_digits s ≡ 0)
  pub encode : (s : Shape) (payload field : List ℕ) → encode_number s payload field ≢ 0 → encode_leaves s payload field ≡ field
  pub decode : (s : Shape) (payload field : List ℕ) → decode_number s payload field ≢ 0
      → (decode_leaves s payload field ≡ payload) × (decode_count s payload field ≡ 0)
  pub correct : (s : Shape) (field : List ℕ) → correct_number s field ≢ 0
      → (correct_leaves s field ≡ field) × (correct_count s field ≡ 0)
