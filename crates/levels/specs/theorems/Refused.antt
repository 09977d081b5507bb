-- Demand 1 for fields of levels: each operation's number by its conditions in the listed order, and what a refusal changes.
use Rattle.std.specs.Prelude.{ℕ, List, ◌≢◌, ◌≡◌}
use Rattle.lattice.specs.declared.shape.Shape.{Shape}
use Rattle.lattice.specs.Refusal.{Settled}
use Rattle.levels.specs.Encode.{encode_levels_number, encode_levels_leaves}
use Rattle.levels.specs.Decode.{decode_levels_number, decode_levels_count, decode_levels_leaves}
use Rattle.levels.specs.Correct.{correct_levels_number, correct_levels_count, correct_levels_leaves}
use Rattle.levels.specs.Conditions.{encode_levels_refusals, decode_levels_refusals, correct_levels_refusals}

-- Theorem (demand 1). Encoding's number is settled by its conditions in the listed order: 1, 2, 11, 3, 4, 12.
abbrev pub EncodeLevelsRefused : Type 0
EncodeLevelsRefused =
    (s : Shape) (payload field : List ℕ)
    → Settled (encode_levels_refusals s payload field) (encode_levels_number s payload field)

-- Theorem (demand 1). Decoding's number is: 1, 2, 11, 3, 4, 12, 6.
abbrev pub DecodeLevelsRefused : Type 0
DecodeLevelsRefused =
    (s : Shape) (payload field : List ℕ)
    → Settled (decode_levels_refusals s payload field) (decode_levels_number s payload field)

-- Theorem (demand 1). Correcting's number is: 1, 2, 11, 4, 12, 6.
abbrev pub CorrectLevelsRefused : Type 0
CorrectLevelsRefused = (s : Shape) (field : List ℕ) → Settled (correct_levels_refusals s field) (correct_levels_number s field)

-- Theorem (demand 1). Beside any number but 0 every lent buffer keeps its bytes and every count is 0.
pub record LevelsRefusalsChangeNothing : Type 0 where
  pub encode : (s : Shape) (payload field : List ℕ) → encode_levels_number s payload field ≢ 0
      → encode_levels_leaves s payload field ≡ field
  pub decode : (s : Shape) (payload field : List ℕ) → decode_levels_number s payload field ≢ 0
      → (decode_levels_leaves s payload field ≡ payload) × (decode_levels_count s payload field ≡ 0)
  pub correct : (s : Shape) (field : List ℕ) → correct_levels_number s field ≢ 0
      → (correct_levels_leaves s field ≡ field) × (correct_levels_count s field ≡ 0)
