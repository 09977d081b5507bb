-- What the contracts of the operations on levels say of their answers, which are those of coding.
use Rattle.std.specs.Prelude.{ℕ, List, ◌≡◌, Result}
use Rattle.lattice.specs.declared.refusal.Refusal.{Refusal}
use Rattle.lattice.specs.declared.shape.Shape.{Shape}
use Rattle.lattice.specs.Refusal.{number_of, figure_of, NoOutside}
use Rattle.levels.specs.Encode.{encode_levels_number, encode_levels_leaves}
use Rattle.levels.specs.Decode.{decode_levels_number, decode_levels_count, decode_levels_leaves}
use Rattle.levels.specs.Correct.{correct_levels_number, correct_levels_count, correct_levels_leaves}

-- the number, and the bytes of the lent field at the end; of the two reasons with the number 4 it is the field's length, here and
-- below
pub record IsEncodedLevels (s : Shape) (payload field last : List ℕ) (r : Result (Unit {0}) Refusal) : Type 0 where
  pub number : number_of r ≡ encode_levels_number s payload field
  pub leaves : last ≡ encode_levels_leaves s payload field
  pub reason : NoOutside r

-- the number, the count, 0 beside a refusal, and the bytes of the lent payload at the end
pub record IsDecodedLevels (s : Shape) (payload field last : List ℕ) (r : Result ℕ Refusal) : Type 0 where
  pub number : number_of r ≡ decode_levels_number s payload field
  pub count : figure_of r ≡ decode_levels_count s payload field
  pub leaves : last ≡ decode_levels_leaves s payload field
  pub reason : NoOutside r

-- the number, the count, 0 beside a refusal, and the bytes of the lent field at the end
pub record IsCorrectedLevels (s : Shape) (field last : List ℕ) (r : Result ℕ Refusal) : Type 0 where
  pub number : number_of r ≡ correct_levels_number s field
  pub count : figure_of r ≡ correct_levels_count s field
  pub leaves : last ≡ correct_levels_leaves s field
  pub reason : NoOutside r
