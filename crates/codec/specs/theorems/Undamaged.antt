-- The theorem on a field that is not damaged.
use Rattle.std.specs.Prelude.{ℕ, List, ◌≡◌, length}
use Rattle.lattice.specs.declared.shape.Shape.{Shape}
use Rattle.lattice.specs.Shape.{Accepted}
use Rattle.codec.specs.Field.{Field, differences}
use Rattle.codec.specs.Payload.{Bytes}
use Rattle.codec.specs.Plan.{plan_bytes}
use Rattle.codec.specs.Encode.{WrittenFrom}
use Rattle.codec.specs.Decode.{decode_number, decode_leaves}
use Rattle.codec.specs.Correct.{correct_number, correct_leaves}
use Rattle.codec.specs.Damage.{Recovered}

-- Theorem. A field that is not damaged comes back as it is, and no cell differs from itself: one that was written, be it with the
-- padding of now or of before, and its payload; and one that was corrected, and the payload that is read from what it was.
pub record NothingToCorrect : Type 0 where
  pub written : (s : Shape) → Accepted s → (p F : List ℕ) → length p ≡ plan_bytes s → Bytes p → WrittenFrom s p F
      → (buffer : List ℕ) → length buffer ≡ plan_bytes s → Recovered s p F F buffer
  pub corrected : (s : Shape) (field : List ℕ)
      → correct_number s field ≡ 0
      → (buffer : List ℕ)
      → length buffer ≡ plan_bytes s
      → (decode_number s buffer field ≡ 0)
      × Recovered s (decode_leaves s buffer field) (correct_leaves s field) (correct_leaves s field) buffer
  pub count : (f : Field) (n : ℕ) → differences f f n ≡ 0
