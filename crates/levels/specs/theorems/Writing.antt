-- Demand 2, writing: the field written is the one lawful field with the payload's digits.
use Rattle.std.specs.Prelude.{ℕ, List, ◌≡◌, length}
use Rattle.lattice.specs.declared.shape.Shape.{Shape}
use Rattle.lattice.specs.Counting.{count}
use Rattle.lattice.specs.Shape.{Accepted, cells_of}
use Rattle.lattice.specs.Class.{layout_of}
use Rattle.codec.specs.Field.{Field, field_of, Same}
use Rattle.codec.specs.Plan.{plan_digits}
use Rattle.levels.specs.Words.{LawfulLevels}
use Rattle.levels.specs.Payload.{holds_digit, CarriesDigits}
use Rattle.levels.specs.Encode.{Writable, encoded_levels_field, encode_levels_number, encode_levels_leaves}

-- Theorem (demand 2). For every shape that the plan accepts and every payload of its length, of digits 0 to 24: the field written
-- has the plan's cells, is lawful and has the payload's digits, and is the only such field; as many cells hold a digit as the
-- plan says; and two different payloads give two different fields.
pub record EncodeLevelsMeaning : Type 0 where
  pub long : (s : Shape) (p : List ℕ) → length (encoded_levels_field s p) ≡ cells_of s
  pub lawful : (s : Shape) (p : List ℕ) → Writable s p → LawfulLevels (layout_of s) (field_of (encoded_levels_field s p))
  pub carries : (s : Shape) (p : List ℕ) → Writable s p → CarriesDigits (layout_of s) (field_of (encoded_levels_field s p)) p
  pub only : (s : Shape) (p : List ℕ) → Writable s p
      → (f : Field) → LawfulLevels (layout_of s) f → CarriesDigits (layout_of s) f p
      → Same f (field_of (encoded_levels_field s p)) (cells_of s)
  pub digits : (s : Shape) → Accepted s → count (holds_digit (layout_of s)) (cells_of s) ≡ plan_digits s
  pub different : (s : Shape) (p q : List ℕ) → Writable s p → Writable s q
      → encoded_levels_field s p ≡ encoded_levels_field s q → p ≡ q

-- Theorem (demand 2). Writing that succeeds leaves the field written: where the number is 0 the payload can be written, the field
-- has the plan's cells, and what is left in the lent field is the field written from the payload; and it succeeds wherever this
-- is so.
pub record EncodeLevelsDone : Type 0 where
  pub done : (s : Shape) (p field : List ℕ) → encode_levels_number s p field ≡ 0
      → Writable s p × (length field ≡ cells_of s) × (encode_levels_leaves s p field ≡ encoded_levels_field s p)
  pub written : (s : Shape) (p field : List ℕ) → Writable s p → length field ≡ cells_of s → encode_levels_number s p field ≡ 0
