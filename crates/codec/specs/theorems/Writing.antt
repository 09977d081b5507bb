-- Demand 2, writing: the field written is the one lawful field with the payload's bits and the padding, and the field that was
-- written before the one with zeros.
use Rattle.std.specs.Prelude.{ℕ, List, ◌≡◌, length}
use Rattle.lattice.specs.declared.shape.Shape.{Shape}
use Rattle.lattice.specs.Shape.{Accepted, cells_of}
use Rattle.lattice.specs.Class.{layout_of}
use Rattle.codec.specs.Field.{Field, field_of, Same}
use Rattle.codec.specs.Payload.{Bytes, padding, earlier_padding, Carries, PaddedWith}
use Rattle.codec.specs.Code.{LawfulField}
use Rattle.codec.specs.Plan.{plan_bytes}
use Rattle.codec.specs.Encode.{encoded_field, earlier_field, WrittenFrom, encode_number, encode_leaves}

-- the fields of payloads with a padding: for every shape that the plan accepts and every payload of the plan's length the field
-- has the plan's cells, is lawful, has the payload's bits and the padding in the cells that hold no check, and is the only such
-- field; and two different payloads have two different fields
pub record FieldsMean (pad : ℕ → ℕ) (field : Shape → List ℕ → List ℕ) : Type 0 where
  pub long : (s : Shape) (p : List ℕ) → length (field s p) ≡ cells_of s
  pub lawful : (s : Shape) → Accepted s → (p : List ℕ) → length p ≡ plan_bytes s → Bytes p → LawfulField s (field_of (field s p))
  pub carries : (s : Shape) → Accepted s → (p : List ℕ) → length p ≡ plan_bytes s → Bytes p
      → Carries (layout_of s) (field_of (field s p)) p
  pub padded : (s : Shape) → Accepted s → (p : List ℕ) → length p ≡ plan_bytes s → Bytes p
      → PaddedWith (layout_of s) pad (field_of (field s p))
  pub only : (s : Shape) → Accepted s → (p : List ℕ) → length p ≡ plan_bytes s → Bytes p
      → (f : Field) → LawfulField s f → Carries (layout_of s) f p → PaddedWith (layout_of s) pad f
      → Same f (field_of (field s p)) (cells_of s)
  pub different : (s : Shape) → Accepted s → (p q : List ℕ) → length p ≡ plan_bytes s → length q ≡ plan_bytes s
      → Bytes p → Bytes q
      → field s p ≡ field s q → p ≡ q

-- Theorem (demand 2). For every shape that the plan accepts and every payload of the plan's length the field written is the one
-- lawful field with the payload's bits and the padding 1, 0, 1, 0 and on; and two different payloads give two different fields.
abbrev pub EncodeMeaning : Type 0
EncodeMeaning = FieldsMean padding encoded_field

-- Theorem. So it is of the field that was written before, with zeros for padding.
abbrev pub EarlierMeaning : Type 0
EarlierMeaning = FieldsMean earlier_padding earlier_field

-- Theorem. No field was written from two payloads, be it now or before.
abbrev pub OnePayload : Type 0
OnePayload =
    (s : Shape) → Accepted s → (p q : List ℕ) → length p ≡ plan_bytes s → length q ≡ plan_bytes s → Bytes p → Bytes q
    → (F : List ℕ) → WrittenFrom s p F → WrittenFrom s q F → p ≡ q

-- Theorem (demand 2). Writing that succeeds leaves the field written: where the number is 0 the payload has the plan's length,
-- the field the plan's cells, and what is left in the lent field is the field written from the payload.
abbrev pub EncodeLeaves : Type 0
EncodeLeaves =
    (s : Shape) (p field : List ℕ) → encode_number s p field ≡ 0
    → Accepted s × (length p ≡ plan_bytes s) × (length field ≡ cells_of s) × (encode_leaves s p field ≡ encoded_field s p)
