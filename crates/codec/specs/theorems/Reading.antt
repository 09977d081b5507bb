-- Demand 2, reading: decoding and correcting find the one lawful field for which every class may stand. A class with no erasure
-- differs from it in at most one cell; in a class with one or two erasures every cell that was read agrees with it.
use Rattle.std.specs.Prelude.{ℕ, ◌<◌, ◌≤◌, List, ◌↔◌, ◌≡◌, length}
use Rattle.lattice.specs.declared.shape.Shape.{Shape}
use Rattle.lattice.specs.Shape.{cells_of}
use Rattle.lattice.specs.Class.{layout_of}
use Rattle.lattice.specs.Position.{Layout, size}
use Rattle.codec.specs.Field.{Field, field_of, Cells, Received, Same, differences}
use Rattle.codec.specs.Hamming.{Tags, Tells, tags_of, syndrome, Codeword}
use Rattle.codec.specs.Erasure.{erasures, Near}
use Rattle.codec.specs.Payload.{Bytes, Carries, PaddingRight}
use Rattle.codec.specs.Code.{NearestTo}
use Rattle.codec.specs.Plan.{plan_bytes}
use Rattle.codec.specs.Decode.{decode_number, decode_count, decode_leaves}
use Rattle.codec.specs.Correct.{correct_number, correct_count, correct_leaves}
use Rattle.codec.specs.Reach.{Readable, RightInReach, WrongInReach}

-- Theorem. Of one class with at most two erasures, for any layout and any tags that tell its cells: it may stand for at most one
-- codeword. Positions are such tags, and with them a class with no erasure may stand for none where the syndrome is above the
-- class's size.
pub record OneCodeword : Type 0 where
  pub one : (L : Layout) (tag : Tags) → Tells L tag
      → (f g h : Field) (a : ℕ) → Received f L.cells → erasures L f a ≤ 2 → Cells g L.cells → Cells h L.cells
      → Near L f g a → Codeword L tag g a → Near L f h a → Codeword L tag h a
      → (i : ℕ) → i < L.cells → L.class i ≡ a → g i ≡ h i
  pub tells : (L : Layout) → Tells L (tags_of L)
  pub none : (L : Layout) (f g : Field) (a : ℕ) → Received f L.cells → erasures L f a ≡ 0 → Cells g L.cells
      → size L a < syndrome L (tags_of L) f a → Near L f g a → ¬ Codeword L (tags_of L) g a

-- Theorem (demand 2). There is at most one lawful field for which every class may stand.
abbrev pub OneNearest : Type 0
OneNearest =
    (s : Shape) (field : List ℕ) → Readable s field
    → (g h : Field) → NearestTo s (field_of field) g → NearestTo s (field_of field) h → Same g h (cells_of s)

-- what decoding means: it gives 0 exactly when there is one with right padding, the pattern or zeros, and then leaves the payload
-- whose bits it has and the number of cells where it differs; 6 exactly when there is none; 7 exactly when there is one with
-- neither padding
pub record DecodingMeans (s : Shape) (payload field : List ℕ) : Type 0 where
  pub success : (decode_number s payload field ≡ 0) ↔ RightInReach s (field_of field)
  pub none : (decode_number s payload field ≡ 6) ↔ ((g : Field) → ¬ NearestTo s (field_of field) g)
  pub wrong : (decode_number s payload field ≡ 7) ↔ WrongInReach s (field_of field)
  pub long : decode_number s payload field ≡ 0 → length (decode_leaves s payload field) ≡ plan_bytes s
  pub bytes : decode_number s payload field ≡ 0 → Bytes (decode_leaves s payload field)
  pub gives : (g : Field) → NearestTo s (field_of field) g → PaddingRight (layout_of s) g
      → Carries (layout_of s) g (decode_leaves s payload field)
  pub count : (g : Field) → NearestTo s (field_of field) g → PaddingRight (layout_of s) g
      → decode_count s payload field ≡ differences (field_of field) g (cells_of s)

-- Theorem (demand 2). So it means for every field that is readable, with a payload buffer of the plan's length.
abbrev pub DecodeMeaning : Type 0
DecodeMeaning =
    (s : Shape) (payload field : List ℕ) → Readable s field → length payload ≡ plan_bytes s → DecodingMeans s payload field

-- what correcting means: likewise, leaving that field
pub record CorrectingMeans (s : Shape) (field : List ℕ) : Type 0 where
  pub success : (correct_number s field ≡ 0) ↔ RightInReach s (field_of field)
  pub none : (correct_number s field ≡ 6) ↔ ((g : Field) → ¬ NearestTo s (field_of field) g)
  pub wrong : (correct_number s field ≡ 7) ↔ WrongInReach s (field_of field)
  pub long : correct_number s field ≡ 0 → length (correct_leaves s field) ≡ cells_of s
  pub leaves : (g : Field) → NearestTo s (field_of field) g → PaddingRight (layout_of s) g
      → Same (field_of (correct_leaves s field)) g (cells_of s)
  pub count : (g : Field) → NearestTo s (field_of field) g → PaddingRight (layout_of s) g
      → correct_count s field ≡ differences (field_of field) g (cells_of s)

-- Theorem (demand 2). So it means for every field that is readable.
abbrev pub CorrectMeaning : Type 0
CorrectMeaning = (s : Shape) (field : List ℕ) → Readable s field → CorrectingMeans s field
