-- Demand 2, reading: decoding and correcting find the one lawful field for which every class may stand.
use Prim.Native.Nat.{ℕ}
use mathlib.Core.List.{List}
use mathlib.Core.Logic.{◌↔◌}
use mathlib.Core.Path.{◌≡◌, sym, ◌∙◌}
use lib.ListN.{length}
use Rattle.lattice.specs.declared.shape.Shape.{Shape}
use Rattle.lattice.specs.Shape.{Accepted, cells_of}
use Rattle.lattice.specs.Class.{layout_of}
use Rattle.lattice.proofs.theory.Answers.{beside_zero}
use Rattle.codec.specs.Field.{Field, field_of, list_of, Cells}
use Rattle.codec.specs.Payload.{PaddingRight, held_payload}
use Rattle.codec.specs.Code.{NearestTo}
use Rattle.codec.specs.Plan.{plan_bytes}
use Rattle.codec.specs.Decode.{corrected_field, field_number, corrected_count, decode_number, decode_count, decode_leaves}
use Rattle.codec.specs.Correct.{correct_number, correct_count, correct_leaves}
use Rattle.codec.specs.Reach.{Readable}
use Rattle.codec.proofs.theory.Accepted.{decode_number_lem, correct_number_lem}
use Rattle.codec.proofs.theory.CellValues.{cells_received}
use Rattle.codec.proofs.theory.FieldMeaning.{FieldMeans, field_means}
use Rattle.codec.proofs.theory.NearestField.{cells_few}

-- a buffer of the plan's length with nothing but cells is readable
pub cells_readable : (s : Shape) (field : List ℕ) → Accepted s → length field ≡ cells_of s → Cells (field_of field) (cells_of s)
    → Readable s field
cells_readable s field accepted long cells =
    record {
      accepted = accepted;
      long = long;
      cells = cells_received (field_of field) (cells_of s) cells;
      few = cells_few (layout_of s) (field_of field) cells;
    }

-- what the tests of a buffer's field mean
pub means : {s : Shape} {field : List ℕ} → Readable s field → FieldMeans s (field_of field)
means {s} {field} readable = field_means s readable.accepted (field_of field) readable.cells readable.few

-- an equation of numbers carries what the one means to the other
pub carry : {P : Type 0} (a b k : ℕ) → a ≡ b → (b ≡ k) ↔ P → (a ≡ k) ↔ P
carry a b k e iff = (λ h. iff.0 (sym e ∙ h), λ p. e ∙ iff.1 p)

module _ (s : Shape) (payload field : List ℕ) (readable : Readable s field) (fits : length payload ≡ plan_bytes s) where
  pub decode_same : decode_number s payload field ≡ field_number s (field_of field)
  decode_same = decode_number_lem s readable.accepted payload field fits readable.long

  pub decode_leaves_lem : decode_number s payload field ≡ 0
      → decode_leaves s payload field ≡ held_payload (layout_of s) (corrected_field s (field_of field))
  unfolding decode_leaves
  decode_leaves_lem = beside_zero (decode_number s payload field) _ payload

  pub decode_count_lem : decode_number s payload field ≡ 0 → decode_count s payload field ≡ corrected_count s (field_of field)
  unfolding decode_count
  decode_count_lem = beside_zero (decode_number s payload field) (corrected_count s (field_of field)) 0

  pub decoded : (g : Field) → NearestTo s (field_of field) g → PaddingRight (layout_of s) g → decode_number s payload field ≡ 0
  decoded g near padding = decode_same ∙ (means readable).success.1 (g, near, padding)

module _ (s : Shape) (field : List ℕ) (readable : Readable s field) where
  pub correct_same : correct_number s field ≡ field_number s (field_of field)
  correct_same = correct_number_lem s readable.accepted field readable.long

  pub correct_leaves_lem : correct_number s field ≡ 0 → correct_leaves s field
      ≡ list_of (corrected_field s (field_of field)) (cells_of s)
  unfolding correct_leaves
  correct_leaves_lem = beside_zero (correct_number s field) _ field

  pub correct_count_lem : correct_number s field ≡ 0 → correct_count s field ≡ corrected_count s (field_of field)
  unfolding correct_count
  correct_count_lem = beside_zero (correct_number s field) (corrected_count s (field_of field)) 0

  pub corrected : (g : Field) → NearestTo s (field_of field) g → PaddingRight (layout_of s) g → correct_number s field ≡ 0
  corrected g near padding = correct_same ∙ (means readable).success.1 (g, near, padding)
