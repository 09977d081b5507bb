-- A field that is not damaged comes back as it is.
use Prim.Native.Nat.{ℕ}
use mathlib.Core.Bool.{Bool, false, true≢false}
use mathlib.Core.List.{List}
use mathlib.Core.Path.{◌≡◌, refl, sym, ◌∙◌, ap, subst}
use lib.ListN.{length}
use Rattle.lattice.specs.declared.shape.Shape.{Shape}
use Rattle.lattice.specs.Shape.{Accepted, cells_of}
use Rattle.lattice.specs.Cell.{Cell}
use Rattle.lattice.specs.Class.{layout_of}
use Rattle.codec.specs.Field.{field_of, list_of, Same, differences}
use Rattle.codec.specs.Payload.{Bytes, held_payload}
use Rattle.codec.specs.Plan.{plan_bytes}
use Rattle.codec.specs.Encode.{WrittenFrom}
use Rattle.codec.specs.Decode.{corrected_field, decode_number, decode_leaves}
use Rattle.codec.specs.Correct.{correct_number, correct_leaves}
use Rattle.codec.specs.Reach.{Readable, RightInReach}
use Rattle.codec.specs.theorems.Undamaged.{NothingToCorrect}
use Rattle.codec.specs.Damage.{damaged, damaged_field, Recovered}
use Rattle.codec.specs.Code.{tags_at, NearestTo}
use Rattle.codec.proofs.theory.Accepted.{plan_bytes_lem}
use Rattle.codec.proofs.theory.NearestField.{lawful_nearest, nearest_same}
use Rattle.codec.proofs.theory.Differences.{differences_self, differences_zero}
use Rattle.codec.proofs.theory.FieldLists.{list_of_same, list_field, list_of_field_of, cells_same}
use Rattle.codec.proofs.theory.HeldPayload.{carries_held}
use Rattle.codec.proofs.theory.ReadFields.{cells_readable, means, correct_leaves_lem}
use Rattle.codec.proofs.theory.WrittenFields.{written}
use Rattle.codec.proofs.theorems.Reading.{decode_meaning, correct_meaning}
use Rattle.codec.proofs.theorems.Recovery.{recovery_by_class}
use Rattle.codec.proofs.theory.OperationNumbers.{correct_taken}

-- no cell selected
none : Cell → Bool
none x = false

-- with no cell selected the damaged field is the field
unharmed : (s : Shape) (F : List ℕ) → length F ≡ cells_of s → damaged_field s F none ≡ F
unfolding damaged none
unharmed s F long = sym (list_field F (damaged (field_of F) (λ i. false)) (cells_of s) long (λ i h. refl))

-- a field that was written
as_written : (s : Shape) → Accepted s → (p F : List ℕ) → length p ≡ plan_bytes s → Bytes p → WrittenFrom s p F
    → (buffer : List ℕ) → length buffer ≡ plan_bytes s → Recovered s p F F buffer
unfolding none
as_written s accepted p F long bytes from buffer fits =
    subst (λ (G : List ℕ). Recovered s p F G buffer) (unharmed s F (written s p F from).long)
    (recovery_by_class s accepted p F long bytes from none (λ i j hi hj si sj same. absurd (true≢false (sym si))) buffer fits)

module _ (s : Shape) (field : List ℕ) (success : correct_number s field ≡ 0) where
  readable : Readable s field
  readable = correct_taken s field success

  found : RightInReach s (field_of field)
  found = (correct_meaning s field readable).success.0 success

  M : List ℕ
  M = correct_leaves s field

  -- the corrected buffer holds the lawful field that was found
  holds : Same (field_of M) found.0 (cells_of s)
  unfolding M
  holds = (correct_meaning s field readable).leaves found.0 found.1 found.2

  M-long : length M ≡ cells_of s
  unfolding M
  M-long = (correct_meaning s field readable).long success

  M-readable : Readable s M
  M-readable =
      cells_readable s M readable.accepted M-long
      (cells_same found.0 (field_of M) (cells_of s) (λ i h. sym (holds i h)) found.1.lawful.cells)

  M-nearest : NearestTo s (field_of M) found.0
  M-nearest =
      nearest_same (layout_of s) (tags_at s) found.0 (field_of M) found.0 found.0 (λ i h. sym (holds i h)) (λ i h. refl)
      (lawful_nearest found.0 found.1.lawful)

  M-success : correct_number s M ≡ 0
  M-success = (correct_meaning s M M-readable).success.1 (found.0, M-nearest, found.2)

  module _ (buffer : List ℕ) (fits : length buffer ≡ plan_bytes s) where
    -- the payload of a field in which the one that was found is nearest
    payload_of_lem : (G : List ℕ) → Readable s G → NearestTo s (field_of G) found.0
        → held_payload (layout_of s) found.0 ≡ decode_leaves s buffer G
    payload_of_lem G r near =
        let m = decode_meaning s buffer G r fits in
        let ok = m.success.1 (found.0, near, found.2) in
        carries_held (layout_of s) found.0 near.lawful.cells (decode_leaves s buffer G) (m.bytes ok)
        (m.long ok ∙ plan_bytes_lem s r.accepted)
        (m.gives found.0 near found.2)

    count_none : differences (field_of M) found.0 (cells_of s) ≡ differences (field_of M) (field_of M) (cells_of s)
    count_none = differences_zero (field_of M) found.0 (cells_of s) holds ∙ sym (differences_self (field_of M) (cells_of s))

    read_back : decode_number s buffer field ≡ 0
    read_back = (decode_meaning s buffer field readable fits).success.1 found

    again : Recovered s (decode_leaves s buffer field) M M buffer
    again =
        let m = decode_meaning s buffer M M-readable fits in
        record {
          decoded_number = m.success.1 (found.0, M-nearest, found.2);
          decoded_payload = sym (payload_of_lem M M-readable M-nearest) ∙ payload_of_lem field readable found.1;
          decoded_count = m.count found.0 M-nearest found.2 ∙ count_none;
          corrected_number = M-success;
          field_corrected =
              correct_leaves_lem s M M-readable M-success
              ∙ list_of_same (corrected_field s (field_of M)) (field_of M) (cells_of s)
              (λ i h. (means M-readable).corrected found.0 M-nearest i h ∙ sym (holds i h))
              ∙ ap (list_of (field_of M)) (sym M-long)
              ∙ list_of_field_of M;
          count_corrected = (correct_meaning s M M-readable).count found.0 M-nearest found.2 ∙ count_none;
        }

-- Theorem. A field that is not damaged comes back as it is, with the count 0.
pub nothing_to_correct : NothingToCorrect
unfolding M
nothing_to_correct =
    record {
      written = as_written;
      corrected = λ s field e buffer fits. (read_back s field e buffer fits, again s field e buffer fits);
      count = differences_self;
    }
