-- A field that was written comes back from any readable field to which it is the nearest.
use Prim.Native.Nat.{ℕ}
use mathlib.Core.List.{List}
use mathlib.Core.Path.{◌≡◌, sym, ◌∙◌, ap}
use lib.ListN.{length}
use Rattle.lattice.specs.declared.shape.Shape.{Shape}
use Rattle.lattice.specs.Shape.{cells_of, Accepted}
use Rattle.lattice.specs.Class.{layout_of}
use Rattle.codec.specs.Field.{field_of, list_of, differences}
use Rattle.codec.specs.Payload.{Bytes}
use Rattle.codec.specs.Plan.{plan_bytes}
use Rattle.codec.specs.Decode.{corrected_field, decode_number, decode_leaves}
use Rattle.codec.specs.Correct.{correct_number, correct_leaves}
use Rattle.codec.specs.Reach.{Readable}
use Rattle.codec.specs.Damage.{Recovered}
use Rattle.codec.specs.Code.{NearestTo}
use Rattle.codec.proofs.theory.Differences.{differences_comm}
use Rattle.codec.proofs.theory.FieldLists.{list_of_same, list_of_field_of}
use Rattle.codec.proofs.theory.HeldPayload.{held_same}
use Rattle.codec.proofs.theory.ReadFields.{means, decode_leaves_lem, correct_leaves_lem}
use Rattle.codec.proofs.theory.WrittenFields.{Written, held}
use Rattle.codec.proofs.theorems.Reading.{decode_meaning, correct_meaning}

module _ (s : Shape) (accepted : Accepted s) (p F : List ℕ) (p-long : length p ≡ plan_bytes s) (p-bytes : Bytes p)
    (own : Written s p F) (G : List ℕ) (readable : Readable s G) (near : NearestTo s (field_of G) (field_of F))
    (buffer : List ℕ) (fits : length buffer ≡ plan_bytes s) where
  counted : differences (field_of G) (field_of F) (cells_of s) ≡ differences (field_of F) (field_of G) (cells_of s)
  counted = differences_comm (field_of G) (field_of F) (cells_of s)

  read : decode_number s buffer G ≡ 0
  read = (decode_meaning s buffer G readable fits).success.1 (field_of F, near, own.right)

  correct : correct_number s G ≡ 0
  correct = (correct_meaning s G readable).success.1 (field_of F, near, own.right)

  payload_back : decode_leaves s buffer G ≡ p
  payload_back =
      decode_leaves_lem s buffer G readable fits read
      ∙ held_same (layout_of s) (corrected_field s (field_of G)) (field_of F) ((means readable).corrected (field_of F) near)
      ∙ held s accepted p F p-long p-bytes own.lawful own.carries

  field_back : correct_leaves s G ≡ F
  field_back =
      correct_leaves_lem s G readable correct
      ∙ list_of_same (corrected_field s (field_of G)) (field_of F) (cells_of s) ((means readable).corrected (field_of F) near)
      ∙ ap (list_of (field_of F)) (sym own.long)
      ∙ list_of_field_of F

  pub recovered : Recovered s p F G buffer
  recovered =
      record {
        decoded_number = read;
        decoded_payload = payload_back;
        decoded_count = (decode_meaning s buffer G readable fits).count (field_of F) near own.right ∙ counted;
        corrected_number = correct;
        field_corrected = field_back;
        count_corrected = (correct_meaning s G readable).count (field_of F) near own.right ∙ counted;
      }
