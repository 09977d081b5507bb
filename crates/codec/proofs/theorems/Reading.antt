-- Demand 2, reading: the terms of the theorems.
use Prim.Native.Nat.{ℕ}
use mathlib.Core.Path.{sym, ◌∙◌, ap}
use mathlib.Core.List.{List}
use native.Mathlib.Omega.{arith}
use lib.ListN.{length}
use Rattle.lattice.specs.Shape.{cells_of}
use Rattle.lattice.specs.Class.{layout_of}
use Rattle.codec.specs.Field.{field_of}
use Rattle.codec.specs.Decode.{corrected_field}
use Rattle.codec.specs.theorems.Reading.{OneCodeword, OneNearest, DecodeMeaning, CorrectMeaning}
use Rattle.codec.proofs.theory.NearestField.{near_corrected, near_reached, nearest_one}
use Rattle.codec.proofs.theory.Tags.{tags_tell, reached_size}
use Rattle.codec.proofs.theory.Accepted.{plan_bytes_lem}
use Rattle.codec.proofs.theory.FieldLists.{length_list_of, get_d_list_of}
use Rattle.codec.proofs.theory.HeldPayload.{held_length, held_bytes}
use Rattle.codec.proofs.theory.ReadFields.{means, carry, decode_same, decode_leaves_lem, decode_count_lem, decoded, correct_same}
use Rattle.codec.proofs.theory.ReadFields.{correct_leaves_lem, correct_count_lem, corrected}

-- Theorem. A class with at most two erasures may stand for at most one codeword, and for none where it has no erasure and the
-- syndrome is above the class's size.
pub one_codeword : OneCodeword
one_codeword =
    record {
      one = λ L tag tells f g h a received few g-cells h-cells g-near g-word h-near h-word i below own.
          sym (near_corrected tells f received g a few g-cells g-near g-word i below own)
          ∙ near_corrected tells f received h a few h-cells h-near h-word i below own;
      tells = tags_tell;
      none = λ L f g a received read g-cells above near word.
          omega (arith, reached_size L a _ (near_reached (tags_tell L) f received g a read g-cells near word));
    }

-- Theorem. There is at most one lawful field for which every class may stand.
pub one_nearest : OneNearest
one_nearest s field readable g h =
    nearest_one (tags_tell (layout_of s)) (field_of field) readable.cells readable.few g h

-- Theorem. Decoding gives 0, 6 or 7 by the lawful fields in reach, and with 0 the payload whose bits it has and the number of
-- cells where it differs.
pub decode_meaning : DecodeMeaning
decode_meaning s payload field readable fits =
    let m = means readable in
    let same = decode_same s payload field readable fits in
    let leaves = decode_leaves_lem s payload field readable fits in
    let ok = decoded s payload field readable fits in
    let f = corrected_field s (field_of field) in
    record {
      success = carry _ _ 0 same m.success;
      none = carry _ _ 6 same m.none;
      wrong = carry _ _ 7 same m.wrong;
      long = λ e. ap length (leaves e) ∙ held_length (layout_of s) f ∙ sym (plan_bytes_lem s readable.accepted);
      bytes = λ e. rw (leaves e) (held_bytes (layout_of s) f m.cells);
      gives = λ g near padding. rw (leaves (ok g near padding)) (m.carries g near);
      count = λ g near padding. decode_count_lem s payload field readable fits (ok g near padding) ∙ m.count g near;
    }

-- Theorem. Correcting likewise, leaving that field.
pub correct_meaning : CorrectMeaning
correct_meaning s field readable =
    let m = means readable in
    let same = correct_same s field readable in
    let leaves = correct_leaves_lem s field readable in
    let ok = corrected s field readable in
    let f = corrected_field s (field_of field) in
    record {
      success = carry _ _ 0 same m.success;
      none = carry _ _ 6 same m.none;
      wrong = carry _ _ 7 same m.wrong;
      long = λ e. ap length (leaves e) ∙ length_list_of f (cells_of s);
      leaves = λ g near padding i h.
          ap (λ (l : List ℕ). field_of l i) (leaves (ok g near padding)) ∙ get_d_list_of f (cells_of s) i h
          ∙ m.corrected g near i h;
      count = λ g near padding. correct_count_lem s field readable (ok g near padding) ∙ m.count g near;
    }
