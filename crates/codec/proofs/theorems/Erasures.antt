-- What was written comes back after cells are erased, and examples: the terms of the theorems.
use Prim.Native.Nat.{ℕ}
use mathlib.Core.Bool.{Bool}
use mathlib.Core.List.{List}
use mathlib.Core.Path.{refl, sym, ◌∙◌}
use Rattle.lattice.specs.Range.{in_range}
use Rattle.lattice.specs.Shape.{is_none, max_strength, size_ok, strength_ok, window_ok, shape_number, cells_of}
use Rattle.lattice.specs.Settings.{odd_settings, even_settings, flat_settings, settings_for}
use Rattle.lattice.specs.Cell.{cell_at}
use Rattle.lattice.specs.Class.{minus_mod, class_with, classes_of, class_of, layout_of}
use Rattle.lattice.specs.Position.{size_to, position}
use Rattle.lattice.specs.Check.{is_power, is_check, holds_data, capacity}
use Rattle.codec.specs.Field.{field_of, is_cell, Cells, is_received, cells_ok, Same, having, differences}
use Rattle.codec.specs.Hamming.{tags_of, flipped}
use Rattle.codec.specs.Erasure.{erasures_to, erased_sum, filled, corrected, few_erasures, in_reach, all_in_reach}
use Rattle.codec.specs.Payload.{payload_bytes, rank, payload_bit, padding, earlier_padding, data_value, data_field, encoded_with}
use Rattle.codec.specs.Payload.{padded_with, padding_ok, held_payload}
use Rattle.codec.specs.Plan.{plan_capacity, plan_bytes, plan_cells}
use Rattle.codec.specs.Encode.{field_with}
use Rattle.codec.specs.Decode.{field_number, corrected_count, decode_number, decode_count, decode_leaves}
use Rattle.codec.specs.Correct.{correct_number, correct_count, correct_leaves}
use Rattle.codec.specs.Damage.{erased_at, erased_field}
use Rattle.codec.specs.Code.{tags_at}
use Rattle.codec.specs.theorems.Erasures.{RefillByClass, Refill, ErasureExamples}
use Rattle.codec.proofs.theory.ClusterCells.{one_of_cluster, two_each}
use Rattle.codec.proofs.theory.Differences.{differences_same}
use Rattle.codec.proofs.theory.ErasedSelection.{erased_received, erased_few, erased_nearest, erased_count}
use Rattle.codec.proofs.theory.FieldLists.{length_list_of, get_d_list_of, received_same}
use Rattle.codec.proofs.theory.NearestField.{nearest_same, few_same}
use Rattle.codec.proofs.theory.RecoveredField.{recovered}
use Rattle.codec.proofs.theory.WrittenFields.{Written, written}

-- Theorem. What was written comes back where at most two cells of each class are erased: it is the nearest to what is left.
pub refill_by_class : RefillByClass
refill_by_class s accepted p F long bytes from selected two buffer fits = (
  recovered s accepted p F long bytes own G
      record {
        accepted = accepted;
        long = length_list_of (erased_at (field_of F) chosen) (cells_of s);
        cells =
            received_same (erased_at (field_of F) chosen) (field_of G) (cells_of s) same
            (erased_received (field_of F) chosen (cells_of s) cells);
        few =
            few_same (layout_of s) (erased_at (field_of F) chosen) (field_of G) same
            (erased_few (layout_of s) (field_of F) chosen cells two);
      }
      (nearest_same (layout_of s) (tags_at s) (erased_at (field_of F) chosen) (field_of G) (field_of F) (field_of F) same
      (λ i h. refl)
      (erased_nearest (layout_of s) (field_of F) chosen cells (tags_at s) own.lawful))
      buffer fits,
  differences_same (field_of F) (field_of F) (field_of G) (erased_at (field_of F) chosen) (cells_of s) (λ i h. refl)
      (λ i h. sym (same i h))
      ∙ erased_count (field_of F) chosen (cells_of s) cells,
)
  where
    own : Written s p F
    own = written s p F from

    G : List ℕ
    G = erased_field s F selected

    chosen : ℕ → Bool
    chosen i = selected (cell_at s i)

    cells : Cells (field_of F) (cells_of s)
    cells = own.lawful.cells

    -- G holds F with the selected cells erased
    same : Same (erased_at (field_of F) chosen) (field_of G) (cells_of s)
    same i h = sym (get_d_list_of (erased_at (field_of F) chosen) (cells_of s) i h)

-- Theorem. Of three selected cells of two clusters of at most t cells two lie in one cluster, and so in different classes.
pub refill : Refill
refill s accepted p F long bytes from S T s-cluster s-small t-cluster t-small selected inside buffer fits =
    refill_by_class s accepted p F long bytes from selected
    (two_each s selected S T (one_of_cluster s accepted S s-cluster s-small) (one_of_cluster s accepted T t-cluster t-small)
    inside)
    buffer fits

-- Theorem. The examples hold, by computation of the definitions.
pub erasure_examples : ErasureExamples
unfolding
    in_range max_strength size_ok strength_ok window_ok is_none shape_number odd_settings even_settings flat_settings settings_for
    cell_at minus_mod class_with classes_of class_of size_to position is_power is_check holds_data capacity
    is_cell is_received cells_ok having differences tags_of flipped erasures_to erased_sum filled corrected
    few_erasures in_reach all_in_reach payload_bytes rank payload_bit padding earlier_padding data_value data_field encoded_with
    padded_with padding_ok held_payload plan_capacity plan_bytes plan_cells field_with field_number corrected_count
    decode_number decode_count decode_leaves correct_number correct_count correct_leaves
erasure_examples =
    record {
      pairs = (refl, refl, refl, refl, refl, refl, refl, refl, refl, refl);
      many = (refl, refl, refl, refl, refl, refl);
      ten_before_six = (refl, refl, refl);
      seven = (refl, refl, refl);
      filled_padding = (refl, refl);
      twelve = refl;
      both = (refl, refl, refl, refl, refl, refl);
      first = (refl, refl, refl, refl, refl, refl);
      second = (refl, refl, refl, refl, refl, refl);
      alone = (refl, refl, refl, refl, refl, refl);
      beside = (refl, refl);
    }
