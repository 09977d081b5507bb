-- The examples of document 01 that are marked to be proved, by computation of the definitions.
use mathlib.Core.Path.{refl}
use Rattle.lattice.specs.Shape.{is_none, max_strength, size_ok, strength_ok, window_ok, shape_number}
use Rattle.lattice.specs.Range.{in_range}
use Rattle.lattice.specs.Settings.{odd_settings, even_settings, flat_settings, settings_for}
use Rattle.lattice.specs.Cell.{cell_at}
use Rattle.lattice.specs.Class.{minus_mod, class_with, classes_of, class_of}
use Rattle.lattice.specs.Position.{size_to, position}
use Rattle.lattice.specs.Check.{is_power, is_check, checks, holds_data, capacity}
use Rattle.lattice.specs.Order.{order}
use Rattle.lattice.specs.DistanceTest.{fails_at, outcome, test_strength_ok, test_settings_ok, test_number, verdict, found_triple}
use Rattle.lattice.specs.DistanceTest.{triples_tried}
use Rattle.codec.specs.Field.{is_cell, is_received, cells_ok, having, differences}
use Rattle.codec.specs.Hamming.{tags_of, flipped}
use Rattle.codec.specs.Erasure.{erasures_to, erased_sum, filled, corrected, few_erasures, in_reach, all_in_reach}
use Rattle.codec.specs.Payload.{payload_bytes, rank, padding, earlier_padding, padded_with, padding_ok, held_payload}
use Rattle.codec.specs.Plan.{plan_capacity, plan_bytes, plan_cells}
use Rattle.codec.specs.Decode.{field_number, corrected_count, decode_number, decode_count, decode_leaves}
use Rattle.codec.specs.theorems.Examples.{PaperExamples, paper_examples}

-- Theorem. The examples hold.
pub paper_examples_hold : PaperExamples
unfolding
    paper_examples
    in_range max_strength size_ok strength_ok window_ok is_none shape_number
    odd_settings even_settings flat_settings settings_for cell_at minus_mod class_with classes_of class_of
    size_to position is_power is_check checks holds_data capacity
    order fails_at outcome test_strength_ok test_settings_ok test_number verdict found_triple triples_tried
    is_cell is_received cells_ok having differences tags_of flipped erasures_to erased_sum filled corrected
    few_erasures in_reach all_in_reach
    payload_bytes rank padding earlier_padding padded_with padding_ok held_payload plan_capacity plan_bytes plan_cells
    field_number corrected_count decode_number decode_count decode_leaves
paper_examples_hold = (
  refl,
  (
    refl,
    (
      refl,
      (
        refl,
        (
          refl,
          (
            refl,
            (
              refl,
              (
                refl,
                (
                  refl,
                  (
                    refl,
                    (
                      refl,
                      (
                        refl,
                        (
                          refl,
                          (refl, (refl, (refl, (refl, (refl, (refl, (refl, (refl, (refl, (refl, tt)))))))))),
                        ),
                      ),
                    ),
                  ),
                ),
              ),
            ),
          ),
        ),
      ),
    ),
  ),
)
