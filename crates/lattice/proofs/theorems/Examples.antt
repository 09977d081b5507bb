-- Our own examples of placing: the term of the theorem, by computation of the definitions.
use mathlib.Core.Path.{refl}
use Rattle.lattice.specs.Range.{in_range}
use Rattle.lattice.specs.Shape.{is_none, max_strength, size_ok, strength_ok, window_ok, shape_number}
use Rattle.lattice.specs.Settings.{odd_settings, even_settings, flat_settings, stack_table, stack_settings, settings_for}
use Rattle.lattice.specs.Cell.{cell_number, cell_at}
use Rattle.lattice.specs.Class.{minus_mod, class_with, window_class, classes_of, class_of, inside, class_number, class_given}
use Rattle.lattice.specs.Cluster.{apart, distance}
use Rattle.lattice.specs.Used.{is_used, used_classes}
use Rattle.lattice.specs.Position.{size_to, position}
use Rattle.lattice.specs.Check.{is_power, is_check, data_cells, holds_data, capacity}
use Rattle.lattice.specs.Order.{order}
use Rattle.lattice.specs.DistanceTest.{test_strength_ok, test_settings_ok, test_number, fails_at, outcome, verdict, found_triple}
use Rattle.lattice.specs.DistanceTest.{triples_tried}
use Rattle.lattice.specs.theorems.Examples.{PlacingExamples}

-- Theorem. The examples hold.
pub placing_examples : PlacingExamples
unfolding
    in_range max_strength size_ok strength_ok window_ok is_none shape_number
    odd_settings even_settings flat_settings stack_table stack_settings settings_for
    cell_number cell_at minus_mod class_with window_class classes_of class_of inside class_number class_given
    is_used used_classes apart distance
    size_to position is_power is_check data_cells holds_data capacity
    test_strength_ok test_settings_ok test_number order fails_at outcome verdict found_triple triples_tried
placing_examples =
    record {
      stack_classes = (refl, refl, refl, refl, refl, refl, refl, refl);
      stack_rows = (refl, refl, refl, refl, refl, refl, refl);
      stack_numbers = (refl, refl, refl, refl, refl, refl, refl, refl);
      flat_classes = (refl, refl, refl);
      classes_used = (refl, refl, refl, refl, refl, refl, refl);
      nearest_pair = (refl, refl, refl, refl, refl, refl);
      byte_number = refl;
      positions = (refl, refl);
      check_positions = (refl, refl, refl, refl, refl, refl, refl);
      cells_of_data = (refl, refl, refl, refl, refl, refl);
      columns = (refl, refl, refl);
      rows = (refl, refl, refl);
      planes = (refl, refl, refl);
      cells = (refl, refl, refl);
      flat_strengths = (refl, refl, refl, refl);
      stack_strengths = (refl, refl, refl, refl);
      window_classes = (refl, refl, refl);
      window_numbers = (refl, refl, refl);
      window_limits = (refl, refl, refl, refl, refl, refl, refl, refl, refl, refl, refl, refl, refl, refl);
      test_strengths = (refl, refl, refl, refl);
      test_classes = (refl, refl, refl, refl);
      test_steps = (refl, refl, refl);
      first_number = (refl, refl, refl);
      limits = (refl, refl, refl, refl, refl, refl, refl, refl);
      test_finds = (refl, refl, refl);
      refusal_numbers = (refl, refl, refl, refl, refl, refl, refl, refl, refl, refl, refl, refl);
    }
