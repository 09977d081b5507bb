-- Our own examples of placing, worked by hand: classes that tell row, plane and column apart and each number of the settings,
-- classes that hold a cell, two cells of one class as near as can be, positions and checks, each limit with the number one beyond
-- it, a triple that is found, and the numbers of the refusals.
use Rattle.std.specs.Prelude.{ℕ, true, false, ◌≡◌, pos, negsuc}
use Rattle.lattice.specs.declared.refusal.Refusal.TheVariants as why
use Rattle.lattice.specs.declared.shape.Shape.{Shape}
use Rattle.lattice.specs.Refusal.{refusal_number}
use Rattle.lattice.specs.Shape.{window, no_window, shape_number, max_side, max_planes, max_cells, max_flat_strength}
use Rattle.lattice.specs.Shape.{max_stack_strength, max_classes}
use Rattle.lattice.specs.Cell.{cell, cell_number}
use Rattle.lattice.specs.Cluster.{distance}
use Rattle.lattice.specs.Class.{class_number, class_given, classes_of, layout_of}
use Rattle.lattice.specs.Used.{used_of}
use Rattle.lattice.specs.Position.{position}
use Rattle.lattice.specs.Check.{is_check, data_cells, capacity}
use Rattle.lattice.specs.Order.{triple}
use Rattle.lattice.specs.DistanceTest.{max_test_strength, max_test_classes, test_number, verdict, found_triple, triples_tried}
use Rattle.lattice.specs.theorems.Windows.{windowed}

-- a shape of w columns, h rows, d planes and strength t
abbrev pub sized : ℕ → ℕ → ℕ → ℕ → Shape
sized w h d t = record { columns = w; rows = h; planes = d; strength = t; window = no_window }

-- Theorem. The examples hold.
pub record PlacingExamples : Type 0 where
  -- row 2, plane 1, column 3 of a stack at strengths 1 to 8
  pub stack_classes :
      (class_given (sized 7 5 2 1) (cell 2 1 3) ≡ 0)
      × (class_given (sized 7 5 2 2) (cell 2 1 3) ≡ 0)
      × (class_given (sized 7 5 2 3) (cell 2 1 3) ≡ 3)
      × (class_given (sized 7 5 2 4) (cell 2 1 3) ≡ 4)
      × (class_given (sized 7 5 2 5) (cell 2 1 3) ≡ 12)
      × (class_given (sized 7 5 2 6) (cell 2 1 3) ≡ 16)
      × (class_given (sized 7 5 2 7) (cell 2 1 3) ≡ 16)
      × (class_given (sized 7 5 2 8) (cell 2 1 3) ≡ 38)
  -- row 1, plane 0, column 0, which has m − b: other settings that keep cells as far apart can agree on the classes above
  pub stack_rows :
      (class_given (sized 7 5 2 2) (cell 1 0 0) ≡ 1)
      × (class_given (sized 7 5 2 3) (cell 1 0 0) ≡ 5)
      × (class_given (sized 7 5 2 4) (cell 1 0 0) ≡ 9)
      × (class_given (sized 7 5 2 5) (cell 1 0 0) ≡ 23)
      × (class_given (sized 7 5 2 6) (cell 1 0 0) ≡ 31)
      × (class_given (sized 7 5 2 7) (cell 1 0 0) ≡ 54)
      × (class_given (sized 7 5 2 8) (cell 1 0 0) ≡ 83)
  -- the number of classes of a stack at strengths 1 to 8; on a flat field the lower bound settles it
  pub stack_numbers :
      (classes_of (sized 7 5 2 1) ≡ 1)
      × (classes_of (sized 7 5 2 2) ≡ 2)
      × (classes_of (sized 7 5 2 3) ≡ 7)
      × (classes_of (sized 7 5 2 4) ≡ 12)
      × (classes_of (sized 7 5 2 5) ≡ 27)
      × (classes_of (sized 7 5 2 6) ≡ 38)
      × (classes_of (sized 7 5 2 7) ≡ 70)
      × (classes_of (sized 7 5 2 8) ≡ 92)
  -- b of a flat field: 5 both at t = 4 and at t = 5, and 7 at t = 6, where m is 18 and 5, 11 and 13 keep cells as far apart
  pub flat_classes :
      (class_given (sized 1 2 1 4) (cell 1 0 0) ≡ 3)
      × (class_given (sized 1 13 1 5) (cell 12 0 0) ≡ 5)
      × (class_given (sized 1 2 1 6) (cell 1 0 0) ≡ 11)
  -- the classes that hold a cell: all 5 of 5 by 5 at t = 3, and 3 of 13 where 3 columns by 1 row have t = 5; by a window of 512
  -- rows and 1 column 9 of 512 on 9 by 9; by one of 2 rows and 3 columns 3 of 6 on one row of 5 cells and 2 on one column; and 6
  -- of 7 in a stack of 3 columns, 1 row and 2 planes at t = 3, where plane 0 has 0, 1, 2 and plane 1 has 4, 5, 6
  pub classes_used :
      (used_of (sized 5 5 1 3) ≡ 5)
      × (used_of (sized 3 1 1 5) ≡ 3)
      × (classes_of (sized 3 1 1 5) ≡ 13)
      × (used_of (windowed 9 9 512 1) ≡ 9)
      × (used_of (windowed 5 1 2 3) ≡ 3)
      × (used_of (windowed 1 5 2 3) ≡ 2)
      × (used_of (sized 3 1 2 3) ≡ 6)
  -- at t = 3 row 0, column 2 and row 1, column 0 are of class 2, and 3 apart; at t = 2 row 0, column 0 and row 1, column 1 are of
  -- class 0, and 2 apart
  pub nearest_pair :
      (class_given (sized 5 5 1 3) (cell 0 0 2) ≡ 2)
      × (class_given (sized 5 5 1 3) (cell 1 0 0) ≡ 2)
      × (distance (cell 0 0 2) (cell 1 0 0) ≡ 3)
      × (class_given (sized 5 5 1 2) (cell 0 0 0) ≡ 0)
      × (class_given (sized 5 5 1 2) (cell 1 0 1) ≡ 0)
      × (distance (cell 0 0 0) (cell 1 0 1) ≡ 2)
  -- row 1, plane 1, column 2 of 7 columns, 5 rows, 2 planes: (1 × 5 + 1) × 7 + 2
  pub byte_number : cell_number (sized 7 5 2 3) (cell 1 1 2) ≡ 44
  -- positions in byte order, from 1: at strength 1 all cells are of one class
  pub positions : (position (layout_of (sized 3 1 1 1)) 0 ≡ 1) × (position (layout_of (sized 3 1 1 1)) 2 ≡ 3)
  -- the checks of a class of 7 cells: at 1, 2 and 4
  pub check_positions :
      (is_check 7 1 ≡ true)
      × (is_check 7 2 ≡ true)
      × (is_check 7 3 ≡ false)
      × (is_check 7 4 ≡ true)
      × (is_check 7 5 ≡ false)
      × (is_check 7 6 ≡ false)
      × (is_check 7 7 ≡ false)
  -- of classes of 0, 1, 2, 3, 7 and 10 cells, 0, 0, 0, 1, 4 and 6 hold no check
  pub cells_of_data :
      (data_cells 0 ≡ 0)
      × (data_cells 1 ≡ 0)
      × (data_cells 2 ≡ 0)
      × (data_cells 3 ≡ 1)
      × (data_cells 7 ≡ 4)
      × (data_cells 10 ≡ 6)
  -- the limits of a size: 256, 256, 16, and 65,536 in all, beyond which 145 × 113 × 4 = 65,540 is the least that a shape can have
  pub columns :
      (shape_number (sized 256 1 1 1) ≡ 0) × (shape_number (sized 257 1 1 1) ≡ 1) × (shape_number (sized 0 1 1 1) ≡ 1)
  pub rows :
      (shape_number (sized 1 256 1 1) ≡ 0) × (shape_number (sized 1 257 1 1) ≡ 1) × (shape_number (sized 1 0 1 1) ≡ 1)
  pub planes :
      (shape_number (sized 1 1 16 1) ≡ 0) × (shape_number (sized 1 1 17 1) ≡ 1) × (shape_number (sized 1 1 0 1) ≡ 1)
  pub cells :
      (shape_number (sized 256 256 1 1) ≡ 0) × (shape_number (sized 256 16 16 1) ≡ 0) × (shape_number (sized 145 113 4 1) ≡ 1)
  -- the limits of a strength: 32 in one plane, 8 in more
  pub flat_strengths :
      (shape_number (sized 5 5 1 0) ≡ 2)
      × (shape_number (sized 5 5 1 1) ≡ 0)
      × (shape_number (sized 5 5 1 32) ≡ 0)
      × (shape_number (sized 5 5 1 33) ≡ 2)
  pub stack_strengths :
      (shape_number (sized 5 5 2 0) ≡ 2)
      × (shape_number (sized 5 5 2 1) ≡ 0)
      × (shape_number (sized 5 5 2 8) ≡ 0)
      × (shape_number (sized 5 5 2 9) ≡ 2)
  -- a window of 2 rows and 3 columns: row 3, column 4 is of class 1 × 3 + 1; the sides are not exchanged, and may exceed the
  -- field
  pub window_classes :
      (class_given (windowed 5 5 2 3) (cell 3 0 4) ≡ 4)
      × (class_given (windowed 5 5 3 2) (cell 4 0 3) ≡ 3)
      × (class_given (windowed 5 5 7 9) (cell 4 0 3) ≡ 39)
  -- on 5 by 5 it has 6 classes, and 9 cells that hold no check
  pub window_numbers :
      (classes_of (windowed 5 5 2 3) ≡ 6) × (capacity (layout_of (windowed 5 5 2 3)) ≡ 9)
      × (classes_of (windowed 9 9 512 1) ≡ 512)
  -- the limits of a window: 512 cells, one plane, and no strength beside it; 2 for none at all, in stacks too
  pub window_limits :
      (shape_number (windowed 9 9 512 1) ≡ 0)
      × (shape_number (windowed 9 9 513 1) ≡ 11)
      × (shape_number (windowed 9 9 1 512) ≡ 0)
      × (shape_number (windowed 9 9 1 513) ≡ 11)
      × (shape_number (windowed 9 9 16 32) ≡ 0)
      × (shape_number (windowed 9 9 27 19) ≡ 11)
      × (shape_number (windowed 9 9 0 1) ≡ 11)
      × (shape_number (windowed 9 9 1 0) ≡ 11)
      × (shape_number (windowed 9 9 0 0) ≡ 2)
      × (shape_number (record { columns = 9; rows = 9; planes = 2; strength = 0; window = window 2 3 }) ≡ 11)
      × (shape_number (record { columns = 9; rows = 9; planes = 1; strength = 3; window = window 0 1 }) ≡ 11)
      × (shape_number (record { columns = 9; rows = 9; planes = 1; strength = 3; window = window 1 0 }) ≡ 11)
      × (shape_number (record { columns = 9; rows = 9; planes = 1; strength = 33; window = window 1 1 }) ≡ 2)
      × (shape_number (windowed 257 9 0 1) ≡ 1)
  -- the limits of the distance test: t to 18, m to 4,096, b and c below m
  pub test_strengths :
      (test_number 7 2 3 0 ≡ 2) × (test_number 7 2 3 1 ≡ 0) × (test_number 7 2 3 18 ≡ 0) × (test_number 7 2 3 19 ≡ 2)
  pub test_classes : (test_number 0 0 0 1 ≡ 9)
      × (test_number 1 0 0 1 ≡ 0)
      × (test_number 4096 0 0 1 ≡ 0)
      × (test_number 4097 0 0 1 ≡ 9)
  pub test_steps : (test_number 7 6 6 1 ≡ 0) × (test_number 7 7 0 1 ≡ 9) × (test_number 7 0 7 1 ≡ 9)
  -- the first in the order
  pub first_number :
      (shape_number (sized 257 1 1 0) ≡ 1) × (class_number (windowed 9 9 0 1) (cell 9 0 9) ≡ 11) × (test_number 0 0 0 0 ≡ 2)
  -- the limits themselves, which are the constants of the code, and the most classes, those of the strength 32
  pub limits :
      (max_side ≡ 256)
      × (max_planes ≡ 16)
      × (max_cells ≡ 65536)
      × (max_flat_strength ≡ 32)
      × (max_stack_strength ≡ 8)
      × (max_classes ≡ 512)
      × (max_test_strength ≡ 18)
      × (max_test_classes ≡ 4096)
  -- the settings of strength 5 fail for strength 6 at row 1, plane −3 and column 1, the 34th triple: 1 − 4 × 1 + 10 × 3 = 27
  pub test_finds :
      (verdict 27 4 10 6 ≡ false)
      × (found_triple 27 4 10 6 ≡ triple (pos 1) (negsuc 2) (pos 1))
      × (triples_tried 27 4 10 6 ≡ 34)
  -- the papers' number of each reason
  pub refusal_numbers :
      (refusal_number why.BadSize ≡ 1)
      × (refusal_number why.BadStrength ≡ 2)
      × (refusal_number why.PayloadLength ≡ 3)
      × (refusal_number why.FieldLength ≡ 4)
      × (refusal_number why.OutsideShape ≡ 4)
      × (refusal_number why.BadCell ≡ 5)
      × (refusal_number why.OutOfReach ≡ 6)
      × (refusal_number why.BadPadding ≡ 7)
      × (refusal_number why.BadForm ≡ 8)
      × (refusal_number why.BadSettings ≡ 9)
      × (refusal_number why.TooManyErasures ≡ 10)
      × (refusal_number why.BadWindow ≡ 11)
