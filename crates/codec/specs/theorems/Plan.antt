-- The theorem on the plan's figures.
use Rattle.std.specs.Prelude.{◌*◌, ◌/◌, ◌≤◌, ◌≡◌}
use Rattle.lattice.specs.declared.shape.Shape.{Shape}
use Rattle.lattice.specs.Shape.{Accepted, cells_of}
use Rattle.lattice.specs.Class.{classes_of, class_of, layout_of}
use Rattle.lattice.specs.Position.{size}
use Rattle.lattice.specs.Check.{holds_data}
use Rattle.lattice.specs.Counting.{count, sum_below}
use Rattle.lattice.specs.Labelling.{labels}
use Rattle.codec.specs.Plan.{plan_classes, plan_capacity, plan_bytes, plan_cells, plan_used, plan_digits}

-- Theorem. For a shape that the plan accepts its classes are m, its capacity is the number of cells that hold no check, its
-- bytes are an eighth of that, rounded down, and its cells are W × H × D. Its classes that hold a cell are as many as the labels
-- that the classes of the cells use; they are never more than its classes. Its digits are five for each whole word of six cells
-- of each class. Where t is at least 1 and both sides of a flat field are at least t, the classes are as many labels as the plan
-- gives classes, and all of them hold a cell; and so it is where t is 0 and the field has at least the rows and columns of its
-- window.
pub record PlanMeaning : Type 0 where
  pub classes : (s : Shape) → Accepted s → plan_classes s ≡ classes_of s
  pub capacity : (s : Shape) → Accepted s → plan_capacity s ≡ count (holds_data (layout_of s)) (cells_of s)
  pub bytes : (s : Shape) → Accepted s → plan_bytes s ≡ count (holds_data (layout_of s)) (cells_of s) / 8
  pub cells : (s : Shape) → Accepted s → plan_cells s ≡ cells_of s
  pub used : (s : Shape) → Accepted s → plan_used s ≡ labels s (class_of s)
  pub used_most : (s : Shape) → plan_used s ≤ plan_classes s
  pub digits : (s : Shape) → Accepted s → plan_digits s ≡ 5 * sum_below (λ a. size (layout_of s) a / 6) (classes_of s)
  pub attained : (s : Shape) → Accepted s → s.planes ≡ 1 → 1 ≤ s.strength → s.strength ≤ s.columns → s.strength ≤ s.rows
      → labels s (class_of s) ≡ plan_classes s
  pub window_attained : (s : Shape) → Accepted s → s.strength ≡ 0 → s.window.rows ≤ s.rows → s.window.columns ≤ s.columns
      → labels s (class_of s) ≡ plan_classes s
  pub all_used : (s : Shape) → Accepted s → s.planes ≡ 1 → 1 ≤ s.strength → s.strength ≤ s.columns → s.strength ≤ s.rows
      → plan_used s ≡ plan_classes s
  pub window_all_used : (s : Shape) → Accepted s → s.strength ≡ 0 → s.window.rows ≤ s.rows → s.window.columns ≤ s.columns
      → plan_used s ≡ plan_classes s
