-- The theorems on the classes that hold at least one cell.
use Rattle.std.specs.Prelude.{ℕ, ◌<◌, ◌≤◌, ◌≡◌}
use Rattle.lattice.specs.declared.shape.Shape.{Shape}
use Rattle.lattice.specs.Shape.{Accepted}
use Rattle.lattice.specs.Labelling.{different_values, labels}
use Rattle.lattice.specs.Position.{Layout}
use Rattle.lattice.specs.Class.{classes_of, class_of}
use Rattle.lattice.specs.Used.{used_classes, used_of}

-- Theorem. For any layout of cells in classes below m, the classes that hold at least one cell are as many as the different
-- classes of its cells.
abbrev pub UsedInLayout : Type 0
UsedInLayout =
    (L : Layout) (m : ℕ) → ((i : ℕ) → i < L.cells → L.class i < m)
    → used_classes L m ≡ different_values L.class L.cells

-- Theorem. In a field that the constructor accepts the classes that hold at least one cell are as many as the labels that the
-- class of a cell uses. They are at most m, and m where the field is flat, t is at least 1 and both sides are at least t, and
-- where t is 0 and the field has at least the rows and columns of its window.
pub record UsedInField : Type 0 where
  pub labels : (s : Shape) → Accepted s → used_of s ≡ labels s (class_of s)
  pub most : (s : Shape) → used_of s ≤ classes_of s
  pub all : (s : Shape) → Accepted s → s.planes ≡ 1 → 1 ≤ s.strength → s.strength ≤ s.columns → s.strength ≤ s.rows
      → used_of s ≡ classes_of s
  pub window_all : (s : Shape) → Accepted s → s.strength ≡ 0 → s.window.rows ≤ s.rows → s.window.columns ≤ s.columns
      → used_of s ≡ classes_of s
