-- The theorems on the classes of cells: what they are, and how many.
use Rattle.std.specs.Prelude.{ℕ, ◌<◌, ◌≤◌, ◌≡◌}
use Rattle.lattice.specs.declared.settings.Settings.{Settings}
use Rattle.lattice.specs.declared.shape.Shape.{Shape}
use Rattle.lattice.specs.Shape.{Accepted, cells_of, max_classes}
use Rattle.lattice.specs.Cell.{Cell, InField}
use Rattle.lattice.specs.Labelling.{different_values}
use Rattle.lattice.specs.Class.{class_with, window_class, classes_of, class_of, class_at, class_number, class_given}
use Rattle.lattice.specs.Endless.{point_of, HasClass}
use Rattle.lattice.specs.Settings.{settings_of}

-- Theorem. With m of at least 1, the class of a cell is the one number r below m for which column − b × row − c × plane − r is a
-- multiple of m.
pub record ClassIsRemainder : Type 0 where
  pub is : (k : Settings) (x : Cell) → 0 < k.m → HasClass k (point_of x) (class_with k x)
  pub only : (k : Settings) (x : Cell) (r : ℕ) → HasClass k (point_of x) r → r ≡ class_with k x

-- Theorem. In a field that the constructor accepts the class of a cell is below m, so at most m classes hold a cell, and m is at
-- most 512.
pub record ClassesBelow : Type 0 where
  pub below : (s : Shape) → Accepted s → (x : Cell) → class_of s x < classes_of s
  pub limit : (s : Shape) → Accepted s → classes_of s ≤ max_classes
  pub most : (s : Shape) → Accepted s → different_values (class_at s) (cells_of s) ≤ classes_of s

-- Theorem. Where the class of a cell is given with the number 0, the cell lies in the field. By strength the class is the one
-- number r below m for which column − b × row − c × plane − r is a multiple of m, and by window it is the window's.
pub record ClassIsGiven : Type 0 where
  pub field : (s : Shape) (x : Cell) → class_number s x ≡ 0 → InField s x
  pub by_strength : (s : Shape) (x : Cell) → class_number s x ≡ 0 → 1 ≤ s.strength
      → HasClass (settings_of s) (point_of x) (class_given s x)
  pub window_rule : (s : Shape) (x : Cell) → class_number s x ≡ 0 → s.strength ≡ 0 → class_given s x ≡ window_class s.window x
