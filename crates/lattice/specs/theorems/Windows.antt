-- The theorems on windows and patches: their classes, which windows are accepted, and how many labels every labelling needs.
use Rattle.std.specs.Prelude.{ℕ, ◌*◌, ◌≤◌, ◌≡◌, ℤ}
use Rattle.lattice.specs.declared.shape.Shape.{Shape}
use Rattle.lattice.specs.declared.shape.Window.{Window}
use Rattle.lattice.specs.Shape.{window, shape_number, Accepted, BadSize}
use Rattle.lattice.specs.Cell.{Cell, InField}
use Rattle.lattice.specs.Cluster.{AtMost}
use Rattle.lattice.specs.Labelling.{labels}
use Rattle.lattice.specs.Class.{classes_of, class_of}
use Rattle.lattice.specs.Window.{InWindow, SeparatesWindows, Patch}

-- a flat shape of w columns and h rows whose window has p rows and q columns
abbrev pub windowed : ℕ → ℕ → ℕ → ℕ → Shape
windowed w h p q = record { columns = w; rows = h; planes = 1; strength = 0; window = window p q }

-- Theorem (the placing law of windows). In a field that the constructor accepts at strength 0 the cells of one window lie in
-- different classes.
abbrev pub WindowClasses : Type 0
WindowClasses =
    (s : Shape) → Accepted s → s.strength ≡ 0
    → (r c : ℤ) (x y : Cell) → InField s x → InField s y → InWindow s.window r c x → InWindow s.window r c y
    → class_of s x ≡ class_of s y → x ≡ y

-- Theorem. Where the window is t by t, the cells of one patch of at most t cells lie in different classes.
abbrev pub PatchClasses : Type 1
PatchClasses =
    (s : Shape) → Accepted s → s.strength ≡ 0 → (t : ℕ) → s.window ≡ window t t
    → (S : Cell → Type 0) → Patch s S → AtMost t S → (x y : Cell) → S x → S y → class_of s x ≡ class_of s y → x ≡ y

-- Theorem. The window t by t is accepted for every t from 1 to 22 on every flat field, and 23 by 23 is refused with 11.
pub record SquareWindows : Type 0 where
  pub accepted : (w h t : ℕ) → ¬ BadSize w h 1 → 1 ≤ t → t ≤ 22 → shape_number (windowed w h t t) ≡ 0
  pub refused : (w h : ℕ) → ¬ BadSize w h 1 → shape_number (windowed w h 23 23) ≡ 11

-- Theorem. On every flat field of at least p rows and q columns, every labelling with no label twice in any window of p rows
-- and q columns that lies in the field has at least p × q labels: as many as there are classes where that is the field's own
-- window.
pub record WindowLabelsNeeded : Type 0 where
  pub any : (s : Shape) → s.planes ≡ 1 → (w : Window) → w.rows ≤ s.rows → w.columns ≤ s.columns
      → (L : Cell → ℕ) → SeparatesWindows s w L → w.rows * w.columns ≤ labels s L
  pub own : (s : Shape) → s.planes ≡ 1 → s.strength ≡ 0 → s.window.rows ≤ s.rows → s.window.columns ≤ s.columns
      → (L : Cell → ℕ) → SeparatesWindows s s.window L → classes_of s ≤ labels s L

-- Theorem. The bound is attained: on such a field the classes are exactly p × q labels.
abbrev pub WindowBoundAttained : Type 0
WindowBoundAttained =
    (s : Shape) → Accepted s → s.strength ≡ 0 → s.window.rows ≤ s.rows → s.window.columns ≤ s.columns
    → labels s (class_of s) ≡ classes_of s
