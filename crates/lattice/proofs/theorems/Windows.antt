-- Windows and patches: the terms of the theorems.
use Prim.Native.Nat.{ℕ, ◌*◌, ◌≤◌}
use mathlib.Core.Logic.{inl, inr, ⊎_elim}
use mathlib.Core.Path.{◌≡◌, refl, subst⁻¹}
use native.Mathlib.Nat.{le_antisymm, mul-le-mul}
use native.Mathlib.Omega.{arith}
use lib.Dec.{lit<, lit≤}
use lib.IntN.{pos}
use Rattle.lattice.specs.declared.shape.Shape.{Shape}
use Rattle.lattice.specs.declared.shape.Window.{Window}
use Rattle.lattice.specs.Shape.{window, max_window, BadStrength, BadWindow}
use Rattle.lattice.specs.Cell.{Cell}
use Rattle.lattice.specs.Class.{class_of}
use Rattle.lattice.specs.Labelling.{labels}
use Rattle.lattice.specs.Window.{SeparatesWindows}
use Rattle.lattice.specs.theorems.Windows.{windowed, WindowClasses, PatchClasses, SquareWindows, WindowLabelsNeeded}
use Rattle.lattice.specs.theorems.Windows.{WindowBoundAttained}
use Rattle.lattice.proofs.theory.Limits.{window_legal}
use Rattle.lattice.proofs.theory.LabelsMany.{labels_many}
use Rattle.lattice.proofs.theory.Placements.{classes_window}
use Rattle.lattice.proofs.theory.Tiles.{tiles, tiles_length, tiles_distinct, tiles_inside, tiles_window}
use Rattle.lattice.proofs.theory.WindowCells.{Near, near_class, window_near, patch_near}
use Rattle.lattice.proofs.theorems.Classes.{classes_below}
use Rattle.lattice.proofs.theorems.Refused.{shape_refused}

-- Theorem. In a field that the constructor accepts at strength 0 the cells of one window lie in different classes.
pub window_classes : WindowClasses
window_classes s a z r c x y hx hy wx wy =
    near_class s z x y (window_near s (window_legal s a z).flat s.window r c x y hx hy wx wy)

-- Theorem. Where the window is t by t, the cells of one patch of at most t cells lie in different classes.
pub patch_classes : PatchClasses
patch_classes s a z t square S patch small x y hx hy =
    near_class s z x y
    (subst⁻¹ (λ (w : Window). Near w x y) square (patch_near s (window_legal s a z).flat t S patch small x y hx hy))

-- a window t by t is no bad strength, and up to 22 no bad window
square_strength : (t : ℕ) → 1 ≤ t → ¬ BadStrength 1 0 (window t t)
unfolding BadStrength
square_strength t low = ⊎_elim (λ n. omega (arith, n.1)) (λ l. omega arith)

square_window : (t : ℕ) → 1 ≤ t → t ≤ 22 → ¬ BadWindow 1 0 (window t t)
unfolding BadWindow
square_window t low high =
    let few : t * t ≤ max_window = omega (arith, mul-le-mul high high) in
    ⊎_elim
    (λ n. ⊎_elim (λ e. omega arith) (⊎_elim (λ e. omega arith) (⊎_elim (λ l. omega arith) (λ l. omega arith))) n.1)
    (λ n. n.0 refl)

-- Theorem. The window t by t is accepted for every t from 1 to 22 on every flat field, and 23 by 23 is refused with 11.
pub square_windows : SquareWindows
unfolding BadWindow
square_windows =
    record {
      accepted = λ w h t size low high.
          (shape_refused (windowed w h t t)).0.1 (size, (square_strength t low, (square_window t low high, tt)));
      refused = λ w h size.
          ((shape_refused (windowed w h 23 23)).1 10).1
          (inr (size, inr (square_strength 23 (lit≤ tt), inl (inl (refl, inr (inr (inl (lit< tt)))), refl))));
    }

-- Theorem. On every flat field of at least p rows and q columns, every labelling with no label twice in any window of p rows and
-- q columns that lies in the field has at least p × q labels: the cells of the window at row 0 and column 0 have different ones.
pub window_labels_needed : WindowLabelsNeeded
window_labels_needed =
    record {
      any = labels_needed_lem;
      own = λ s flat z high wide L sep. rw (classes_window s z) (labels_needed_lem s flat s.window high wide L sep);
    }
  where
    labels_needed_lem : (s : Shape) → s.planes ≡ 1 → (w : Window) → w.rows ≤ s.rows → w.columns ≤ s.columns
        → (L : Cell → ℕ) → SeparatesWindows s w L → w.rows * w.columns ≤ labels s L
    labels_needed_lem s flat w high wide L sep =
        let inside = tiles_inside w s (omega arith) high wide in
        let at = tiles_window w in
        rw (← tiles_length w)
        (labels_many s L (tiles w) (tiles_distinct w) inside
        (λ x y mx my. sep 0 0 (omega arith) (omega arith) x y (inside x mx) (inside y my) (at x mx) (at y my)))

-- Theorem. The bound is attained: on such a field the classes are exactly p × q labels.
pub window_bound_attained : WindowBoundAttained
unfolding labels
window_bound_attained s a z high wide =
    le_antisymm (classes_below.most s a)
    (window_labels_needed.own s (window_legal s a z).flat z high wide (class_of s)
    (λ r c _ _ x y hx hy wx wy. window_classes s a z (pos r) (pos c) x y hx hy wx wy))
