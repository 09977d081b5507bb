-- Examples that meet the hypotheses of the theorems on windows and patches, in fields of 7 columns and 5 rows.
use Prim.Native.Nat.{ℕ, ◌≤◌}
use mathlib.Core.Logic.{◌≢◌}
use mathlib.Core.Path.{◌≡◌, refl, ap}
use native.Mathlib.Omega.{arith}
use lib.Dec.{T, ltb, lit<, lit≤}
use lib.IntN.{negsuc}
use Rattle.lattice.specs.declared.shape.Shape.{Shape}
use Rattle.lattice.specs.declared.shape.Window.{Window}
use Rattle.lattice.specs.Shape.{window, is_none, size_ok, strength_ok, window_ok, shape_number, Accepted, BadSize}
use Rattle.lattice.specs.Range.{in_range}
use Rattle.lattice.specs.Cell.{Cell, cell, InField, cell_number}
use Rattle.lattice.specs.Cluster.{apart, AtMost}
use Rattle.lattice.specs.Labelling.{labels}
use Rattle.lattice.specs.Class.{inside, class_number, classes_of, class_of}
use Rattle.lattice.specs.Window.{InWindow, SeparatesWindows, Patch}
use Rattle.lattice.specs.theorems.Windows.{windowed}
use Rattle.lattice.proofs.theory.ByteNumbers.{same_cell}
use Rattle.lattice.proofs.theorems.Refused.{shape_refused}
use Rattle.lattice.proofs.theorems.Windows.{window_classes, patch_classes, window_labels_needed}
use Rattle.lattice.proofs.examples.Placing.{field, accepted}
use Rattle.lattice.proofs.examples.ThreeCells.{Among, patch_of_three, at_most_three}

-- a field with a window of 2 rows and 3 columns that the constructor accepts, flat and no smaller than the window
abbrev pub window_field : Shape
window_field = windowed 7 5 2 3

pub window_accepted : Accepted window_field
unfolding shape_number size_ok strength_ok window_ok is_none in_range
window_accepted = refl

pub window_rules : window_field.strength ≡ 0
window_rules = refl

pub window_flat : window_field.planes ≡ 1
window_flat = refl

pub window_high : window_field.window.rows ≤ window_field.rows
window_high = lit≤ tt

pub window_wide : window_field.window.columns ≤ window_field.columns
window_wide = lit≤ tt

in_field : (t : Window) (r c : ℕ) → T (ltb r 5) → T (ltb c 7) → InField (windowed 7 5 t.rows t.columns) (cell r 0 c)
in_field t r c hr hc = record { row = lit< hr; plane = lit< tt; column = lit< hc }

-- two different cells of the window at row −1 and column −1, which hangs over two edges
abbrev pub edge : Cell
edge = cell 0 0 0

abbrev pub beside_edge : Cell
beside_edge = cell 0 0 1

pub edge_inside : InField window_field edge
edge_inside = in_field (window 2 3) 0 0 tt tt

pub beside_inside : InField window_field beside_edge
beside_inside = in_field (window 2 3) 0 1 tt tt

pub edge_hangs : InWindow window_field.window (negsuc 0) (negsuc 0) edge
edge_hangs = record { down = 1; across = 1; rows = lit< tt; columns = lit< tt; row = refl; column = refl }

pub beside_hangs : InWindow window_field.window (negsuc 0) (negsuc 0) beside_edge
beside_hangs = record { down = 1; across = 2; rows = lit< tt; columns = lit< tt; row = refl; column = refl }

pub edges_differ : edge ≢ beside_edge
edges_differ e = let z : ◌≡◌ {A = ℕ} 0 1 = ap (λ (x : Cell). x.column) e in omega arith

-- so they lie in different classes, and that of the first is given
pub edge_classes : class_of window_field edge ≢ class_of window_field beside_edge
edge_classes same =
    edges_differ
    (window_classes window_field window_accepted window_rules (negsuc 0) (negsuc 0) edge beside_edge edge_inside beside_inside
    edge_hangs beside_hangs same)

pub edge_given : class_number window_field edge ≡ 0
unfolding class_number inside shape_number size_ok strength_ok window_ok is_none in_range
edge_given = refl

-- in any field the labelling by byte number separates the cells of every window
pub numbers_separate_windows : (s : Shape) (w : Window) → SeparatesWindows s w (cell_number s)
numbers_separate_windows s w r c high wide x y hx hy wx wy = same_cell s x y hx hy

-- so the lower bound speaks of it
pub window_numbers_needed : classes_of window_field ≤ labels window_field (cell_number window_field)
window_numbers_needed =
    window_labels_needed.own window_field window_flat window_rules window_high window_wide (cell_number window_field)
    (numbers_separate_windows window_field window_field.window)

-- a field with a window of 3 by 3, and in it a patch of three cells that touch by corners alone
abbrev pub patch_field : Shape
patch_field = windowed 7 5 3 3

pub patch_accepted : Accepted patch_field
unfolding shape_number size_ok strength_ok window_ok is_none in_range
patch_accepted = refl

pub patch_rules : patch_field.strength ≡ 0
patch_rules = refl

pub patch_square : patch_field.window ≡ window 3 3
patch_square = refl

abbrev pub OfDiagonal : Cell → Type 0
OfDiagonal = Among (cell 1 0 1) (cell 2 0 2) (cell 3 0 3)

pub diagonal_patch : Patch patch_field OfDiagonal
unfolding apart
diagonal_patch =
    patch_of_three patch_field (cell 1 0 1) (cell 2 0 2) (cell 3 0 3)
    (record { plane = refl; row = lit≤ tt; column = lit≤ tt })
    (record { plane = refl; row = lit≤ tt; column = lit≤ tt })
    (in_field (window 3 3) 1 1 tt tt) (in_field (window 3 3) 2 2 tt tt) (in_field (window 3 3) 3 3 tt tt)

pub diagonal_few : AtMost 3 OfDiagonal
diagonal_few = at_most_three (cell 1 0 1) (cell 2 0 2) (cell 3 0 3)

-- so its cells lie in different classes
pub diagonal_classes : (x y : Cell) → OfDiagonal x → OfDiagonal y → class_of patch_field x ≡ class_of patch_field y → x ≡ y
diagonal_classes x y mx my same =
    patch_classes patch_field patch_accepted patch_rules 3 patch_square OfDiagonal diagonal_patch diagonal_few x y mx my same

-- a size within the limits
pub size_good : ¬ BadSize 5 5 1
size_good = ((shape_refused field).0.0 accepted).0
