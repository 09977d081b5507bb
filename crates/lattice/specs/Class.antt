-- The interleaving class of a cell, by strength or by window, and its refusals.
-- For example, in a flat field at t = 4, where m is 8 and b is 5, row 0 has the classes 0, 1, 2, 3, ..; row 1 begins with
-- (0 − 5 × 1) mod 8 = 3 and goes on with 4, 5, 6, ..; and row 2 begins with (0 − 5 × 2) mod 8 = 6 and goes on with 7, 0, 1, ..
-- The cells of row 0 and row 1 that have the class 3 are three columns and one row apart: 4 in all.
use Rattle.std.specs.Prelude.{ℕ, ◌+◌, ◌-◌, ◌*◌, ◌%◌, ◌≤◌, Bool, cond, ◌&&◌, List, [], ◌∷◌, ◌++◌, ◌⊎◌, eqb, ltb}
use Rattle.lattice.specs.declared.settings.Settings.{Settings}
use Rattle.lattice.specs.declared.shape.Shape.{Shape}
use Rattle.lattice.specs.declared.shape.Window.{Window}
use Rattle.lattice.specs.declared.class.Placement.{Placement}
use Rattle.lattice.specs.Refusal.{Listed, listed, unless, beside, figure}
use Rattle.lattice.specs.Shape.{shape_number, after_shape, cells_of, shape_refusals}
use Rattle.lattice.specs.Settings.{settings, settings_of}
use Rattle.lattice.specs.Cell.{Cell, cell_at}
use Rattle.lattice.specs.Position.{Layout}

-- (a − z) mod m, from 0 to m − 1 also where z is above a
unfoldable pub minus_mod : ℕ → ℕ → ℕ → ℕ
minus_mod a z m = (a + (m - z % m)) % m

-- (column − b × row − c × plane) mod m
unfoldable pub class_with : Settings → Cell → ℕ
class_with k x = minus_mod x.column (k.b * x.row + k.c * x.plane) k.m

-- the class of a cell by a window of p rows and q columns: (row mod p) × q + (column mod q)
unfoldable pub window_class : Window → Cell → ℕ
window_class w x = x.row % w.rows * w.columns + x.column % w.columns

-- strength 0 means that the window rules
abbrev by_window : Shape → Bool
by_window s = eqb s.strength 0

-- the number of classes of a field, m: by a window p × q
unfoldable pub classes_of : Shape → ℕ
classes_of s = cond (by_window s) (s.window.rows * s.window.columns) (settings_of s).m

-- the class of a cell of a field
unfoldable pub class_of : Shape → Cell → ℕ
class_of s x = cond (by_window s) (window_class s.window x) (class_with (settings_of s) x)

-- the class of the cell with a byte number
abbrev pub class_at : Shape → ℕ → ℕ
class_at s i = class_of s (cell_at s i)

-- the layout of a field: the class of each of its W × H × D cells
abbrev pub layout_of : Shape → Layout
layout_of s = record { class = class_at s; cells = cells_of s }

-- the cell lies in the shape
unfoldable pub inside : Shape → Cell → Bool
inside s x = ltb x.row s.rows && ltb x.plane s.planes && ltb x.column s.columns

-- the number for the class of a cell: the shape's, then 4 for a row, plane or column outside the shape
unfoldable pub class_number : Shape → Cell → ℕ
class_number s x = after_shape s (unless (inside s x) 4 0)

-- the class that is given: the cell's, or 0 beside a refusal
unfoldable pub class_given : Shape → Cell → ℕ
class_given s x = figure (class_number s x) (class_of s x)

-- 4: a row, plane or column outside the shape
unfoldable pub OutsideShape : Shape → Cell → Type 0
OutsideShape s x = (s.rows ≤ x.row) ⊎ ((s.planes ≤ x.plane) ⊎ (s.columns ≤ x.column))

-- the refusals of the class of a cell, in the listed order
abbrev pub class_refusals : Shape → Cell → List Listed
class_refusals s x = shape_refusals s ++ (listed 4 (OutsideShape s x) ∷ [])

-- how the cells of a field are placed in classes, as one value that a pass over the cells is handed: so many slices of classes,
-- which the rows have by turns, and the settings of the classes in a slice. By strength all rows have one slice
unfoldable pub placement_of : Shape → Placement
placement_of s =
    cond (by_window s)
    (record { slices = s.window.rows; settings = settings s.window.columns 0 0 })
    (record { slices = 1; settings = settings_of s })

-- the placement that a shape gives: its own, or all 0 where the constructor refuses it
unfoldable pub placement_given : Shape → Placement
placement_given s = beside (shape_number s) (placement_of s) (record { slices = 0; settings = settings 0 0 0 })

-- the class of a cell by a placement: (row mod slices) × m + (column − b × row − c × plane) mod m
unfoldable pub class_by : Placement → Cell → ℕ
class_by p x = x.row % p.slices * p.settings.m + class_with p.settings x
