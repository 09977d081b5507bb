-- The plan of a field: its classes, capacity, payload bytes, cells, classes that hold a cell and digits, each 0 where the shape
-- is refused.
use Rattle.std.specs.Prelude.{ℕ, ◌/◌}
use Rattle.lattice.specs.declared.shape.Shape.{Shape}
use Rattle.lattice.specs.Refusal.{figure}
use Rattle.lattice.specs.Shape.{shape_number, cells_of}
use Rattle.lattice.specs.Class.{classes_of, layout_of}
use Rattle.lattice.specs.Check.{capacity}
use Rattle.lattice.specs.Used.{used_of}
use Rattle.lattice.specs.Digits.{digits_of}

-- the number: the constructor's
abbrev pub plan_number : Shape → ℕ
plan_number s = shape_number s

-- m
unfoldable pub plan_classes : Shape → ℕ
plan_classes s = figure (plan_number s) (classes_of s)

-- K, the number of cells that hold no check
unfoldable pub plan_capacity : Shape → ℕ
plan_capacity s = figure (plan_number s) (capacity (layout_of s))

-- the payload: K divided by 8, rounded down, in bytes
unfoldable pub plan_bytes : Shape → ℕ
plan_bytes s = plan_capacity s / 8

unfoldable pub plan_cells : Shape → ℕ
plan_cells s = figure (plan_number s) (cells_of s)

-- the number of classes that hold at least one cell
unfoldable pub plan_used : Shape → ℕ
plan_used s = figure (plan_number s) (used_of s)

-- the payload of a field of levels: its digits, five in each word of six cells of a class
unfoldable pub plan_digits : Shape → ℕ
plan_digits s = figure (plan_number s) (digits_of s)
