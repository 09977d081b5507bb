-- The classes that hold at least one cell: of any layout of cells in classes, and of a field.
use Rattle.std.specs.Prelude.{ℕ, Bool, List, ltb, get_or}
use Rattle.lattice.specs.declared.shape.Shape.{Shape}
use Rattle.lattice.specs.Counting.{count}
use Rattle.lattice.specs.Position.{Layout, size}
use Rattle.lattice.specs.Class.{classes_of, layout_of}

-- a class of n cells holds at least one cell
unfoldable pub is_used : ℕ → Bool
is_used n = ltb 0 n

-- how many of the classes below m hold at least one cell
unfoldable pub used_classes : Layout → ℕ → ℕ
used_classes L m = count (λ a. is_used (size L a)) m

-- of a field: how many of its own classes hold at least one of its cells
abbrev pub used_of : Shape → ℕ
used_of s = used_classes (layout_of s) (classes_of s)

-- the number of classes that hold at least one cell, where the list holds the size of each of m classes
unfoldable pub used_in : List ℕ → ℕ → ℕ
used_in sizes m = count (λ a. is_used (get_or sizes a 0)) m
