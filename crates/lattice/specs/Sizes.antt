-- Arrays with an entry for each class, and the place of a cell that is found from them. Only contracts of functions that pass
-- over the cells cite this file.
use Rattle.std.specs.Prelude.{ℕ, ◌+◌, ◌<◌, List, ◌≡◌, get_or}
use Rattle.lattice.specs.declared.class.Placement.{Placement}
use Rattle.lattice.specs.declared.shape.Shape.{Shape}
use Rattle.lattice.specs.Shape.{max_classes, Accepted, cells_of}
use Rattle.lattice.specs.Class.{class_at, layout_of, placement_given}
use Rattle.lattice.specs.Position.{Layout, size_to, size, position}

-- the array holds 0 for each class
pub record HoldsZeros (l : List ℕ) : Type 0 where
  pub at : (a : ℕ) → a < max_classes → get_or l a 0 ≡ 0

-- the array holds the number of cells of each class among the first n cells
pub record HoldsSizes (L : Layout) (l : List ℕ) (n : ℕ) : Type 0 where
  pub at : (a : ℕ) → a < max_classes → get_or l a 0 ≡ size_to L a n

-- the array holds the number of cells of each class from cell n on
pub record HoldsRest (L : Layout) (l : List ℕ) (n : ℕ) : Type 0 where
  pub at : (a : ℕ) → a < max_classes → get_or l a 0 + size_to L a n ≡ size L a

-- entry a of an array becomes v, and the others stay
pub record EntryStored (before after : List ℕ) (a v : ℕ) : Type 0 where
  pub own : get_or after a 0 ≡ v
  pub others : (b : ℕ) → (b ≡ a → ⊥) → get_or after b 0 ≡ get_or before b 0

-- the next cell of a pass from the field's end is cell i; one array holds the sizes of the classes, one counts the cells behind
pub record AtCellBack (s : Shape) (k : Placement) (sizes behind : List ℕ) (i : ℕ) : Type 0 where
  pub accepted : Accepted s
  pub placement : k ≡ placement_given s
  pub below : i < cells_of s
  pub sized : HoldsSizes (layout_of s) sizes (cells_of s)
  pub counted : HoldsRest (layout_of s) behind (i + 1)

-- the place of cell i is this class and position
pub record AtPlace (s : Shape) (i a p : ℕ) : Type 0 where
  pub class : a ≡ class_at s i
  pub below : a < max_classes
  pub position : p ≡ position (layout_of s) i
