-- The cells of a pass over a field of an accepted shape.
use Prim.Native.Nat.{ℕ, ◌<◌}
use mathlib.Core.Path.{◌≡◌, sym, ◌∙◌}
use lib.ListN.{replicate}
use Rattle.lattice.specs.declared.shape.Shape.{Shape}
use Rattle.lattice.specs.Shape.{max_classes, cells_of}
use Rattle.lattice.specs.Class.{layout_of}
use Rattle.lattice.specs.Position.{Layout}
use Rattle.lattice.specs.Sizes.{HoldsSizes}
use Rattle.lattice.proofs.theory.Positions.{size_none}
use Rattle.codec.proofs.theory.WorkArrays.{zeros}
use Rattle.levels.specs.declared.tour.Tour.{Tour}
use Rattle.levels.specs.Working.{AtTour, Toured}

-- before the first cell there is none
counts_none : (L : Layout) → HoldsSizes L (replicate max_classes 0) 0
counts_none L = record { at = λ a l. zeros.at a l ∙ sym (size_none L a) }

pub toured_none : (s : Shape) (x : Tour) → AtTour s 0 x → Toured s x (replicate max_classes 0) 0
toured_none s x w = record { tour = w; counted = counts_none (layout_of s) }

-- a cell of the field's length
pub cell_below : (s : Shape) (n i : ℕ) → n ≡ cells_of s → i < n → i < cells_of s
cell_below s n i e l = rw (← e) l
