-- Whether a cell holds no check, from its place.
use Prim.Native.Nat.{ℕ}
use mathlib.Core.Bool.{Bool, not}
use mathlib.Core.List.{List}
use mathlib.Core.Path.{◌≡◌, ap, ap₂, ◌∙◌}
use lib.ListN.{get_or}
use Rattle.lattice.specs.declared.shape.Shape.{Shape}
use Rattle.lattice.specs.Shape.{cells_of}
use Rattle.lattice.specs.Class.{layout_of}
use Rattle.lattice.specs.Position.{size_to}
use Rattle.lattice.specs.Check.{is_check, holds_data}
use Rattle.lattice.specs.Sizes.{HoldsSizes, AtPlace}

-- with the array of the sizes
pub data_at : (s : Shape) (sizes : List ℕ) → HoldsSizes (layout_of s) sizes (cells_of s)
    → (i a p : ℕ) → AtPlace s i a p
    → (d : Bool) → d ≡ not (is_check (get_or sizes a 0) p) → d ≡ holds_data (layout_of s) i
unfolding holds_data
data_at s sizes sized i a p place d e =
    e
    ∙ ap₂
    (λ (m q : ℕ). not (is_check m q))
    (sized.at a place.below ∙ ap (λ (b : ℕ). size_to (layout_of s) b (cells_of s)) place.class)
    place.position
