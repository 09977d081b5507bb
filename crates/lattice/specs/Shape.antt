-- The shape of a field: its limits, the refusals 1, 2 and 11, and its number of cells.
use Rattle.std.specs.Prelude.{ℕ, ◌*◌, ◌<◌, Bool, cond, not, ◌&&◌, List, [], ◌∷◌, ◌≢◌, ◌⊎◌, ◌≡◌, leb, eqb}
use Rattle.lattice.specs.declared.shape.Shape.{Shape}
use Rattle.lattice.specs.declared.shape.ShapeNumbers.{ShapeNumbers}
use Rattle.lattice.specs.declared.shape.Window.{Window}
use Rattle.lattice.specs.Refusal.{Listed, Condition, numbered, listed_at, unless, or_else}
use Rattle.lattice.specs.Range.{in_range, Outside}

-- the shape of numbers of any size: the definitions below say which are refused
abbrev pub shape_from : ShapeNumbers → Shape
shape_from n =
    record { columns = n.columns; rows = n.rows; planes = n.planes; strength = n.strength; window = n.window }

-- a window of p rows and q columns, the papers' oblong; both sides are 0 where there is none
abbrev pub window : ℕ → ℕ → Window
window p q = record { rows = p; columns = q }

abbrev pub no_window : Window
no_window = window 0 0

unfoldable pub is_none : Window → Bool
is_none w = eqb w.rows 0 && eqb w.columns 0

-- the limits: W and H from 1 to 256, D from 1 to 16, W × H × D at most 65,536
abbrev pub max_side : ℕ
max_side = 256

abbrev pub max_planes : ℕ
max_planes = 16

abbrev pub max_cells : ℕ
max_cells = 65536

-- the strength is 1 to 32 for a flat field, D = 1, and 1 to 8 for a stack; 0 stands for a window
abbrev pub max_flat_strength : ℕ
max_flat_strength = 32

abbrev pub max_stack_strength : ℕ
max_stack_strength = 8

-- a window has at most 512 cells
abbrev pub max_window : ℕ
max_window = 512

-- no accepted shape has more classes: 32²/2, and p × q of a window
abbrev pub max_classes : ℕ
max_classes = 512

unfoldable pub max_strength : ℕ → ℕ
max_strength d = cond (eqb d 1) max_flat_strength max_stack_strength

unfoldable pub size_ok : ℕ → ℕ → ℕ → Bool
size_ok w h d = in_range 1 max_side w && in_range 1 max_side h && in_range 1 max_planes d && leb (w * h * d) max_cells

-- strength 0 stands for a window, of which one side at least isn't 0
unfoldable pub strength_ok : ℕ → ℕ → Window → Bool
strength_ok d t w = cond (eqb t 0) (not (is_none w)) (leb t (max_strength d))

-- a window that rules has 1 to 512 cells, and the field is flat
abbrev pub can_rule : ℕ → Window → Bool
can_rule d w = not (eqb w.rows 0) && not (eqb w.columns 0) && leb (w.rows * w.columns) max_window && leb d 1

-- at strength 0 the window rules; at another strength there is none
unfoldable pub window_ok : ℕ → ℕ → Window → Bool
window_ok d t w = cond (eqb t 0) (can_rule d w) (is_none w)

-- the number for a shape: 1, 2, then 11
unfoldable pub shape_number : Shape → ℕ
shape_number s =
    unless (size_ok s.columns s.rows s.planes) 1
    (unless (strength_ok s.planes s.strength s.window) 2
    (unless (window_ok s.planes s.strength s.window) 11
    0))

-- the constructor accepts these numbers
abbrev pub Accepted : Shape → Type 0
Accepted s = shape_number s ≡ 0

-- the shape's number or, where it is 0, what later tests give
abbrev pub after_shape : Shape → ℕ → ℕ
after_shape s later = or_else (shape_number s) later

-- W × H × D
abbrev pub cells_of : Shape → ℕ
cells_of s = s.columns * s.rows * s.planes

-- 1: W, H, D or their product outside the limits
unfoldable pub BadSize : ℕ → ℕ → ℕ → Type 0
BadSize w h d = Outside 1 max_side w ⊎ (Outside 1 max_side h ⊎ (Outside 1 max_planes d ⊎ (max_cells < w * h * d)))

-- both sides are 0
abbrev pub BothZero : Window → Type 0
BothZero w = (w.rows ≡ 0) × (w.columns ≡ 0)

-- 2: strength 0 with both sides 0, or a strength above the limit for that D
unfoldable pub BadStrength : ℕ → ℕ → Window → Type 0
BadStrength d t w = ((t ≡ 0) × BothZero w) ⊎ (max_strength d < t)

-- one side is 0, p × q is above 512, or there is more than one plane
abbrev pub CannotRule : ℕ → Window → Type 0
CannotRule d w = (w.rows ≡ 0) ⊎ ((w.columns ≡ 0) ⊎ ((max_window < w.rows * w.columns) ⊎ (1 < d)))

-- 11: strength 0 with a window that cannot rule, or another strength with a side that isn't 0
unfoldable pub BadWindow : ℕ → ℕ → Window → Type 0
BadWindow d t w = ((t ≡ 0) × CannotRule d w) ⊎ ((t ≢ 0) × ((w.rows ≢ 0) ⊎ (w.columns ≢ 0)))

-- the shape's refusals, in the listed order
abbrev pub shape_conditions : List (Condition Shape)
shape_conditions =
    numbered 1 (λ s. BadSize s.columns s.rows s.planes)
    ∷ numbered 2 (λ s. BadStrength s.planes s.strength s.window)
    ∷ numbered 11 (λ s. BadWindow s.planes s.strength s.window)
    ∷ []

abbrev pub shape_refusals : Shape → List Listed
shape_refusals s = listed_at shape_conditions s
