-- The digits of a field of levels, counted from a table of the sizes of its classes.
use Prim.Native.Nat.{ℕ, ◌*◌, ◌<◌}
use mathlib.Core.List.{List}
use mathlib.Core.Path.{◌≡◌, refl, ap}
use lib.ListN.{get_or}
use Rattle.lattice.specs.declared.shape.Shape.{Shape}
use Rattle.lattice.specs.Refusal.{figure}
use Rattle.lattice.specs.Shape.{shape_number, cells_of, Accepted}
use Rattle.lattice.specs.Class.{classes_of, layout_of}
use Rattle.lattice.specs.Position.{Layout, size}
use Rattle.lattice.specs.Sizes.{HoldsSizes}
use Rattle.lattice.specs.Digits.{words_in, words_below, digits_below, digits_of, digits_in}
use Rattle.lattice.proofs.theory.Counting.{sum_same}
use Rattle.lattice.proofs.theory.CapacityGiven.{over_given, sizes_own}

-- where the table has the sizes of m classes, they are the digits that these hold
digits_held : (L : Layout) (m : ℕ) (xs : List ℕ) → ((a : ℕ) → a < m → get_or xs a 0 ≡ size L a) → digits_in xs m
    ≡ digits_below L m
unfolding digits_in digits_below words_below
digits_held L m xs p = ap (λ (k : ℕ). 5 * k) (sum_same _ _ m (λ a l. ap words_in (p a l)))

-- for every shape that is the number of digits that it gives
pub digits_given : (s : Shape) (xs : List ℕ) (m : ℕ) → (Accepted s → HoldsSizes (layout_of s) xs (cells_of s))
    → m ≡ figure (shape_number s) (classes_of s) → digits_in xs m ≡ figure (shape_number s) (digits_of s)
unfolding digits_in
digits_given s xs m p given =
    over_given s m (digits_of s) (digits_in xs) refl given
    (λ e. digits_held (layout_of s) (classes_of s) xs (sizes_own s xs e (p e)))
