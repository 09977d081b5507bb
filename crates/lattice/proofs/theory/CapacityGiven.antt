-- The classes that a shape gives, within their limit, what is counted over them, and the capacity from the table of their sizes.
use Prim.Native.Nat.{ℕ, ◌<◌, ◌≤◌, zero-le}
use mathlib.Core.List.{List}
use mathlib.Core.Path.{◌≡◌, refl, sym, ap, ◌∙◌}
use native.Mathlib.Decide.{ℕ_discrete}
use native.Mathlib.Nat.{lt_of_lt_of_le}
use lib.ListN.{get_or}
use Rattle.lattice.specs.declared.shape.Shape.{Shape}
use Rattle.lattice.specs.Refusal.{figure}
use Rattle.lattice.specs.Shape.{shape_number, cells_of, max_classes, Accepted}
use Rattle.lattice.specs.Cell.{cell_at}
use Rattle.lattice.specs.Class.{classes_of, layout_of}
use Rattle.lattice.specs.Position.{Layout, size}
use Rattle.lattice.specs.Check.{data_cells, capacity, data_in}
use Rattle.lattice.specs.Sizes.{HoldsSizes}
use Rattle.lattice.proofs.theory.Placements.{classes_limit}
use Rattle.lattice.proofs.theory.CapacityByClass.{capacity_by_class}
use Rattle.lattice.proofs.theory.ClassBelow.{class_below}
use Rattle.lattice.proofs.theory.Counting.{sum_same}
use Rattle.lattice.proofs.theory.Answers.{beside_zero, beside_other}

-- every shape gives at most 512 classes
pub classes_given : (s : Shape) → figure (shape_number s) (classes_of s) ≤ max_classes
classes_given s = go (ℕ_discrete (shape_number s) 0)
  where
    go : Dec (shape_number s ≡ 0) → figure (shape_number s) (classes_of s) ≤ max_classes
    go (yes a) = rw (beside_zero (shape_number s) (classes_of s) 0 a) (classes_limit s a)
    go (no r) = rw (beside_other (shape_number s) (classes_of s) 0 r) zero-le

-- what is summed or counted over the classes that a shape gives: of an accepted shape over its own, and 0 beside a refusal
pub over_given : (s : Shape) (m k : ℕ) (f : ℕ → ℕ) → f 0 ≡ 0 → m ≡ figure (shape_number s) (classes_of s)
    → (Accepted s → f (classes_of s) ≡ k) → f m ≡ figure (shape_number s) k
over_given s m k f none given own = go (ℕ_discrete (shape_number s) 0)
  where
    go : Dec (shape_number s ≡ 0) → f m ≡ figure (shape_number s) k
    go (yes e) = ap f (given ∙ beside_zero (shape_number s) (classes_of s) 0 e) ∙ own e ∙ sym (beside_zero (shape_number s) k 0 e)
    go (no r) = ap f (given ∙ beside_other (shape_number s) (classes_of s) 0 r) ∙ none ∙ sym (beside_other (shape_number s) k 0 r)

-- the table of an accepted shape has the size of each of its classes
pub sizes_own : (s : Shape) (xs : List ℕ) → Accepted s → HoldsSizes (layout_of s) xs (cells_of s)
    → (a : ℕ) → a < classes_of s → get_or xs a 0 ≡ size (layout_of s) a
sizes_own s xs e p a l = p.at a (lt_of_lt_of_le l (classes_limit s e))

-- where the table has the sizes of m classes, and every cell is of one of them, their data cells add up to the capacity
capacity_held : (L : Layout) (m : ℕ) (xs : List ℕ) → ((i : ℕ) → i < L.cells → L.class i < m)
    → ((a : ℕ) → a < m → get_or xs a 0 ≡ size L a) → data_in xs m ≡ capacity L
unfolding data_in
capacity_held L m xs below p = sum_same _ _ m (λ a l. ap data_cells (p a l)) ∙ sym (capacity_by_class L m below)

-- for every shape that is the capacity that it gives
pub capacity_given : (s : Shape) (xs : List ℕ) (m : ℕ) → (Accepted s → HoldsSizes (layout_of s) xs (cells_of s))
    → m ≡ figure (shape_number s) (classes_of s) → data_in xs m ≡ figure (shape_number s) (capacity (layout_of s))
unfolding data_in
capacity_given s xs m p given =
    over_given s m (capacity (layout_of s)) (data_in xs) refl given
    (λ e. capacity_held (layout_of s) (classes_of s) xs (λ i l. class_below s e (cell_at s i)) (sizes_own s xs e (p e)))

-- and of an accepted one its own
pub capacity_accepted : (s : Shape) (xs : List ℕ) (m : ℕ) → Accepted s → HoldsSizes (layout_of s) xs (cells_of s)
    → m ≡ figure (shape_number s) (classes_of s) → data_in xs m ≡ capacity (layout_of s)
capacity_accepted s xs m e p given =
    capacity_given s xs m (λ _. p) given ∙ beside_zero (shape_number s) (capacity (layout_of s)) 0 e
