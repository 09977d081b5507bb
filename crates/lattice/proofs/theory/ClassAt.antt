-- The class of the cell with a byte number.
use Prim.Native.Nat.{ℕ, ◌/◌, ◌%◌, ◌<◌}
use mathlib.Core.Path.{◌≡◌, ap, ◌∙◌}
use native.Mathlib.Nat.{lt_of_lt_of_le}
use Rattle.lattice.specs.declared.shape.Shape.{Shape}
use Rattle.lattice.specs.declared.class.Placement.{Placement}
use Rattle.lattice.specs.Cell.{Cell, cell, cell_at}
use Rattle.lattice.specs.Class.{class_of, class_at, placement_given, class_by}
use Rattle.lattice.specs.Refusal.{figure}
use Rattle.lattice.specs.Shape.{max_classes, shape_number, Accepted, cells_of}
use Rattle.lattice.proofs.theory.ClassBelow.{class_below}
use Rattle.lattice.proofs.theory.Answers.{beside_zero}
use Rattle.lattice.proofs.theory.Placements.{class_placed, placement_accepted, classes_limit}

-- the cell with a byte number, from its line: the row and the plane together
cell_at_lem : (s : Shape) (i line row plane column : ℕ) → line ≡ i / s.columns → row ≡ line % s.rows → plane ≡ line / s.rows
    → column ≡ i % s.columns → cell row plane column ≡ cell_at s i
unfolding cell_at
cell_at_lem s i line row plane column l r p c = rw (r, p, c, l)

pub class_at_lem : (k : Placement) (s : Shape) (i line row plane column a : ℕ) → line ≡ i / s.columns → row ≡ line % s.rows
    → plane ≡ line / s.rows → column ≡ i % s.columns → a ≡ class_by k (cell row plane column) → a ≡ class_by k (cell_at s i)
class_at_lem k s i line row plane column a l r p c e = e ∙ ap (class_by k) (cell_at_lem s i line row plane column l r p c)

-- by the placement of an accepted shape the class of a cell is its own
pub placed : (s : Shape) → Accepted s → (x : Cell) → class_by (placement_given s) x ≡ class_of s x
placed s a x = ap (λ (p : Placement). class_by p x) (placement_accepted s a) ∙ class_placed s x

-- a cell of an accepted shape, and its class by the shape's placement
module _ (s : Shape) (a : Accepted s) where
  -- the number of cells that the shape gives is its own
  pub at_cells : (n : ℕ) → n ≡ figure (shape_number s) (cells_of s) → n ≡ cells_of s
  at_cells n e = e ∙ beside_zero (shape_number s) (cells_of s) 0 a

  module _ (p : Placement) (g : p ≡ placement_given s) (i r : ℕ) (q : r ≡ class_by p (cell_at s i)) where
    pub at_class : r ≡ class_at s i
    at_class = q ∙ ap (λ (k : Placement). class_by k (cell_at s i)) g ∙ placed s a (cell_at s i)

    pub at_below : r < max_classes
    at_below = rw at_class (lt_of_lt_of_le (class_below s a (cell_at s i)) (classes_limit s a))
