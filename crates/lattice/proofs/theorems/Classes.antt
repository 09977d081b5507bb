-- The classes of cells: the terms of the theorems.
use mathlib.Core.Path.{◌≡◌, ◌∙◌}
use Rattle.lattice.specs.declared.shape.Shape.{Shape}
use Rattle.lattice.specs.Shape.{Accepted, cells_of, shape_number}
use Rattle.lattice.specs.Cell.{Cell, InField, cell_at}
use Rattle.lattice.specs.Class.{classes_of, class_at, class_number, class_given, class_of, inside}
use Rattle.lattice.specs.theorems.Classes.{ClassIsRemainder, ClassesBelow, ClassIsGiven}
use Rattle.lattice.proofs.theory.ClassRemainder.{is, only, class_point}
use Rattle.lattice.proofs.theory.ClassBelow.{class_below}
use Rattle.lattice.proofs.theory.Placements.{class_window, classes_limit}
use Rattle.lattice.proofs.theory.Pigeonhole.{different_values_few}
use Rattle.lattice.proofs.theory.Answers.{or_else_zero, beside_zero, unless_zero}
use Rattle.lattice.proofs.theory.InField.{inside_field}

-- Theorem. With m of at least 1 the class of a cell is the one number r below m for which column − b × row − c × plane − r is a
-- multiple of m.
pub class_is_remainder : ClassIsRemainder
class_is_remainder = record { is = is; only = only }

-- Theorem. In a field that the constructor accepts the class of a cell is below m, so at most m classes hold a cell, and m is at
-- most 512.
pub classes_below : ClassesBelow
classes_below =
    record {
      below = class_below;
      limit = classes_limit;
      most = λ s a. different_values_few (class_at s) (classes_of s) (cells_of s) (λ i h. class_below s a (cell_at s i));
    }

-- where the number is 0, the shape is accepted, the cell lies in the field and its class is given
module _ (s : Shape) (x : Cell) (e : class_number s x ≡ 0) where
  taken : Accepted s × InField s x
  unfolding class_number
  taken =
      let zero = or_else_zero (shape_number s) _ e in
      (zero.0, inside_field s x (unless_zero (inside s x) 3 0 zero.1).0)

  given : class_given s x ≡ class_of s x
  unfolding class_given
  given = beside_zero (class_number s x) (class_of s x) 0 e

-- Theorem. The class that is given with the number 0 is the cell's, by strength or by window, and the cell lies in the field.
pub class_is_given : ClassIsGiven
class_is_given =
    record {
      field = λ s x e. (taken s x e).1;
      by_strength = λ s x e some. rw (given s x e) (class_point s (taken s x e).0 some x);
      window_rule = λ s x e z. given s x e ∙ class_window s z x;
    }
