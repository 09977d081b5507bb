-- The number of the class of a cell: what each of its tests adds, and what the number 0 tells.
use Prim.Native.Nat.{ℕ}
use mathlib.Core.Bool.{true, false}
use mathlib.Core.Path.{◌≡◌, sym, ap, ◌∙◌}
use Rattle.std.specs.Prelude.{Ok}
use Rattle.lattice.specs.declared.refusal.Refusal.{Refusal}
use Rattle.lattice.specs.declared.shape.Shape.{Shape}
use Rattle.lattice.specs.declared.class.Placement.{Placement}
use Rattle.lattice.specs.Refusal.{refusal_number}
use Rattle.lattice.specs.Shape.{shape_number, Accepted}
use Rattle.lattice.specs.Cell.{Cell, InField}
use Rattle.lattice.specs.Class.{inside, class_number, class_given, placement_given, class_by}
use Rattle.lattice.specs.Answer.{IsCellClass}
use Rattle.lattice.proofs.theory.Answers.{done, earlier_told, unless_zero, or_else_zero}
use Rattle.lattice.proofs.theory.ClassAt.{placed}
use Rattle.lattice.proofs.theory.InField.{inside_field}

module _ (s : Shape) (x : Cell) where
  -- the shape's refusal stands; an accepted shape leaves the number to the cell
  pub class_refused_lem : (r : Refusal) → refusal_number r ≡ shape_number s → refusal_number r ≡ class_number s x
  unfolding class_number
  class_refused_lem r e = earlier_told r _ _ e

  pub outside_number : Accepted s → inside s x ≡ false → class_number s x ≡ 4
  unfolding class_number
  outside_number a p = rw (a, p)

  pub inside_number : Accepted s → inside s x ≡ true → class_number s x ≡ 0
  unfolding class_number
  inside_number a p = rw (a, p)

  -- what the number 0 tells: the shape is accepted, and the cell lies in the field
  pub record Classed : Type 0 where
    pub none : class_number s x ≡ 0
    pub accepted : Accepted s
    pub field : InField s x

  pub classed : class_number s x ≡ 0 → Classed
  unfolding class_number
  classed e =
      let both = or_else_zero (shape_number s) _ e in
      record { none = e; accepted = both.0; field = inside_field s x (unless_zero (inside s x) 3 0 both.1).0 }

  -- the class by the shape's placement is the cell's
  pub class_given_lem : (k : Placement) (a : ℕ) → Classed → k ≡ placement_given s → a ≡ class_by k x
      → IsCellClass s x (Ok a)
  unfolding class_given
  class_given_lem k a c g e =
      record {
        number = sym c.none;
        class = done _ _ _ _ c.none (e ∙ ap (λ (j : Placement). class_by j x) g ∙ placed s c.accepted x);
        reason = λ z. cc;
      }
