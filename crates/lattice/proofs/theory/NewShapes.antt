-- What the constructor's answer tells of the numbers that it was given.
use Prim.Native.Nat.{ℕ}
use mathlib.Core.Path.{◌≡◌, sym, ap, ◌∙◌}
use Rattle.std.specs.Prelude.{Result, Ok, Err}
use Rattle.lattice.specs.declared.refusal.Refusal.{Refusal}
use Rattle.lattice.specs.declared.shape.Shape.{Shape}
use Rattle.lattice.specs.declared.shape.ShapeNumbers.{ShapeNumbers}
use Rattle.lattice.specs.Refusal.{refusal_number, number_of}
use Rattle.lattice.specs.Shape.{shape_from, shape_number, Accepted, after_shape}
use Rattle.lattice.specs.Answer.{IsNewShape, new_shape}
use Rattle.lattice.proofs.theory.Answers.{beside_zero, earlier_told}
use Rattle.lattice.proofs.theory.Limits.{number_other}

module _ (n : ShapeNumbers) (r : Result Shape Refusal) (x : IsNewShape n r) where
  -- a refusal is theirs
  module _ (why : Refusal) (e : r ≡ Err why) where
    pub new_refused : refusal_number why ≡ shape_number (shape_from n)
    new_refused = sym (ap number_of e) ∙ x.number

    -- it stands before any later test
    pub new_first : (later : ℕ) → refusal_number why ≡ after_shape (shape_from n) later
    new_first later = earlier_told why _ later new_refused

    -- and is neither of the two reasons with the number 4
    pub new_other : (q : Refusal) → refusal_number q ≡ 4 → why ≡ q → ⊥
    new_other q four same = number_other (shape_from n) (sym new_refused ∙ ap refusal_number same ∙ four)

  -- and a shape that is given is the shape of the numbers, which are accepted
  module _ (s : Shape) (e : r ≡ Ok s) where
    pub new_accepted : Accepted (shape_from n)
    new_accepted = sym x.number ∙ ap number_of e

    pub new_shape_lem : s ≡ shape_from n
    new_shape_lem = sym (ap new_shape e) ∙ x.shape ∙ beside_zero _ _ _ new_accepted
