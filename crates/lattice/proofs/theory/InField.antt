-- The test that a cell lies in the field.
use mathlib.Core.Bool.{Bool, true, ◌&&◌}
use mathlib.Core.Path.{◌≡◌}
use lib.Dec.{ltb}
use borrow.Author.Tests.{ltb-true}
use Rattle.lattice.specs.declared.shape.Shape.{Shape}
use Rattle.lattice.specs.Cell.{Cell, InField}
use Rattle.lattice.specs.Class.{inside}
use Rattle.lattice.proofs.theory.Bools.{and_left, and_right}

module _ (s : Shape) (x : Cell) where
  pub inside_field : inside s x ≡ true → InField s x
  unfolding inside
  inside_field p =
      let r : Bool = ltb x.row s.rows in
      let d : Bool = ltb x.plane s.planes in
      let c : Bool = ltb x.column s.columns in
      let rd : (r && d) ≡ true = and_left (r && d) c p in
      record {
        row = ltb-true _ _ (and_left r d rd);
        plane = ltb-true _ _ (and_right r d rd);
        column = ltb-true _ _ (and_right (r && d) c p);
      }
