-- `locate` meets its contract.
use mathlib.Core.Path.{sym}
use native.Mathlib.Omega.{arith}
use Rattle.lattice.specs.Shape.{cells_of}
use Rattle.codec.specs.Field.{field_of, Cells}
use Rattle.codec.proofs.theory.CellValues.{most_cell}
use Rattle.codec.proofs.theory.LocatedCells.{located_plain}
use Rattle.codec.proofs.erasures.Listed.{plain_few}
use Rattle.codec.proofs.erasures.locate.Goals.{Then-most-lt-ERASED}
use Rattle.codec.proofs.erasures.locate.Goals as goal

-- no cell is erased
plain : (c : Then-most-lt-ERASED) → let e = c.args in Cells (field_of e.field.now) (cells_of e.shape)
plain c i l = most_cell _ (omega (arith, c.if-most-lt-ERASED.true, c.requires.by_index i l))

pub returns-then-most-lt-ERASED : goal.returns-then-most-lt-ERASED
returns-then-most-lt-ERASED c =
    let ok = c.requires.field_fits.0.accepted in
    let none = c.requires.holds_none in
    record {
      value = sym (plain_few c.args.shape ok _ (plain (goal.at.returns-then-most-lt-ERASED c).Then-most-lt-ERASED));
      located = λ z. located_plain c.args.shape ok c.args.field.now c.args.syndromes.now _ c.requires.holds_syndromes
          (c.cells_at.ensures.cells_at ok) (plain (goal.at.returns-then-most-lt-ERASED c).Then-most-lt-ERASED) _ _ none.0 none.1;
    }
