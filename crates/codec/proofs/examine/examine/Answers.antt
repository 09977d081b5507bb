-- `examine` meets its contract: the values of the cells, then the tests of a field of cells and erasures.
use mathlib.Core.Path.{◌≡◌, ap, ◌∙◌}
use native.Mathlib.Omega.{arith}
use Rattle.lattice.specs.Shape.{cells_of}
use Rattle.lattice.proofs.theory.Bools.{failed}
use Rattle.lattice.proofs.theory.Limits.{legal}
use Rattle.codec.specs.Field.{field_of, cells_ok}
use Rattle.codec.proofs.theory.FieldNumber.{number_cell}
use Rattle.codec.proofs.examine.examine.Goals.{After-is_received}
use Rattle.codec.proofs.examine.examine.Goals as goal

-- the test of the cells
cells : (c : After-is_received)
    → c.is_received.result ≡ cells_ok (field_of c.args.field.now) (cells_of c.args.shape)
cells c =
    c.is_received.ensures
    ∙ c.greatest-most.ensures.result_value
    ∙ ap (cells_ok (field_of c.args.field.now)) c.requires.field_fits.long

pub returns-then-not-is_received : goal.returns-then-not-is_received
returns-then-not-is_received c =
    record {
      result_value = number_cell _ _ (failed _ _ c.if-not-is_received.true
          (cells (goal.at.returns-then-not-is_received c).After-is_received));
      sound = λ z. absurd (omega arith);
    }

pub count_erased-requires : goal.count_erased-requires
count_erased-requires c =
    record {
      field_len_bound = omega (arith, c.requires.field_fits.long, (legal c.args.shape c.requires.field_fits.accepted).product);
      by_index = c.greatest-most.ensures.by_index;
    }
