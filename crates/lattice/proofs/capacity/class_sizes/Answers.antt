-- `class_sizes` meets its contract.
use mathlib.Core.Path.{◌≡◌, sym, ◌∙◌}
use native.Mathlib.Omega.{arith}
use Rattle.lattice.specs.Lines.{pass_of}
use Rattle.lattice.proofs.theory.LineCounts.{zeros_at}
use Rattle.lattice.proofs.theory.NextLine.{pass_accepted}
use Rattle.lattice.proofs.capacity.class_sizes.Goals.{After-pass}
use Rattle.lattice.proofs.capacity.class_sizes.Goals as goal

-- the pass is the shape's own
own : (c : After-pass) → c.pass.result ≡ pass_of c.args.shape
own c = c.pass.ensures ∙ pass_accepted _ (sym c.in-Ok.ensures)

pub sizes_by-requires-clause-of_shape : goal.sizes_by-requires-clause-of_shape
sizes_by-requires-clause-of_shape c = (
  record {
    shape = _;
    accepted = sym c.in-Ok.ensures;
    same = own (goal.at.sizes_by-requires-clause-of_shape c).After-pass;
  },
  omega arith,
)

pub sizes_by-requires-clause-by_index : goal.sizes_by-requires-clause-by_index
sizes_by-requires-clause-by_index c = zeros_at 512

pub returns-clause-holds_sizes : goal.returns-clause-holds_sizes
returns-clause-holds_sizes c = λ ok.
    record { at = λ a l. c.sizes_by.ensures _ ok (own (goal.at.returns-clause-holds_sizes c).After-pass) a }
