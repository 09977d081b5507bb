-- `cells_at` meets its contract.
use native.Mathlib.Omega.{arith}
use mathlib.Core.Path.{◌≡◌, sym, ◌∙◌}
use Rattle.lattice.specs.Lines.{pass_of}
use Rattle.lattice.proofs.theory.NextLine.{pass_accepted}
use Rattle.lattice.proofs.theory.SizesByLines.{classes_are}
use Rattle.passes.proofs.cell_places.cells_at.Goals.{After-pass}
use Rattle.passes.proofs.cell_places.cells_at.Goals as goal

-- the pass is the shape's own
own : (c : After-pass) → c.pass.result ≡ pass_of c.args.shape
own c = c.pass.ensures ∙ pass_accepted _ (sym c.in-Ok.ensures)

pub place_all-requires : goal.place_all-requires
place_all-requires c = (
  record {
    shape = _;
    accepted = sym c.in-Ok.ensures;
    same = own
        (goal.at.place_all-requires c).After-pass;
  },
  omega arith,
  omega arith,
)

pub returns : goal.returns
returns c =
    let same = own (goal.at.returns c).After-pass in
    record {
      cells_at = (λ ok. rw (classes_are _ ok _ same) at (c.place_all.ensures _ ok same));
      cells_unchanged = λ refused. absurd (refused (sym c.in-Ok.ensures));
    }
