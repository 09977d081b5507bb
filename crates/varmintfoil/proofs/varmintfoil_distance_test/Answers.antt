-- `varmintfoil_distance_test` meets its contract: its figures are those of the answer.
use mathlib.Core.Path.{ap, ◌∙◌}
use borrow.Author.Rules.{rules}
use Rattle.lattice.specs.declared.distance.Triple.{Triple}
use Rattle.varmintfoil.specs.Boundary.{as_number}
use Rattle.varmintfoil.proofs.varmintfoil_distance_test.Goals as goal

pub returns : goal.returns
returns c =
    let answer = c.distance_test-answer.ensures.distance_test in
    let found = c.failing-triple.ensures ∙ answer.triple in
    record {
      number = c.number.ensures ∙ answer.number;
      holds = c.as_number.ensures ∙ ap as_number (c.holds.ensures ∙ answer.verdict);
      row = (search rules) ∙ ap (λ (x : Triple). x.row) found;
      plane = (search rules) ∙ ap (λ (x : Triple). x.plane) found;
      column = (search rules) ∙ ap (λ (x : Triple). x.column) found;
      tried = c.tried.ensures ∙ answer.tried;
    }
