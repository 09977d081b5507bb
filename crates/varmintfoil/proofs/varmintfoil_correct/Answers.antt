-- `varmintfoil_correct` meets its contract: its figures are those of the answer.
use mathlib.Core.Path.{◌∙◌}
use Rattle.varmintfoil.proofs.varmintfoil_correct.Goals as goal

pub returns : goal.returns
returns c =
    let correct_in = c.correct_in-answer in
    record {
      number = c.number.ensures ∙ correct_in.ensures.number;
      count = c.figure.ensures ∙ correct_in.ensures.count;
      leaves = correct_in.ensures.leaves;
    }
