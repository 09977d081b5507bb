-- `varmintfoil_correct_levels` meets its contract: its figures are those of the answer.
use mathlib.Core.Path.{◌∙◌}
use Rattle.varmintfoil.proofs.varmintfoil_correct_levels.Goals as goal

pub returns : goal.returns
returns c =
    let correct_levels_in = c.correct_levels_in-answer in
    record {
      number = c.number.ensures ∙ correct_levels_in.ensures.number;
      count = c.figure.ensures ∙ correct_levels_in.ensures.count;
      leaves = correct_levels_in.ensures.leaves;
    }
