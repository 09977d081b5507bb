-- `varmintfoil_decode_levels` meets its contract: its figures are those of the answer.
use mathlib.Core.Path.{◌∙◌}
use Rattle.varmintfoil.proofs.varmintfoil_decode_levels.Goals as goal

pub returns : goal.returns
returns c =
    let decode_levels_in = c.decode_levels_in-answer in
    record {
      number = c.number.ensures ∙ decode_levels_in.ensures.number;
      count = c.figure.ensures ∙ decode_levels_in.ensures.count;
      leaves = decode_levels_in.ensures.leaves;
    }
