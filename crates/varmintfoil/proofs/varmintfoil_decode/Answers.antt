-- `varmintfoil_decode` meets its contract: its figures are those of the answer.
use mathlib.Core.Path.{◌∙◌}
use Rattle.varmintfoil.proofs.varmintfoil_decode.Goals as goal

pub returns : goal.returns
returns c =
    let decode_in = c.decode_in-answer in
    record {
      number = c.number.ensures ∙ decode_in.ensures.number;
      count = c.figure.ensures ∙ decode_in.ensures.count;
      leaves = decode_in.ensures.leaves;
    }
