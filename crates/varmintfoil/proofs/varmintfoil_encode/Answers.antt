-- `varmintfoil_encode` meets its contract: its figures are those of the answer.
use mathlib.Core.Path.{◌∙◌}
use Rattle.varmintfoil.proofs.varmintfoil_encode.Goals as goal

pub returns : goal.returns
returns c =
    let encode_in = c.encode_in in
    record { number = c.number.ensures ∙ encode_in.ensures.number; leaves = encode_in.ensures.leaves }
