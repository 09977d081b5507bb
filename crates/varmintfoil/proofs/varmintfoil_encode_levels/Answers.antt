-- `varmintfoil_encode_levels` meets its contract: its figures are those of the answer.
use mathlib.Core.Path.{◌∙◌}
use Rattle.varmintfoil.proofs.varmintfoil_encode_levels.Goals as goal

pub returns : goal.returns
returns c =
    let encode_levels_in = c.encode_levels_in in
    record { number = c.number.ensures ∙ encode_levels_in.ensures.number; leaves = encode_levels_in.ensures.leaves }
