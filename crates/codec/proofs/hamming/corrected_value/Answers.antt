-- `corrected_value` meets its contract: the value after each of the three arrays.
use mathlib.Core.Path.{sym, ◌∙◌}
use Rattle.codec.proofs.theory.NamedCells.{named_value}
use Rattle.codec.proofs.hamming.corrected_value.Goals as goal

pub returns : goal.returns
returns c =
    λ L f own value.
    c.flipped_by.ensures
    ∙ named_value L _ _ _ own
    (c.flipped_by-twice.ensures
    ∙ named_value L _ _ _ own (c.flipped_by-once.ensures ∙ named_value L _ f _ own (sym value)))
