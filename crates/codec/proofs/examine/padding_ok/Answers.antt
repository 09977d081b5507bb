-- `padding_ok` meets its contract: the pattern is looked for and, where that fails, zeros.
use mathlib.Core.Path.{sym, ◌∙◌}
use Rattle.codec.specs.Payload.{padding_ok}
use Rattle.codec.proofs.examine.Padding.{first_held, second_held}
use Rattle.codec.proofs.examine.padding_ok.Goals as goal

pub returns-then-padded_with : goal.returns-then-padded_with
unfolding padding_ok
returns-then-padded_with c = first_held _ _ _ _ (sym c.padded_with.ensures ∙ c.if-padded_with.true)

pub returns : goal.returns
unfolding padding_ok
returns c =
    c.padded_with-2.ensures
    ∙ second_held _ _ _ _ (sym c.padded_with.ensures ∙ c.if-padded_with.false)
