-- `hex_digit` meets its contract: below 10 it is a figure, and else a letter.
use mathlib.Core.Path.{sym}
use Rattle.card.proofs.theory.HexText.{digit_low, digit_high}
use Rattle.card.proofs.print.hex_digit.Goals as goal

pub returns-then-value-lt10 : goal.returns-then-value-lt10
returns-then-value-lt10 c = sym (digit_low _ c.if-value-lt10.true)

pub returns-else-value-lt10 : goal.returns-else-value-lt10
returns-else-value-lt10 c = sym (digit_high _ c.if-value-lt10.false)
