-- `hex_value` meets its contract: a digit is at least 48, and one from 58 on at least 87, so that neither difference wraps.
use mathlib.Core.Path.{sym}
use Rattle.card.proofs.theory.PayloadStored.{hex_least, hex_letter}
use Rattle.card.proofs.theory.HexText.{value_low, value_high}
use Rattle.card.proofs.body.hex_value.Goals as goal

pub overflow_sub-result : goal.overflow_sub-result
overflow_sub-result c = hex_least _ c.requires

pub overflow_sub-result-else-byte-lt58 : goal.overflow_sub-result-else-byte-lt58
overflow_sub-result-else-byte-lt58 c = hex_letter _ c.requires c.if-byte-lt58.false

pub returns-then-byte-lt58 : goal.returns-then-byte-lt58
returns-then-byte-lt58 c = sym (value_low _ c.if-byte-lt58.true)

pub returns-else-byte-lt58 : goal.returns-else-byte-lt58
returns-else-byte-lt58 c = sym (value_high _ c.if-byte-lt58.false)
