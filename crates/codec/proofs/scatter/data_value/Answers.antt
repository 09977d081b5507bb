-- `data_value` meets its contract.
use mathlib.Core.Path.{sym, ◌∙◌}
use native.Mathlib.Omega.{arith}
use Rattle.codec.proofs.theory.PayloadBits.{value_bit, value_padding}
use Rattle.codec.proofs.scatter.data_value.Goals as goal

pub returns-then-k-payload : goal.returns-then-k-payload
returns-then-k-payload c = c.payload_bit.ensures ∙ sym (value_bit _ _ _ _ (omega (arith, c.if-k-payload.true)))

pub returns-else-k-payload : goal.returns-else-k-payload
returns-else-k-payload c = c.padding_value.ensures ∙ sym (value_padding _ _ _ _ (omega (arith, c.if-k-payload.false)))
