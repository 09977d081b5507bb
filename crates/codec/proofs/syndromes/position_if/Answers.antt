-- `position_if` meets its contract.
use Rattle.codec.proofs.syndromes.LineTaken.{product_own, product_other}
use Rattle.codec.proofs.syndromes.position_if.Goals as goal

pub returns-then-field-i : goal.returns-then-field-i
returns-then-field-i c = product_own _ _ _ _ c.if-field-i.true

pub returns-else-field-i : goal.returns-else-field-i
returns-else-field-i c = product_other _ _ _ c.args.position c.if-field-i.false
