-- `is_right` meets its contract.
use Rattle.codec.proofs.examine.Padding.{right_check, right_padding}
use Rattle.codec.proofs.examine.is_right.Goals as goal

pub returns-then-not-is_data : goal.returns-then-not-is_data
returns-then-not-is_data c = right_check _ _ _ _ c.if-not-is_data.true

pub returns : goal.returns
returns c = right_padding _ _ _ _ _ c.if-not-is_data.false c.padding_value.ensures
