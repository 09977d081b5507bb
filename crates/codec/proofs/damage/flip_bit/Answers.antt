-- `flip_bit` meets its contract.
use Rattle.codec.proofs.theory.FlippedBits.{bit_flipped}
use Rattle.codec.proofs.damage.flip_bit.Goals as goal

pub returns-then-j-payload : goal.returns-then-j-payload
returns-then-j-payload c = bit_flipped _ _ c.if-j-payload.true
