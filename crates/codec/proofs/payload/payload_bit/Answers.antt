-- `payload_bit` meets its contract.
use Rattle.codec.proofs.theory.PayloadByte.{payload_bit_is}
use Rattle.codec.proofs.payload.payload_bit.Goals as goal

pub returns : goal.returns
returns c = payload_bit_is _ _
