-- `is_received` meets its contract.
use Rattle.codec.proofs.theory.CellValues.{received_is}
use Rattle.codec.proofs.cell.is_received.Goals as goal

pub returns : goal.returns
returns c = received_is _
