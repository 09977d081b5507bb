-- `check_for` meets its contract.
use Rattle.levels.proofs.encode.WrittenCells.{check_below}
use Rattle.levels.proofs.encode.check_for.Goals as goal

pub returns : goal.returns
returns c = check_below _ c.requires
