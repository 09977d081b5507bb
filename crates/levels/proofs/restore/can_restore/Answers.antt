-- `can_restore` meets its contract.
use Rattle.levels.proofs.restore.Restores.{restores_not, restores_is}
use Rattle.levels.proofs.restore.can_restore.Goals as goal

pub returns-then-raised-up : goal.returns-then-raised-up
returns-then-raised-up c = restores_not _ _ c.if-raised-up.true

pub returns : goal.returns
returns c = restores_is _ _ c.if-raised-up.false
