-- `change_of` meets its contract.
use Rattle.levels.proofs.restore.Restores.{change_inside, change_ignored}
use Rattle.levels.proofs.restore.change_of.Goals as goal

pub returns-then-spot : goal.returns-then-spot
returns-then-spot c =
    change_inside c.args.remainders.now _ c.if-spot.true _ c.change.ensures

pub returns-else-spot : goal.returns-else-spot
returns-else-spot c = change_ignored c.args.remainders.now _ c.if-spot.false
