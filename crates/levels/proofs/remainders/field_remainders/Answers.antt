-- `field_remainders` meets its contract.
use mathlib.Core.Path.{refl}
use Rattle.levels.proofs.theory.HeldRemainders.{remainders_none, remainders_more}
use Rattle.levels.proofs.theory.PassCells.{toured_none}
use Rattle.levels.proofs.remainders.field_remainders.Goals as goal

pub loop-i-init : goal.loop-i-init
loop-i-init c =
    let pre = c.requires in (
      toured_none _ _ c.new-tour.ensures,
      remainders_none _ _ _ pre.by_index,
    )

pub loop-i-preserved : goal.loop-i-preserved
loop-i-preserved c =
    let spot = c.spot-spot.ensures in
    let accepted = c.requires.laid.accepted in
    let inv = c.loop-i.invariant in (
      record { tour = c.step.ensures _ accepted _ inv.0.tour; counted = spot.holds_sizes },
      remainders_more _ _ _ _ _ _ _ inv.1 spot.spot_of refl c.take_level.ensures,
    )
