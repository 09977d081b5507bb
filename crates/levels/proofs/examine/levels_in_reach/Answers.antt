-- `levels_in_reach` meets its contract.
use mathlib.Core.Path.{◌≡◌}
use Rattle.lattice.specs.Class.{layout_of}
use Rattle.lattice.proofs.theory.Bools.{failed, passed}
use Rattle.codec.specs.Field.{field_of}
use Rattle.codec.proofs.theory.OneByOne.{passed_none, passed_more}
use Rattle.levels.specs.Restored.{fits}
use Rattle.levels.proofs.theory.HeldRemainders.{fits_is}
use Rattle.levels.proofs.theory.PassCells.{toured_none, cell_below}
use Rattle.levels.proofs.examine.Tests.{reach_fails, reach_passes}
use Rattle.levels.proofs.examine.levels_in_reach.Goals.{After-can_restore}
use Rattle.levels.proofs.examine.levels_in_reach.Goals as goal

-- the test of the cell of a turn
module _ (c : After-can_restore) where
  tested :
      c.can_restore.result
      ≡ fits (layout_of c.args.shape) (field_of c.args.field.now) c.loop-i.i
  tested =
      let pre = c.requires in
      fits_is _ _ _ pre.held _ _ c.spot-spot.ensures.spot_of
      (pre.levels _ (cell_below c.args.shape _ _ pre.long c.loop-i-test.true))
      _ c.change_of.ensures _ c.can_restore.ensures

pub loop-i-init : goal.loop-i-init
loop-i-init c =
    (toured_none _ _ c.new-tour.ensures, passed_none _)

pub returns-then-not-can_restore : goal.returns-then-not-can_restore
returns-then-not-can_restore c =
    reach_fails _ _ _ (cell_below c.args.shape _ _ c.requires.long c.loop-i-test.true)
    (failed _ _ c.if-not-can_restore.true (tested (goal.at.returns-then-not-can_restore c).After-can_restore))

pub loop-i-preserved : goal.loop-i-preserved
loop-i-preserved c =
    let tour = c.step.ensures _ c.requires.laid.accepted _ c.loop-i.invariant.0.tour in (
      record { tour = tour; counted = c.spot-spot.ensures.holds_sizes },
      passed_more _ _ c.loop-i.invariant.1 (passed _ _ c.if-not-can_restore.false
          (tested (goal.at.loop-i-preserved c).After-can_restore)),
    )

pub returns : goal.returns
returns c =
    let inv = c.loop-i.invariant in
    reach_passes _ _ _ _ inv.1 c.requires.long c.loop-i.auto.i-end c.loop-i-test.false
