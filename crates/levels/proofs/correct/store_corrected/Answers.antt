-- `store_corrected` meets its contract.
use Prim.Native.Nat.{◌<◌}
use native.Mathlib.Omega.{arith}
use lib.ListN.{length}
use Rattle.lattice.specs.Shape.{max_cells}
use Rattle.codec.proofs.theory.WorkArrays.{cell_limit}
use Rattle.levels.proofs.theory.DigitRanks.{one_if, few_if}
use Rattle.levels.proofs.theory.HeldRemainders.{restored_from}
use Rattle.levels.proofs.theory.PassCells.{toured_none, cell_below}
use Rattle.levels.proofs.correct.StoredCells.{stored_none, changed_limit, next_cell, next_level}
use Rattle.levels.proofs.correct.StoredCells.{stored_more}
use Rattle.levels.proofs.correct.store_corrected.Goals.{At-loop-i, In-loop-i}
use Rattle.levels.proofs.correct.store_corrected.Goals as goal

-- the cell of a turn
inside : (c : In-loop-i) → c.loop-i.i < length c.args.field.now
inside c = omega arith

limit : (c : In-loop-i) → c.loop-i.i < max_cells
limit c =
    let pre = c.requires in cell_limit _ _ pre.long _ (inside c) pre.laid.accepted

pub loop-i-init : goal.loop-i-init
loop-i-init c =
    (toured_none _ _ c.new-tour.ensures, stored_none _ _)

pub restored_level-value-requires : goal.restored_level-value-requires
restored_level-value-requires c =
    next_level _ _ _ _ _ c.loop-i.invariant.1 c.requires.levels
    (cell_below c.args.shape _ _ c.requires.long (inside (goal.at.restored_level-value-requires c).In-loop-i))

pub overflow_add-changed : goal.overflow_add-changed
overflow_add-changed c =
    let few = changed_limit _ _ _ _ _ c.loop-i.invariant.1 (limit (goal.at.overflow_add-changed c).In-loop-i) in
    omega (arith, few_if _ _ _ few c.from-changed.ensures)

pub loop-i-preserved : goal.loop-i-preserved
loop-i-preserved c =
    let spot = c.spot-spot.ensures in
    let pre = c.requires in
    let inv = c.loop-i.invariant in
    let change = c.change_of.ensures in
    let value =
    restored_from _ _ _ pre.held _ _ spot.spot_of _ (next_cell _ _ _ _ _ inv.1) _ change _
    c.restored_level-value.ensures in (
      record { tour = c.step.ensures _ pre.laid.accepted _ inv.0.tour; counted = spot.holds_sizes },
      stored_more _ _ _ _ _ inv.1 (inside (goal.at.loop-i-preserved c).In-loop-i) _ _ value (one_if _ _ _ c.from-changed.ensures),
    )
