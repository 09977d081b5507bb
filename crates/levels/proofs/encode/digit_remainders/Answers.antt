-- `digit_remainders` meets its contract.
use Prim.Native.Nat.{◌<◌}
use native.Mathlib.Omega.{arith}
use Rattle.lattice.specs.Shape.{max_cells}
use Rattle.lattice.proofs.theory.ClassAt.{at_cells}
use Rattle.codec.proofs.theory.WorkArrays.{cell_limit}
use Rattle.levels.proofs.theory.DigitRanks.{one_if, few_if, rank_none, rank_more, rank_limit, digit_is}
use Rattle.levels.proofs.theory.HeldRemainders.{remainders_none, remainders_more}
use Rattle.levels.proofs.theory.PassCells.{toured_none}
use Rattle.levels.proofs.encode.WrittenCells.{value_is}
use Rattle.levels.proofs.encode.digit_remainders.Goals.{At-loop-i, In-loop-i}
use Rattle.levels.proofs.encode.digit_remainders.Goals as goal

limit : (c : In-loop-i) → c.loop-i.i < max_cells
limit c =
    cell_limit c.args.shape _ (at_cells _ c.requires.laid.accepted _ c.cells-cells.ensures) _ c.loop-i-test.true
    c.requires.laid.accepted

pub loop-i-init : goal.loop-i-init
loop-i-init c =
    let pre = c.requires in (
      toured_none _ _ c.new-tour.ensures,
      rank_none _,
      remainders_none _ _ _ pre.by_index,
    )

pub overflow_add-rank : goal.overflow_add-rank
overflow_add-rank c =
    let few = rank_limit _ _ _ (limit (goal.at.overflow_add-rank c).In-loop-i) c.loop-i.invariant.1 in
    omega (arith, few_if _ _ _ few c.from-rank.ensures)

pub loop-i-preserved : goal.loop-i-preserved
loop-i-preserved c =
    let spot = c.spot-spot.ensures in
    let inv = c.loop-i.invariant in
    let held = c.holds_digit-held.ensures in (
      record { tour = c.step.ensures _ c.requires.laid.accepted _ inv.0.tour; counted = spot.holds_sizes },
      rank_more _ _ _ _ _ inv.1 (digit_is _ _ _ spot.spot_of _ held) (one_if _ _ _ c.from-rank.ensures),
      remainders_more _ _ _ _ _ _ _ inv.2 spot.spot_of
          (value_is _ _ _ _ spot.spot_of _ _ _ held inv.1 c.digit_value.ensures)
          c.take_level.ensures,
    )
