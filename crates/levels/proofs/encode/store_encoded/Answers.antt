-- `store_encoded` meets its contract.
use Prim.Native.Nat.{◌<◌}
use native.Mathlib.Omega.{arith}
use lib.ListN.{length}
use Rattle.lattice.specs.Shape.{max_cells}
use Rattle.codec.proofs.theory.WorkArrays.{cell_limit}
use Rattle.levels.proofs.theory.DigitRanks.{one_if, few_if, rank_none, rank_more, rank_limit, digit_is}
use Rattle.levels.proofs.theory.PassCells.{toured_none}
use Rattle.levels.proofs.encode.WrittenCells.{value_is, encoded_is, written_none, written_more}
use Rattle.levels.proofs.encode.WrittenCells.{written_all}
use Rattle.levels.proofs.encode.store_encoded.Goals.{At-loop-i, In-loop-i}
use Rattle.levels.proofs.encode.store_encoded.Goals as goal

-- the cell of a turn
inside : (c : In-loop-i) → c.loop-i.i < length c.args.field.now
inside c = omega arith

limit : (c : In-loop-i) → c.loop-i.i < max_cells
limit c =
    let pre = c.requires in
    cell_limit _ _ pre.field_len _ (inside c) pre.laid.accepted

pub loop-i-init : goal.loop-i-init
loop-i-init c =
    (toured_none _ _ c.new-tour.ensures, rank_none _, written_none _ _ _)

pub overflow_add-rank : goal.overflow_add-rank
overflow_add-rank c =
    let few = rank_limit _ _ _ (limit (goal.at.overflow_add-rank c).In-loop-i) c.loop-i.invariant.1 in
    omega (arith, few_if _ _ _ few c.from-rank.ensures)

pub loop-i-preserved : goal.loop-i-preserved
loop-i-preserved c =
    let spot = c.spot-spot.ensures in
    let pre = c.requires in
    let inv = c.loop-i.invariant in
    let held = c.holds_digit-held.ensures in
    let digit = value_is _ _ _ _ spot.spot_of _ _ _ held inv.1 c.digit_value.ensures in (
      record { tour = c.step.ensures _ pre.laid.accepted _ inv.0.tour; counted = spot.holds_sizes },
      rank_more _ _ _ _ _ inv.1 (digit_is _ _ _ spot.spot_of _ held) (one_if _ _ _ c.from-rank.ensures),
      written_more _ _ _ _ _ inv.2 (inside (goal.at.loop-i-preserved c).In-loop-i) _
          (encoded_is _ _ _ _ spot.spot_of _ pre.holds_digits _ _ digit c.encoded_value.ensures),
    )

pub returns : goal.returns
returns c =
    let inv = c.loop-i.invariant in
    written_all _ _ _ _ _ inv.2 c.requires.field_len (omega arith) (omega arith)
