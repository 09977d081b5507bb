-- `store_digits` meets its contract.
use Prim.Native.Nat.{◌<◌}
use mathlib.Core.Path.{◌≡◌, refl, ◌∙◌}
use native.Mathlib.Omega.{arith}
use Rattle.lattice.specs.Shape.{max_cells}
use Rattle.codec.specs.Field.{field_of}
use Rattle.codec.proofs.theory.WorkArrays.{cell_limit}
use Rattle.levels.specs.Decode.{restored_field}
use Rattle.levels.proofs.theory.DigitRanks.{one_if, few_if, rank_none, rank_more, rank_limit, digit_is}
use Rattle.levels.proofs.theory.HeldRemainders.{restored_is}
use Rattle.levels.proofs.theory.PassCells.{toured_none}
use Rattle.levels.proofs.decode.StoredDigits.{held_none, held_more, held_all, changed_none, changed_more}
use Rattle.levels.proofs.decode.StoredDigits.{changed_limit, changed_all}
use Rattle.levels.proofs.decode.store_digits.Goals.{After-restored_level-value, In-loop-i}
use Rattle.levels.proofs.decode.store_digits.Goals as goal

-- the cell of a turn
module _ (c : In-loop-i) where
  limit : c.loop-i.i < max_cells
  limit = cell_limit _ _ c.requires.levels_examined.long _ c.loop-i-test.true c.requires.levels_examined.laid.accepted

-- its corrected value
module _ (c : After-restored_level-value) where
  value :
      let a = c.args in
      c.restored_level-value.result ≡ restored_field a.shape (field_of a.field.now) c.loop-i.i
  value =
      let field = field_of c.args.field.now in
      let spot = c.spot-spot.ensures.spot_of in
      restored_is _ field _ c.requires.levels_examined.held _ _ spot _ c.change_of.ensures _ c.restored_level-value.ensures

pub loop-i-init : goal.loop-i-init
loop-i-init c =
    let a = c.args in (
      toured_none _ _ c.new-tour.ensures,
      rank_none _,
      held_none _ _ _,
      changed_none a.shape (field_of a.field.now) _,
    )

pub overflow_add-rank : goal.overflow_add-rank
overflow_add-rank c =
    let few = rank_limit _ _ _ (limit (goal.at.overflow_add-rank c).In-loop-i) c.loop-i.invariant.1 in
    omega (arith, few_if _ _ _ few c.from-rank.ensures)

pub overflow_add-changed : goal.overflow_add-changed
overflow_add-changed c =
    let inside = limit (goal.at.overflow_add-changed c).In-loop-i in
    let few = changed_limit c.args.shape (field_of c.args.field.now) _ _ _ inside c.loop-i.invariant.3 in
    omega (arith, few_if _ _ _ few c.from-changed.ensures)

pub loop-i-preserved : goal.loop-i-preserved
loop-i-preserved c =
    let spot = c.spot-spot.ensures in
    let held = digit_is _ _ _ spot.spot_of _ c.holds_digit-held.ensures in
    let inv = c.loop-i.invariant in
    let a = c.args in
    let stored = c.store_digit in (
      record {
        tour = c.step.ensures _ c.requires.levels_examined.laid.accepted _ inv.0.tour;
        counted =
            spot.holds_sizes;
      },
      rank_more _ _ _ _ _ inv.1 held (one_if _ _ _ c.from-rank.ensures),
      held_more _ _ _ _ _ _ _ _ inv.2 stored.auto.payload held inv.1
          (value (goal.at.loop-i-preserved c).After-restored_level-value) stored.ensures,
      changed_more a.shape (field_of a.field.now) _ _ _ _ _ _ _ spot.spot_of _ inv.3 refl
          (value (goal.at.loop-i-preserved c).After-restored_level-value)
          c.differs.ensures (one_if _ _ _ c.from-changed.ensures),
    )

pub returns : goal.returns
returns c =
    let inv = c.loop-i.invariant in
    let pre = c.requires in
    let long = pre.levels_examined.long in
    let before = c.loop-i.auto.i-end in
    let end = c.loop-i-test.false in
    record {
      payload_after =
          held_all _ pre.levels_examined.laid.accepted _ _ _ _ (c.loop-i.auto.payload ∙ pre.payload_len) long before end inv.2;
      value = changed_all c.args.shape (field_of c.args.field.now) _ _ _ _ long before end inv.3;
    }
