-- `put_cells` meets its contract. The loop's invariant: the digits of the first i cells are written.
use Prim.Native.Nat.{◌<◌}
use native.Mathlib.Omega.{arith}
use lib.ListN.{length}
use Rattle.card.specs.Text.{cells_text}
use Rattle.codec.proofs.theory.CellValues.{received_digit}
use Rattle.card.proofs.theory.CellDigits.{length_cells, cell_text}
use Rattle.card.proofs.theory.Printed.{prefix_more, prefix_index, prefix_all}
use Rattle.card.proofs.print.put_cells.Goals.{In-loop-i}
use Rattle.card.proofs.print.put_cells.Goals as goal

inside : (c : In-loop-i) → c.loop-i.i < length (cells_text c.args.cells.now)
inside c = omega (arith, length_cells c.args.cells.now)

pub overflow_add-out : goal.overflow_add-out
overflow_add-out c =
    omega (arith, received_digit _ (c.requires.received c.loop-i.i c.loop-i-test.true))

pub bounds-out-at : goal.bounds-out-at
bounds-out-at c = prefix_index c.requires.has_room _ (inside (goal.at.bounds-out-at c).In-loop-i) c.loop-i.invariant.1

pub loop-i-preserved : goal.loop-i-preserved
loop-i-preserved c = (
  omega arith,
  prefix_more c.requires.has_room _ _ (inside (goal.at.loop-i-preserved c).In-loop-i)
      (cell_text c.args.cells.now _ c.loop-i-test.true) c.loop-i.invariant.1,
)

pub returns : goal.returns
returns c =
    let turn = c.loop-i in
    prefix_all c.requires.has_room _ _ (length_cells c.args.cells.now) turn.invariant.0 c.loop-i-test.false turn.invariant.1
