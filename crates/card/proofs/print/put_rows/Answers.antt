-- `put_rows` meets its contract. The loop's invariant: the first r rows are written, and end at `next`.
use Prim.Native.Nat.{◌+◌, ◌-◌, ◌*◌, ◌≤◌}
use native.Mathlib.Omega.{arith}
use lib.ListN.{length}
use Rattle.card.proofs.print.Lines.{part_behind, row_room, row_printed, part_cells}
use Rattle.card.proofs.print.put_rows.Goals.{In-loop-r}
use Rattle.card.proofs.print.put_rows.Goals as goal

behind : (c : In-loop-r)
    → let a = c.args in
    c.loop-r.r * a.width + a.width ≤ length a.cells.now
behind c =
    part_behind _ _ c.args.cells.now c.requires.cells_len c.requires.has_room _ c.loop-r-test.true

pub put_row-next-requires : goal.put_row-next-requires
put_row-next-requires c =
    let turn = c.loop-r in
    let a = c.args in
    record {
      has_room = row_room _ _ _ c.requires.cells_len c.requires.has_room _ c.loop-r-test.true turn.invariant.1;
      received = part_cells a.cells.now c.requires.received (turn.r * a.width) (turn.r * a.width + a.width - turn.r * a.width)
          (omega (arith, behind (goal.at.put_row-next-requires c).In-loop-r));
    }

pub loop-r-preserved : goal.loop-r-preserved
loop-r-preserved c = (
  omega arith,
  row_printed _ _ _ c.requires.cells_len c.requires.has_room _ c.loop-r-test.true
      c.loop-r.invariant.1 c.put_row-next.ensures,
)
