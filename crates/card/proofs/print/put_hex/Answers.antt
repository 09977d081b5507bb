-- `put_hex` meets its contract. The loop's invariant: the digits of the first j bytes are written, and end at `next`.
use Prim.Native.Nat.{◌+◌, ◌<◌}
use mathlib.Core.Path.{refl}
use native.Mathlib.Omega.{arith}
use lib.ListN.{length, length-set}
use Rattle.card.proofs.print.Hex.{hex_room, hex_more, hex_all}
use Rattle.card.proofs.print.put_hex.Goals.{In-loop-byte}
use Rattle.card.proofs.print.put_hex.Goals as goal

-- two digits more have room in the buffer, which is as long as it was
room : (c : In-loop-byte) → c.loop-byte.next + 1 < length c.loop-byte.out
room c = hex_room c.requires c.loop-byte.invariant.1 c.loop-byte-test.true

pub bounds-out-next : goal.bounds-out-next
bounds-out-next c = omega (arith, room (goal.at.bounds-out-next c).In-loop-byte)

pub bounds-out-next-in-loop-byte : goal.bounds-out-next-in-loop-byte
bounds-out-next-in-loop-byte c = simp length-set (room (goal.at.bounds-out-next-in-loop-byte c).In-loop-byte)

pub loop-byte-preserved : goal.loop-byte-preserved
loop-byte-preserved c = (
  omega arith,
  hex_more c.requires c.loop-byte.invariant.1 c.loop-byte-test.true _ _ _ refl
      c.hex_digit.ensures c.hex_digit-in-loop-byte.ensures,
)

pub returns : goal.returns
returns c =
    let turn = c.loop-byte in
    hex_all c.requires turn.invariant.1 turn.invariant.0 c.loop-byte-test.false
