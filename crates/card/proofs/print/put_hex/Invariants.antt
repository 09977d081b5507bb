-- What the loop of `put_hex` keeps.
use Prim.Native.Nat.{◌≤◌}
use lib.ListN.{length}
use Rattle.card.proofs.print.Hex.{HexPrinted}
use Rattle.card.proofs.print.put_hex.Given as goal

abbrev pub invariant-loop-byte : goal.invariant-loop-byte
invariant-loop-byte l = (l.byte-index ≤ length l.payload) × HexPrinted l.initial.out l.out l.at l.payload l.byte-index l.next
