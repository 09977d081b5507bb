-- What the loop of `put_rows` keeps.
use Prim.Native.Nat.{◌≤◌}
use Rattle.card.specs.Text.{rows_text}
use Rattle.card.specs.Working.{Printed}
use Rattle.card.proofs.print.put_rows.Given as goal

abbrev pub invariant-loop-r : goal.invariant-loop-r
invariant-loop-r l = (l.r ≤ l.lines) × Printed l.initial.out l.out l.at (rows_text l.width l.r l.cells) l.next
