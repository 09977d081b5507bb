-- What the loop of `put_cells` keeps.
use Prim.Native.Nat.{◌+◌, ◌≤◌}
use lib.ListN.{length, take}
use Rattle.card.specs.Text.{cells_text}
use Rattle.card.specs.Working.{Printed}
use Rattle.card.proofs.print.put_cells.Given as goal

abbrev pub invariant-loop-i : goal.invariant-loop-i
invariant-loop-i l = (l.i ≤ length l.cells) × Printed l.initial.out l.out l.at (take l.i (cells_text l.cells)) (l.at + l.i)
