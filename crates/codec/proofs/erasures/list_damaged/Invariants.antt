-- What the loop of `list_damaged` keeps: the entries of the classes before a are damaged cells.
use Prim.Native.Nat.{ℕ, ◌<◌}
use mathlib.Core.Path.{◌≡◌}
use lib.ListN.{get_or}
use Rattle.codec.specs.Working.{damaged_cell}
use Rattle.codec.proofs.erasures.list_damaged.Given as goal

abbrev pub invariant-loop-a : goal.invariant-loop-a
invariant-loop-a l =
    (k : ℕ) → k < l.a → get_or l.cell-items k 0 ≡ damaged_cell (get_or l.first k 0) (get_or l.cells k 0)
