-- What the loop of `none_erased` keeps: none of the cells before the next is above `most`.
use Prim.Native.Nat.{ℕ, ◌<◌, ◌≤◌}
use lib.ListN.{get_or}
use Rattle.codec.proofs.erasures.none_erased.Given as goal

abbrev pub invariant-loop-cell : goal.invariant-loop-cell
invariant-loop-cell l = (x : ℕ) → x < l.cell-index → get_or l.cell-items x 0 ≤ l.most
