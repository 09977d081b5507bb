-- What the loop of `least_and_most` keeps: the entries before the next are from `low` to `high`.
use Prim.Native.Nat.{ℕ, ◌<◌, ◌≤◌}
use lib.ListN.{get_or}
use Rattle.passes.proofs.check_cells.least_and_most.Given as goal

abbrev pub invariant-loop-count : goal.invariant-loop-count
invariant-loop-count l =
    ((k : ℕ) → k < l.count-index → l.low ≤ get_or l.count-items k 0)
    × ((k : ℕ) → k < l.count-index → get_or l.count-items k 0 ≤ l.high)
