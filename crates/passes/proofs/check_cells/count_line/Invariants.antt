-- What the loop of `count_line` keeps: the first a entries of the slice have gained, and the others are as they were.
use Prim.Native.Nat.{ℕ, ◌+◌, ◌-◌, ◌<◌, ◌≤◌}
use mathlib.Core.Path.{◌≡◌}
use lib.ListN.{get_or}
use Rattle.passes.proofs.check_cells.count_line.Given as goal

abbrev pub invariant-loop-a : goal.invariant-loop-a
invariant-loop-a l =
    ((k : ℕ) → k < l.first + l.a → l.first ≤ k → get_or l.counts k 0 ≡ get_or l.initial.counts k 0
    + get_or l.gains (k - l.first + l.from) 0)
    × ((k : ℕ) → k < l.first → get_or l.counts k 0 ≡ get_or l.initial.counts k 0)
    × ((k : ℕ) → l.first + l.a ≤ k → get_or l.counts k 0 ≡ get_or l.initial.counts k 0)
