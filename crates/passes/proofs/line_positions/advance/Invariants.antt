-- What the loop of `advance` keeps: the places before y are advanced, and those from y on are as they were.
use Prim.Native.Nat.{ℕ, ◌+◌, ◌%◌, ◌<◌, ◌≤◌}
use mathlib.Core.Path.{◌≡◌}
use lib.ListN.{get_or}
use Rattle.passes.proofs.line_positions.advance.Given as goal

abbrev pub invariant-loop-y : goal.invariant-loop-y
invariant-loop-y l =
    ((k : ℕ) → k < l.y → get_or l.e k 0 ≡ (get_or l.initial.e k 0 + get_or l.p (k + l.from) 0 + l.less) % 65536)
    × ((k : ℕ) → l.y ≤ k → get_or l.e k 0 ≡ get_or l.initial.e k 0)
