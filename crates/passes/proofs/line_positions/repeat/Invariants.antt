-- What the loop of `repeat` keeps: the places before z repeat, and each is at most its number above 32,768.
use Prim.Native.Nat.{ℕ, ◌+◌, ◌<◌, ◌≤◌}
use mathlib.Core.Path.{◌≡◌}
use lib.ListN.{get_or}
use Rattle.passes.proofs.line_positions.repeat.Given as goal

abbrev pub invariant-loop-z : goal.invariant-loop-z
invariant-loop-z l =
    (l.m ≤ l.z) × ((k : ℕ) → k < l.m → get_or l.p k 0 ≡ get_or l.initial.p k 0)
    × ((y : ℕ) → y + l.m < l.z → get_or l.p (y + l.m) 0 ≡ get_or l.p y 0 + l.d) × ((k : ℕ) → k < l.z → get_or l.p k 0 ≤ 32768 + k)
