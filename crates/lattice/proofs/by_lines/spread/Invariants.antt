-- What the loop of `spread` keeps.
use Prim.Native.Nat.{ℕ, ◌+◌, ◌-◌, ◌<◌, ◌≤◌}
use mathlib.Core.Path.{◌≡◌}
use lib.ListN.{length, get_or}
use Rattle.lattice.proofs.by_lines.spread.Given as goal

abbrev pub invariant-loop-a : goal.invariant-loop-a
invariant-loop-a l =
    (l.a ≤ l.m) × (length l.sizes ≡ length l.initial.sizes)
    × ((k : ℕ) → k < l.a → get_or l.sizes k 0 + get_or l.heads (k + 1 + l.m - l.gap) 0 ≡ l.base + get_or l.heads (k + 1 + l.m) 0)
    × ((k : ℕ) → l.a ≤ k → get_or l.sizes k 0 ≡ get_or l.initial.sizes k 0)
