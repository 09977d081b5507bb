-- What the loop of `sum_starts` keeps.
use Prim.Native.Nat.{◌*◌, ◌%◌, ◌≤◌}
use mathlib.Core.Path.{◌≡◌}
use lib.ListN.{length, get_or}
use Rattle.lattice.specs.Lines.{Sums}
use Rattle.lattice.proofs.by_lines.sum_starts.Given as goal

abbrev pub invariant-loop-y : goal.invariant-loop-y
invariant-loop-y l =
    (l.y ≤ 2 * l.m) × (length l.heads ≡ length l.initial.heads) × (l.a ≡ l.y % l.m)
    × Sums (λ k. get_or l.starts (k % l.m) 0) l.y l.heads
