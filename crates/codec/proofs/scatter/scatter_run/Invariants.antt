-- What the loop of `scatter_run` keeps.
use Prim.Native.Nat.{◌-◌, ◌≤◌}
use mathlib.Core.Path.{◌≡◌}
use lib.ListN.{length}
use Rattle.codec.specs.Filling.{ValuesPut}
use Rattle.codec.proofs.scatter.scatter_run.Given as goal

abbrev pub invariant-loop-i : goal.invariant-loop-i
invariant-loop-i l =
    (l.begin ≤ l.i) × (l.i ≤ l.end) × (length l.part ≡ length l.initial.part) × ValuesPut l.payload l.initial.part l.part l.at
    l.k l.begin l.i

abbrev pub decreases-loop-i : goal.decreases-loop-i
decreases-loop-i l = l.end - l.i
