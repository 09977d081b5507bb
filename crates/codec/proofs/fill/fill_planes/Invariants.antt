-- What the loop of `fill_planes` keeps.
use Prim.Native.Nat.{◌*◌, ◌≤◌}
use Rattle.codec.specs.Filling.{Filled}
use Rattle.codec.proofs.fill.fill_planes.Given as goal

abbrev pub invariant-loop-z : goal.invariant-loop-z
invariant-loop-z l =
    (l.z ≤ l.planes) × Filled l.shape l.payload l.initial.field l.field 0 l.k (l.z * l.cells)
