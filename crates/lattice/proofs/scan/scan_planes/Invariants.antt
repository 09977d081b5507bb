-- What the loop of `scan_planes` keeps.
use Prim.Native.Nat.{◌*◌, ◌≤◌}
use mathlib.Core.Path.{◌≡◌}
use Rattle.lattice.specs.Order.{run, planes_at}
use Rattle.lattice.specs.DistanceTest.{after, scan}
use Rattle.lattice.proofs.theory.ScanLoops.{left}
use Rattle.lattice.proofs.scan.scan_planes.Given as goal

abbrev pub invariant-loop-i : goal.invariant-loop-i
invariant-loop-i l =
    (l.i ≤ l.count)
    × (l.tried ≤ l.i * 64)
    × (scan l.k (planes_at l.row l.n (run l.first l.count))
    ≡ after l.tried (left l.k (planes_at l.row l.n) l.first l.count l.i))
