-- What the loop of `scan_columns` keeps.
use Prim.Native.Nat.{◌≤◌}
use mathlib.Core.Path.{◌≡◌}
use Rattle.lattice.specs.Order.{run, columns_at}
use Rattle.lattice.specs.DistanceTest.{after, scan}
use Rattle.lattice.proofs.theory.ScanLoops.{left}
use Rattle.lattice.proofs.scan.scan_columns.Given as goal

abbrev pub invariant-loop-tried : goal.invariant-loop-tried
invariant-loop-tried l =
    (l.tried ≤ l.count)
    × (scan l.k (columns_at l.row l.plane (run l.first l.count))
    ≡ after l.tried (left l.k (columns_at l.row l.plane) l.first l.count l.tried))
