-- What the loop of `scan_rows` keeps.
use Prim.Native.Nat.{◌*◌, ◌≤◌}
use mathlib.Core.Path.{◌≡◌}
use lib.IntN.{pos}
use Rattle.lattice.specs.Order.{rows_at, all_rows}
use Rattle.lattice.specs.DistanceTest.{after, scan}
use Rattle.lattice.proofs.theory.ScanLoops.{left}
use Rattle.lattice.proofs.scan.scan_rows.Given as goal

abbrev pub invariant-loop-i : goal.invariant-loop-i
invariant-loop-i l =
    (l.i ≤ l.n)
    × (l.tried ≤ l.i * 4096)
    × (scan l.k (all_rows l.n) ≡ after l.tried (left l.k (rows_at l.n) (pos 1) l.n l.i))
