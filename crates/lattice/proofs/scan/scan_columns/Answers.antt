-- `scan_columns` meets its contract. The loop's invariant: the scan of all columns is the scan of those that are
-- left, after those tried.
use mathlib.Core.Path.{◌≡◌, ap}
use native.Mathlib.Omega.{arith}
use lib.IntN.{pos, ◌+ℤ◌}
use Rattle.lattice.specs.Order.{triple, run, columns_at}
use Rattle.lattice.specs.DistanceTest.{scan}
use Rattle.lattice.proofs.theory.Words.{read, shifted_again}
use Rattle.lattice.proofs.theory.ScanLoops.{columns_next}
use Rattle.lattice.proofs.scan.scan_columns.Goals.{After-shifted-column}
use Rattle.lattice.proofs.scan.scan_columns.Goals as goal

-- the triple that is tried is the next of the list
tried_next : (c : After-shifted-column)
    → let a = c.args in
    triple (read a.row) (read a.plane) (read c.shifted-column.result)
    ≡ triple (read a.row) (read a.plane) (read a.first +ℤ pos c.loop-tried.tried)
tried_next c =
    let a = c.args in
    ap (triple (read a.row) (read a.plane)) (shifted_again a.first c.loop-tried.tried
    (omega arith) (omega arith) c.shifted-column.result c.shifted-column.ensures)

pub loop-tried-preserved : goal.loop-tried-preserved
loop-tried-preserved c =
    let a = c.args in
    let l = c.loop-tried in (
      omega arith,
      columns_next a.k (read a.row) (read a.plane) (read a.first) a.count l.tried (omega arith)
          (triple (read a.row) (read a.plane) (read c.shifted-column.result)) c.fails.result
          (scan a.k (columns_at (read a.row) (read a.plane) (run (read a.first) a.count)))
          (tried_next (goal.at.loop-tried-preserved c).After-shifted-column) c.fails.ensures c.if-fails.false l.invariant.1,
    )
