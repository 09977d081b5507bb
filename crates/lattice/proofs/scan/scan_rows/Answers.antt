-- `scan_rows` meets its contract. The loop's invariant: the scan of all rows is the scan of those that are left,
-- after the triples tried.
use mathlib.Core.Path.{◌≡◌, refl, sym, ◌∙◌}
use native.Mathlib.Omega.{arith}
use lib.IntN.{pos, ◌+ℤ◌}
use Rattle.lattice.specs.Order.{rows_at}
use Rattle.lattice.specs.DistanceTest.{after, scan}
use Rattle.lattice.specs.Scanning.{scan_of}
use Rattle.lattice.proofs.theory.Words.{read, shifted_again}
use Rattle.lattice.proofs.theory.ScanLoops.{block_at, left_found, left_past, row_block}
use Rattle.lattice.proofs.scan.scan_rows.Goals.{After-scan_row-part}
use Rattle.lattice.proofs.scan.scan_rows.Goals as goal

-- the scan of the row is that of the next block
next : (c : After-scan_row-part)
    → let a = c.args in
    let turn = c.loop-i in
    scan_of c.scan_row-part.result ≡ after turn.tried (scan a.k (row_block a.n (pos 1 +ℤ pos turn.i)))
next c =
    let a = c.args in
    let l = c.loop-i in
    block_at a.k (row_block a.n) l.tried (read c.shifted-row.result) (pos 1 +ℤ pos l.i)
    (scan_of c.scan_row-part.result) c.scan_row-part.ensures.result_value
    (shifted_again (pos 1) l.i (omega arith) (omega arith) c.shifted-row.result
    c.shifted-row.ensures)

pub returns-then-is_some : goal.returns-then-is_some
returns-then-is_some c =
    let a = c.args in
    let l = c.loop-i in
    record {
      result_value = sym
          (l.invariant.2
          ∙ left_found a.k (rows_at a.n) refl (pos 1) a.n (row_block a.n) (λ z zs. refl) l.tried l.i
          (omega arith)
          (scan_of c.scan_row-part.result)
          (next (goal.at.returns-then-is_some c).After-scan_row-part)
          (sym c.is_some.ensures ∙ c.if-is_some.true));
      tried_bound = omega arith;
    }

pub loop-i-preserved : goal.loop-i-preserved
loop-i-preserved c =
    let a = c.args in
    let l = c.loop-i in (
      omega arith,
      omega arith,
      l.invariant.2
          ∙ left_past a.k (rows_at a.n) refl (pos 1) a.n (row_block a.n) (λ z zs. refl) l.tried l.i
          (omega arith)
          (scan_of c.scan_row-part.result)
          (next (goal.at.loop-i-preserved c).After-scan_row-part)
          (sym c.is_some.ensures ∙ c.if-is_some.false),
    )
