-- `scan_planes` meets its contract. The loop's invariant: the scan of all planes is the scan of those that are left,
-- after the triples tried.
use mathlib.Core.Path.{◌≡◌, refl, sym, ◌∙◌}
use native.Mathlib.Omega.{arith}
use lib.IntN.{pos, ◌+ℤ◌}
use Rattle.lattice.specs.Order.{planes_at}
use Rattle.lattice.specs.DistanceTest.{after, scan}
use Rattle.lattice.specs.Scanning.{scan_of}
use Rattle.lattice.proofs.theory.Words.{read, shifted_again}
use Rattle.lattice.proofs.theory.ScanLoops.{block_at, left_found, left_past, plane_block}
use Rattle.lattice.proofs.theory.ScanLoops.{planes_read}
use Rattle.lattice.proofs.scan.scan_planes.Goals.{After-scan_plane-part}
use Rattle.lattice.proofs.scan.scan_planes.Goals as goal

-- the scan of the plane is that of the next block
next : (c : After-scan_plane-part)
    → let a = c.args in
    let turn = c.loop-i in
    scan_of c.scan_plane-part.result
    ≡ after turn.tried (scan a.k (plane_block (read a.row) a.n (read a.first +ℤ pos turn.i)))
next c =
    let a = c.args in
    let l = c.loop-i in
    block_at a.k (plane_block (read a.row) a.n) l.tried (read c.shifted-plane.result)
    (read a.first +ℤ pos l.i) (scan_of c.scan_plane-part.result) c.scan_plane-part.ensures.result_value
    (shifted_again a.first l.i (omega arith) (omega arith) c.shifted-plane.result
    c.shifted-plane.ensures)

pub returns-then-is_some : goal.returns-then-is_some
returns-then-is_some c =
    let a = c.args in
    let l = c.loop-i in
    record {
      result_value = sym (l.invariant.2
          ∙ left_found a.k (planes_at (read a.row) a.n) refl (read a.first) a.count
          (plane_block (read a.row) a.n) (λ z zs. refl) l.tried l.i (omega arith)
          (scan_of c.scan_plane-part.result) (next (goal.at.returns-then-is_some c).After-scan_plane-part)
          (sym c.is_some.ensures ∙ c.if-is_some.true))
          ∙ planes_read a.k a.row a.first a.n a.count (omega arith) (omega arith);
      tried_bound = omega arith;
    }

pub loop-i-preserved : goal.loop-i-preserved
loop-i-preserved c =
    let a = c.args in
    let l = c.loop-i in (
      omega arith,
      omega arith,
      l.invariant.2
          ∙ left_past a.k (planes_at (read a.row) a.n) refl (read a.first) a.count
          (plane_block (read a.row) a.n) (λ z zs. refl) l.tried l.i (omega arith)
          (scan_of c.scan_plane-part.result) (next (goal.at.loop-i-preserved c).After-scan_plane-part)
          (sym c.is_some.ensures ∙ c.if-is_some.false),
    )
