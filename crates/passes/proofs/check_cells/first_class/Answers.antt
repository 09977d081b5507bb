-- `first_class` meets its contract.
use native.Mathlib.Omega.{arith}
use Rattle.passes.proofs.check_cells.Lines.{line_slice}
use Rattle.lattice.proofs.theory.SizesByLines.{most, slices_least}
use Rattle.passes.proofs.check_cells.first_class.Goals as goal

pub nonzero_rem-result : goal.nonzero_rem-result
nonzero_rem-result c =
    let p = c.requires.0 in
    slices_least p.shape p.accepted _ p.same

pub overflow_mul-result : goal.overflow_mul-result
overflow_mul-result c =
    let p = c.requires.0 in
    omega (
      arith,
      line_slice p.shape p.accepted _ p.same c.args.l c.requires.1,
      most p.shape p.accepted _ p.same,
    )
