-- `sizes_by` meets its contract.
use native.Mathlib.Omega.{arith}
use Rattle.lattice.proofs.theory.SizesByLines.{slices_least}
use Rattle.lattice.proofs.by_lines.sizes_by.Goals as goal

pub sizes_by_slices-requires : goal.sizes_by_slices-requires
sizes_by_slices-requires c =
    let p = c.requires.of_shape.0 in
    record {
      of_shape = (p, omega (arith, slices_least p.shape p.accepted _ p.same), omega arith);
      by_index = c.requires.by_index;
    }
