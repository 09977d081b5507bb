-- `scaled` meets its contract. A 16-bit number times a small number fits.
use Rattle.lattice.proofs.theory.Words.{scaled_fits, scaled_back}
use Rattle.lattice.proofs.integers.scaled.Goals as goal

pub overflow_mul-result : goal.overflow_mul-result
overflow_mul-result c = scaled_fits c.args.n c.args.z c.ranges.n.fits c.requires

pub returns : goal.returns
returns c =
    let e = scaled_back c.args.n c.args.z c.ranges.n.fits c.requires in record { value = e.0; result_bound = e.1 }
