-- `checks` meets its contract.
use mir.Facts.{Fits-lt-pow}
use Rattle.lattice.proofs.theory.BitLength.{checks_leading}
use Rattle.lattice.proofs.capacity.checks.Goals as goal

pub returns : goal.returns
returns c = checks_leading _ (Fits-lt-pow c.ranges.n)
