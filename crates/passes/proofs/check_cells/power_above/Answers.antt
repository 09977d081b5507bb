-- `power_above` meets its contract.
use mir.Facts.{Fits-lt-pow}
use Rattle.lattice.proofs.theory.PowerTest.{bits_some, bits_few}
use Rattle.passes.proofs.check_cells.power_above.Goals as goal

pub overflow_sub-result : goal.overflow_sub-result
overflow_sub-result c = bits_some _ _ (Fits-lt-pow c.ranges.n) c.if-n-eq0.false c.checks.ensures

pub overflow_shl-result : goal.overflow_shl-result
overflow_shl-result c = bits_few _ _ (Fits-lt-pow c.ranges.n) c.if-n-eq0.false c.checks.ensures
