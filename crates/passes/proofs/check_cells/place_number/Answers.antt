-- `place_number` meets its contract.
use mathlib.Core.Path.{◌≡◌}
use native.Mathlib.Omega.{arith}
use mir.Facts.{Fits-lt-pow}
use Rattle.lattice.proofs.theory.PowerTest.{bits_some, bits_few}
use Rattle.passes.proofs.check_cells.place_number.Goals as goal

pub overflow_sub-result : goal.overflow_sub-result
overflow_sub-result c =
    bits_some _ _ (Fits-lt-pow c.ranges.position) (λ (z : c.args.position ≡ 0). omega arith) c.checks.ensures

pub overflow_cast-result-2 : goal.overflow_cast-result-2
overflow_cast-result-2 c =
    let few = bits_few _ _ (Fits-lt-pow c.ranges.position) (λ (z : c.args.position ≡ 0). omega arith) c.checks.ensures in
    omega (arith, few)
