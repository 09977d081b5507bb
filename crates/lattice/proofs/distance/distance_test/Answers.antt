-- `distance_test` meets its contract: the tests settle the refusal, and the scan of the order the figures.
use mathlib.Core.Path.{sym}
use native.Mathlib.Omega.{arith}
use Rattle.lattice.proofs.theory.Answers.{handed_on}
use Rattle.lattice.proofs.theory.TestAnswer.{accepted_bounds, outcome_is, tested, not_tested}
use Rattle.lattice.proofs.distance.distance_test.Goals as goal

pub returns-in_err-distance_tests-clause-distance_test : goal.returns-in_err-distance_tests-clause-distance_test
returns-in_err-distance_tests-clause-distance_test c =
    rw (handed_on c.from_residual.ensures.1) (not_tested _ _ _ _ _ c.in_err-distance_tests.ensures)

pub overflow_cast-k : goal.overflow_cast-k
overflow_cast-k c = omega (arith, accepted_bounds _ _ _ _ (sym c.in_ok-distance_tests.ensures))

pub overflow_cast-k-2 : goal.overflow_cast-k-2
overflow_cast-k-2 c = omega (arith, accepted_bounds _ _ _ _ (sym c.in_ok-distance_tests.ensures))

pub overflow_cast-k-3 : goal.overflow_cast-k-3
overflow_cast-k-3 c = omega (arith, accepted_bounds _ _ _ _ (sym c.in_ok-distance_tests.ensures))

pub overflow_sub-t : goal.overflow_sub-t
overflow_sub-t c = omega (arith, accepted_bounds _ _ _ _ (sym c.in_ok-distance_tests.ensures))

pub overflow_cast-t : goal.overflow_cast-t
overflow_cast-t c = omega (arith, accepted_bounds _ _ _ _ (sym c.in_ok-distance_tests.ensures))

pub scan_order-requires : goal.scan_order-requires
scan_order-requires c = omega (arith, accepted_bounds _ _ _ _ (sym c.in_ok-distance_tests.ensures))

pub returns-clause-distance_test : goal.returns-clause-distance_test
returns-clause-distance_test c =
    let ok = sym c.in_ok-distance_tests.ensures in
    tested _ _ _ _ _ ok (outcome_is _ _ _ _ (accepted_bounds _ _ _ _ ok).0 _ c.scan_order.ensures)
