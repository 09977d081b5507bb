-- The theorem on the number that says the verdict.
use Rattle.std.specs.Prelude.{ℕ, true, false, ◌≡◌}
use Rattle.lattice.specs.DistanceTest.{verdict}
use Rattle.varmintfoil.specs.declared.DistanceResult.{DistanceResult}
use Rattle.varmintfoil.specs.Boundary.{IsDistanceResult}

-- Theorem. The result of the distance test says 1 where the verdict is yes, and 0 where it is no.
pub record VerdictNumbers : Type 0 where
  pub yes : (m b c t : ℕ) (r : DistanceResult) → IsDistanceResult m b c t r → verdict m b c t ≡ true → r.holds ≡ 1
  pub no : (m b c t : ℕ) (r : DistanceResult) → IsDistanceResult m b c t r → verdict m b c t ≡ false → r.holds ≡ 0
