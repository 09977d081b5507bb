-- The number that says the verdict: the term of the theorem.
use mathlib.Core.Path.{ap, ◌∙◌}
use Rattle.varmintfoil.specs.Boundary.{as_number}
use Rattle.varmintfoil.specs.theorems.Verdict.{VerdictNumbers}

-- Theorem. The result of the distance test says 1 where the verdict is yes, and 0 where it is no.
pub verdict_numbers : VerdictNumbers
verdict_numbers =
    record { yes = λ m b c t r x e. x.holds ∙ ap as_number e; no = λ m b c t r x e. x.holds ∙ ap as_number e }
