-- `distance_tests` meets its contract: the two checks in their order.
use mathlib.Core.Bool.{true}
use mathlib.Core.Path.{◌≡◌, sym}
use Rattle.lattice.specs.DistanceTest.{test_strength_ok}
use Rattle.lattice.proofs.theory.Bools.{failed, passed}
use Rattle.lattice.proofs.theory.TestAnswer.{strength_refused, strength_accepted, number_two, number_nine, number_zero}
use Rattle.lattice.proofs.distance.distance_tests.Goals.{Else-not-within}
use Rattle.lattice.proofs.distance.distance_tests.Goals as goal

strong : (c : Else-not-within) → test_strength_ok c.args.t ≡ true
strong c = strength_accepted _ _ c.within.ensures c.if-not-within.false

pub returns-then-not-within : goal.returns-then-not-within
returns-then-not-within c = sym (number_two _ _ _ _ (strength_refused _ _ c.within.ensures c.if-not-within.true))

pub returns-then-not-settings_ok : goal.returns-then-not-settings_ok
returns-then-not-settings_ok c =
    sym (number_nine _ _ _ _ (strong (goal.at.returns-then-not-settings_ok c).Else-not-within)
    (failed _ _ c.if-not-settings_ok.true c.settings_ok.ensures))

pub returns : goal.returns
returns c =
    sym (number_zero _ _ _ _ (strong (goal.at.returns c).Else-not-within) (passed _ _ c.if-not-settings_ok.false
    c.settings_ok.ensures))
