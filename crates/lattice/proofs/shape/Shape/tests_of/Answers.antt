-- `Shape::tests_of` meets its contract: the three tests in their order.
use mathlib.Core.Bool.{true}
use mathlib.Core.Path.{◌≡◌, sym}
use Rattle.lattice.specs.Shape.{size_ok, strength_ok}
use Rattle.lattice.proofs.theory.Bools.{failed, passed}
use Rattle.lattice.proofs.theory.Limits.{number_size, number_strength, number_window, number_accepted}
use Rattle.lattice.proofs.shape.Shape.tests_of.Goals.{Else-not-size_ok, Else-not-strength_ok}
use Rattle.lattice.proofs.shape.Shape.tests_of.Goals as goal

size_passed : (c : Else-not-size_ok)
    → let a = c.args in
    size_ok a.numbers.columns a.numbers.rows a.numbers.planes ≡ true
size_passed c = passed _ _ c.if-not-size_ok.false c.size_ok.ensures

strength_passed : (c : Else-not-strength_ok)
    → let a = c.args in
    strength_ok a.numbers.planes a.numbers.strength a.numbers.window ≡ true
strength_passed c = passed _ _ c.if-not-strength_ok.false c.strength_ok.ensures

pub returns-then-not-size_ok : goal.returns-then-not-size_ok
returns-then-not-size_ok c = sym (number_size _ (failed _ _ c.if-not-size_ok.true c.size_ok.ensures))

pub returns-then-not-strength_ok : goal.returns-then-not-strength_ok
returns-then-not-strength_ok c =
    sym (number_strength _ (size_passed (goal.at.returns-then-not-strength_ok c).Else-not-size_ok)
    (failed _ _ c.if-not-strength_ok.true c.strength_ok.ensures))

pub returns-then-not-window_ok : goal.returns-then-not-window_ok
returns-then-not-window_ok c =
    sym (number_window _ (size_passed (goal.at.returns-then-not-window_ok c).Else-not-size_ok)
    (strength_passed (goal.at.returns-then-not-window_ok c).Else-not-strength_ok)
    (failed _ _ c.if-not-window_ok.true c.window_ok.ensures))

pub returns : goal.returns
returns c =
    sym (number_accepted _ (size_passed (goal.at.returns c).Else-not-size_ok)
    (strength_passed (goal.at.returns c).Else-not-strength_ok)
    (passed _ _ c.if-not-window_ok.false c.window_ok.ensures))
