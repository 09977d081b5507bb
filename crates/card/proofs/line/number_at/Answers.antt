-- `number_at` meets its contract: digits that end their line are at most five and stand inside the text.
use Prim.Native.Nat.{◌+◌, ◌<◌}
use native.Mathlib.Omega.{arith}
use lib.ListN.{length}
use Rattle.lattice.proofs.theory.Bools.{failed, passed}
use Rattle.card.proofs.line.Digits.{number_faults, number_most, number_inside, number_found}
use Rattle.card.proofs.line.number_at.Goals.{Else-not-number_ends}
use Rattle.card.proofs.line.number_at.Goals as goal

inside : (c : Else-not-number_ends)
    → let a = c.args in
    a.at + c.digit_run-k.result < length a.text.now
inside c =
    number_inside _ _ _ c.digit_run-k.ensures
    (passed _ _ c.if-not-number_ends.false c.number_ends.ensures)

pub returns-then-not-number_ends : goal.returns-then-not-number_ends
returns-then-not-number_ends c =
    number_faults _ _ _ c.digit_run-k.ensures
    (failed _ _ c.if-not-number_ends.true c.number_ends.ensures)

pub digits_value-requires : goal.digits_value-requires
digits_value-requires c =
    let digit_run = c.digit_run-k in (
      digit_run.ensures,
      number_most _ _ _ digit_run.ensures (passed _ _ c.if-not-number_ends.false c.number_ends.ensures),
    )

pub overflow_add-result : goal.overflow_add-result
overflow_add-result c = omega (arith, inside (goal.at.overflow_add-result c).Else-not-number_ends)

pub overflow_add-result-2 : goal.overflow_add-result-2
overflow_add-result-2 c = omega (arith, inside (goal.at.overflow_add-result-2 c).Else-not-number_ends)

pub returns : goal.returns
returns c =
    number_found _ _ _ c.digit_run-k.ensures
    (passed _ _ c.if-not-number_ends.false c.number_ends.ensures) _ c.digits_value.ensures
