-- `digit_run` meets its contract. The loop's invariant: the first k bytes are digits.
use native.Mathlib.Omega.{arith}
use Rattle.lattice.proofs.theory.Bools.{failed}
use Rattle.card.proofs.line.Digits.{run_ends, run_full}
use Rattle.card.proofs.line.digit_run.Goals as goal

pub returns-then-not-is_digit : goal.returns-then-not-is_digit
returns-then-not-is_digit c =
    run_ends _ _ _ _ c.loop-k.invariant c.loop-k-test.true c.byte_at.ensures
    (failed _ _ c.if-not-is_digit.true c.is_digit.ensures)

pub returns : goal.returns
returns c = run_full _ _ _ c.loop-k.invariant (omega arith)
