-- `number_line_length` meets its contract: a number has at most five digits, so that no sum wraps.
use native.Mathlib.Omega.{arith}
use Rattle.card.proofs.theory.LineText.{length_line}
use Rattle.card.proofs.theory.DecimalText.{digit_count_range}
use Rattle.card.proofs.print.number_line_length.Goals as goal

pub overflow_add-result : goal.overflow_add-result
overflow_add-result c = omega (arith, digit_count_range c.args.n, c.digit_count.ensures)

pub overflow_add-result-2 : goal.overflow_add-result-2
overflow_add-result-2 c = omega (arith, digit_count_range c.args.n, c.digit_count.ensures)

pub returns : goal.returns
returns c =
    let a = c.args in
    omega (arith, length_line a.key.now a.n, c.digit_count.ensures)
