-- `head_length` meets its contract: the head is short, so that the sum of its parts does not wrap.
use native.Mathlib.Omega.{arith}
use Rattle.card.proofs.theory.Replies.{length_head, head_most}
use Rattle.card.proofs.reply.head_length.Goals as goal

pub overflow_add-result : goal.overflow_add-result
overflow_add-result c =
    let a = c.args in
    omega (arith, length_head a.header a.key.now a.n, head_most a.header a.key.now a.n)

pub returns : goal.returns
returns c =
    let a = c.args in
    omega (arith, length_head a.header a.key.now a.n)
