-- `refuse` meets its contract.
use mathlib.Core.Path.{ap}
use Rattle.card.specs.Text.{refusal_text}
use Rattle.card.proofs.theory.Replies.{answered_same, answered_short, answered_printed, room_front}
use Rattle.card.proofs.reply.refuse.Goals as goal

pub returns-then-output-length : goal.returns-then-output-length
unfolding refusal_text
returns-then-output-length c =
    answered_same (ap refusal_text c.number-number.ensures)
    (answered_short _ _ _ c.number_line_length-length.ensures c.if-output-length.true)

pub returns : goal.returns
unfolding refusal_text
returns c =
    let room = room_front _ _ _ c.number_line_length-length.ensures c.if-output-length.false in
    answered_same (ap refusal_text c.number-number.ensures)
    (answered_printed room c.put_number_line.ensures)
