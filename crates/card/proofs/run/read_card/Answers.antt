-- `read_card` meets its contract: a refusal is decoding's, and else the count and the payload are.
use mathlib.Core.Path.{sym, ap, ◌∙◌}
use Rattle.lattice.specs.Refusal.{number_of, figure_of}
use Rattle.card.proofs.run.Card.{decoded_refused, decoded_long, card_decoded}
use Rattle.card.proofs.theory.Replies.{answered_same}
use Rattle.card.proofs.run.read_card.Goals as goal

pub reply_payload-requires : goal.reply_payload-requires
reply_payload-requires c =
    let p = c.requires in
    decoded_long _ _ p.card_shape _ _ p.payload_value _ c.decode.ensures.leaves

pub returns-in-Err : goal.returns-in-Err
returns-in-Err c =
    let p = c.requires in
    answered_same
    (decoded_refused _ _ p.card_shape _ _ p.payload_value c.in-Err.why (sym (ap number_of c.in-Err.is)
    ∙ c.decode.ensures.number))
    c.refuse.ensures

pub returns-in-Ok : goal.returns-in-Ok
returns-in-Ok c =
    let p = c.requires in
    let count = c.in-Ok.is in
    let made = c.decode.ensures in
    answered_same
    (card_decoded _ _ p.card_shape _ _ p.payload_value _ made.leaves _ (sym (ap number_of count) ∙ made.number)
    (sym (ap figure_of count) ∙ made.count))
    c.reply_payload.ensures
