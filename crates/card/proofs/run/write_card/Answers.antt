-- `write_card` meets its contract: a refusal is encoding's, and else the field written is printed.
use mathlib.Core.Path.{sym, ap, ◌∙◌}
use Rattle.lattice.specs.Refusal.{number_of}
use Rattle.card.proofs.run.Card.{encoded_refused, encoded_length, encoded_done, encoded_cells, card_written}
use Rattle.card.proofs.theory.Replies.{answered_same}
use Rattle.card.proofs.run.write_card.Goals as goal

pub reply_field-requires : goal.reply_field-requires
reply_field-requires c =
    let p = c.requires in
    let made = c.encode.ensures in
    let none = sym (ap number_of c.in-Ok.is) ∙ made.number in
    let long = encoded_length _ _ p.card_shape _ _ p.field_len none in
    record {
      card_header = p.card_shape.card;
      field_cells = encoded_cells _ _ p.card_shape _ _ _ long p.field_len made.leaves p.bytes;
    }

pub returns-in-Err : goal.returns-in-Err
returns-in-Err c =
    let p = c.requires in
    answered_same
    (encoded_refused _ _ p.card_shape _ _ p.field_len c.in-Err.why
    (sym (ap number_of c.in-Err.is) ∙ c.encode.ensures.number))
    c.refuse.ensures

pub returns-in-Ok : goal.returns-in-Ok
returns-in-Ok c =
    let p = c.requires in
    let made = c.encode.ensures in
    let none = sym (ap number_of c.in-Ok.is) ∙ made.number in
    let long = encoded_length _ _ p.card_shape _ _ p.field_len none in
    answered_same
    (card_written _ _ p.card_shape _ _ _ long p.field_len made.leaves _ c.classes.ensures
    ∙ encoded_done _ _ p.card_shape _ _ p.field_len none)
    c.reply_field.ensures
