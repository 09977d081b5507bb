-- `answer_card` meets its contract: an input that is too long or has no header is refused, and else the header's answer is given.
use mathlib.Core.Path.{refl, sym, ◌∙◌}
use Rattle.card.proofs.theory.Replies.{answered_same}
use Rattle.card.proofs.theory.Answered.{answered_leaves}
use Rattle.card.proofs.run.Program.{too_long, no_header}
use Rattle.card.proofs.run.answer_card.Goals as goal

pub returns-then-input-gt-MAX_INPUT : goal.returns-then-input-gt-MAX_INPUT
returns-then-input-gt-MAX_INPUT c =
    let same = answered_same (too_long _ c.if-input-gt-MAX_INPUT.true) c.refuse.ensures in
    let a = answered_leaves _ _ _ _ same in
    record {
      value = a.0;
      output_after = a.1;
      max_read_value = refl;
      max_answer_value = refl;
    }

pub returns-in_default : goal.returns-in_default
returns-in_default c =
    let none = no_header _ c.if-input-gt-MAX_INPUT.false (sym c.parse_header.ensures ∙ c.in_default.is) in
    let a = answered_leaves _ _ _ _ (answered_same none c.refuse-in_default.ensures) in
    record {
      value = a.0;
      output_after = a.1;
      max_read_value = refl;
      max_answer_value = refl;
    }
