-- `main` meets its contract: no answer is longer than the output.
use Prim.Native.Nat.{◌≤◌}
use mathlib.Core.Path.{sym}
use lib.ListN.{length, take}
use lib.Dec.{lit≤}
use lib.Seq.{length-take-le}
use Rattle.card.proofs.theory.Answered.{answer_within}
use Rattle.card.specs.Card.{max_answer}
use Rattle.card.proofs.main.Goals.{After-answer_card-length}
use Rattle.card.proofs.main.Goals as goal

within : (c : After-answer_card-length) → c.answer_card-length.result ≤ length c.answer_card-length.new.output
within c =
    let read_full = c.read_full-read in
    answer_within (take read_full.result read_full.new.buf) c.answer_card-length.new.output _ max_answer
    (lit≤ tt) c.answer_card-length.ensures.value c.answer_card-length.auto.output

pub slice_bounds-output-end : goal.slice_bounds-output-end
slice_bounds-output-end c = within (goal.at.slice_bounds-output-end c).After-answer_card-length

pub slice_bounds-write_all-end : goal.slice_bounds-write_all-end
slice_bounds-write_all-end c =
    sym (length-take-le _ c.answer_card-length.new.output (within (goal.at.slice_bounds-write_all-end
    c).After-answer_card-length))
