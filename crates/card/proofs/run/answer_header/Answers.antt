-- `answer_header` meets its contract: a refusal is the constructor's, and else the later tests follow.
use Rattle.lattice.specs.Answer.{IsNewShape}
use Rattle.lattice.proofs.theory.NewShapes.{new_first, new_accepted}
use Rattle.card.specs.Card.{shape_numbers}
use Rattle.card.proofs.run.Program.{bad_shape, too_many}
use Rattle.card.proofs.run.Card.{new_many}
use Rattle.card.proofs.theory.Replies.{answered_same}
use Rattle.card.proofs.run.answer_header.Goals.{After-new, Else-cells-gt-MAX_CELLS}
use Rattle.card.proofs.run.answer_header.Goals as goal

-- the constructor's answer is that to the header's numbers
new : (c : After-new)
    → IsNewShape (shape_numbers c.args.header) c.new.result
new c = rw c.shape_numbers.ensures at c.new.ensures.new_shape

pub returns-then-cells-gt-MAX_CELLS : goal.returns-then-cells-gt-MAX_CELLS
returns-then-cells-gt-MAX_CELLS c =
    let given = c.in-Ok.is in
    answered_same
    (too_many _ _ _ c.requires (new_accepted _ _ (new (goal.at.returns-then-cells-gt-MAX_CELLS c).After-new) _ given)
    (new_many c.args.header _ (new (goal.at.returns-then-cells-gt-MAX_CELLS c).After-new) _ given _ c.cells.ensures
    c.if-cells-gt-MAX_CELLS.true))
    c.refuse-then-cells-gt-MAX_CELLS.ensures

pub returns-in-Err : goal.returns-in-Err
returns-in-Err c =
    let bad = new_first _ _ (new (goal.at.returns-in-Err c).After-new) c.in-Err.why c.in-Err.is in
    answered_same (bad_shape _ _ _ c.requires c.in-Err.why bad) c.refuse.ensures
