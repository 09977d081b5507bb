-- `step` meets its contract: the next cell of the line, or the first of the next line.
use mathlib.Core.Path.{◌∙◌}
use Rattle.lattice.proofs.theory.NextLine.{pass_accepted}
use Rattle.levels.proofs.theory.TourCells.{tour_on, tour_over}
use Rattle.levels.proofs.tour.Tour.step.Goals as goal

pub returns-then-self-gt1 : goal.returns-then-self-gt1
returns-then-self-gt1 c = λ s accepted i at. tour_on s accepted i _ at c.if-self-gt1.true _ c.next_place-self.ensures

pub returns-else-self-gt1 : goal.returns-else-self-gt1
returns-else-self-gt1 c = λ s accepted i at.
    tour_over s accepted i _ at c.if-self-gt1.false _
    (c.next_line-line.ensures s accepted (at.pass ∙ pass_accepted s accepted) _) _ c.next_place-self-else-self-gt1.ensures
