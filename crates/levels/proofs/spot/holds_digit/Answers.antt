-- `holds_digit` meets its contract.
use mathlib.Core.Path.{◌∙◌}
use Rattle.levels.proofs.spot.HeldSpots.{holds_inside, holds_ignored}
use Rattle.levels.proofs.spot.holds_digit.Goals as goal

pub returns-then-spot : goal.returns-then-spot
returns-then-spot c = holds_inside _ c.if-spot.true

pub returns-else-spot : goal.returns-else-spot
returns-else-spot c = c.if-spot.false ∙ holds_ignored _ c.if-spot.false
