-- `new` meets its contract.
use Rattle.levels.proofs.theory.TourCells.{tour_first}
use Rattle.levels.proofs.tour.Tour.new.Goals as goal

pub returns : goal.returns
returns c = tour_first _ c.requires _ c.pass-pass.ensures
