-- `spot` meets its contract: the tour gives the class, its count the position, and the table the word.
use Prim.Native.Nat.{◌+◌, ◌*◌, ◌<◌}
use native.Mathlib.Omega.{arith}
use Rattle.lattice.specs.Shape.{max_classes}
use Rattle.levels.proofs.tour.SpotCells.{class_below, count_below, cell_counted, spot_is}
use Rattle.levels.proofs.tour.Tour.spot.Goals.{Start}
use Rattle.levels.proofs.tour.Tour.spot.Goals as goal

-- the class has a place in the arrays
below : (c : Start) → let x = c.args.self.now in x.slice * x.pass.period + x.place < max_classes
below c = class_below _ _ c.requires.laid _ _ _ c.requires.at_cell

pub overflow_mul-class : goal.overflow_mul-class
overflow_mul-class c = omega (arith, below (goal.at.overflow_mul-class c).Start)

pub overflow_add-class : goal.overflow_add-class
overflow_add-class c = omega (arith, below (goal.at.overflow_add-class c).Start)

pub count_in-position-requires : goal.count_in-position-requires
count_in-position-requires c =
    record {
      class_in_bounds = omega (arith, below (goal.at.count_in-position-requires c).Start);
      class_bound = count_below _ _ c.requires.laid _ _ _ c.requires.at_cell;
    }

pub returns : goal.returns
returns c =
    let pre = c.requires in
    let made = c.count_in-position.ensures in
    record {
      spot_of = spot_is _ _ pre.laid _ _ _ pre.at_cell _ made.value _ c.spot_at.ensures;
      holds_sizes = cell_counted _ _ pre.laid _ _ _ pre.at_cell _ _ made.value made.entry_stored;
    }
