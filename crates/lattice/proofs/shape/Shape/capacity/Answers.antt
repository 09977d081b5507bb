-- `Shape::capacity` meets its contract.
use mathlib.Core.Path.{◌∙◌}
use Rattle.lattice.proofs.theory.CapacityGiven.{classes_given, capacity_given}
use Rattle.lattice.proofs.shape.Shape.capacity.Goals as goal

pub returns : goal.returns
returns c =
    let class_sizes = c.class_sizes in
    let s = c.args.self in
    c.data_in.ensures (rw c.classes.ensures (classes_given s))
    ∙ capacity_given s class_sizes.new.sizes _ class_sizes.ensures.holds_sizes
    c.classes.ensures
