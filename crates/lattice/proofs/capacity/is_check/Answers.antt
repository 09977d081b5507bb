-- `is_check` meets its contract.
use Rattle.lattice.specs.Check.{is_check}
use Rattle.lattice.proofs.capacity.is_check.Goals as goal

pub returns : goal.returns
unfolding is_check
returns c = c.is_power.ensures
