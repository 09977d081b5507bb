-- `is_power` meets its contract.
use mathlib.Core.Path.{◌∙◌}
use Rattle.lattice.proofs.theory.PowerTest.{power_test}
use Rattle.lattice.proofs.capacity.is_power.Goals as goal

pub returns : goal.returns
returns c = c.is_power_of_two.ensures ∙ power_test _
