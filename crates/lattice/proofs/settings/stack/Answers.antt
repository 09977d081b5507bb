-- `stack` meets its contract: the code's table is the definition's.
use mathlib.Core.Path.{refl}
use Rattle.lattice.specs.Settings.{stack_table, stack_settings}
use Rattle.lattice.proofs.settings.stack.Goals as goal

pub returns : goal.returns
unfolding stack_settings stack_table
returns c = refl
