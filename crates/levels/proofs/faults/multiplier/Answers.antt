-- `multiplier` meets its contract.
use mathlib.Core.Path.{refl}
use Rattle.levels.specs.Faults.{multiplier}
use Rattle.levels.proofs.theory.FaultLaws.{multiplier_small}
use Rattle.levels.proofs.faults.multiplier.Goals as goal

pub returns : goal.returns
unfolding multiplier
returns c =
    record {
      value = refl;
      upper_bound = multiplier_small _ c.requires;
    }
