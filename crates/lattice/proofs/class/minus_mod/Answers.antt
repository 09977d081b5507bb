-- `minus_mod` meets its contract.
use mathlib.Core.Path.{refl}
use Rattle.lattice.specs.Class.{minus_mod}
use Rattle.lattice.proofs.class.minus_mod.Goals as goal

pub returns : goal.returns
unfolding minus_mod
returns c = refl
