-- `spot_at` meets its contract.
use mathlib.Core.Path.{refl}
use Rattle.lattice.specs.Digits.{words_in}
use Rattle.levels.specs.Working.{spot_at}
use Rattle.levels.proofs.spot.spot_at.Goals as goal

pub returns : goal.returns
unfolding spot_at words_in
returns c = refl
