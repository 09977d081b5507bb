-- `words_in` meets its contract.
use mathlib.Core.Path.{refl}
use Rattle.lattice.specs.Digits.{words_in}
use Rattle.lattice.proofs.capacity.words_in.Goals as goal

pub returns : goal.returns
unfolding words_in
returns c = refl
