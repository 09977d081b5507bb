-- What the loop of `digits_in` keeps.
use Prim.Native.Nat.{◌*◌, ◌≤◌}
use mathlib.Core.Path.{◌≡◌}
use lib.ListN.{get_or}
use Rattle.lattice.specs.Digits.{words_in}
use Rattle.lattice.specs.Counting.{sum_below}
use Rattle.lattice.proofs.capacity.digits_in.Given as goal

abbrev pub invariant-loop-size : goal.invariant-loop-size
invariant-loop-size l =
    (l.words ≤ 4294967295 * l.size-index) × (l.words ≡ sum_below (λ b. words_in (get_or l.sizes b 0)) l.size-index)
