-- What the loop of `word_offsets` keeps: the sum is that of the words of the classes before a, and the entries before a are
-- stored.
use Prim.Native.Nat.{ℕ, ◌*◌, ◌<◌, ◌≤◌}
use mathlib.Core.Path.{◌≡◌}
use lib.ListN.{get_or}
use Rattle.lattice.specs.Counting.{sum_below}
use Rattle.lattice.specs.Digits.{words_in}
use Rattle.levels.proofs.words.word_offsets.Given as goal

abbrev pub invariant-loop-a : goal.invariant-loop-a
invariant-loop-a l =
    (l.sum ≤ 10923 * l.a)
    × (l.sum ≡ sum_below (λ b. words_in (get_or l.sizes b 0)) l.a)
    × ((b : ℕ) → b < l.a → get_or l.offsets b 0 ≡ sum_below (λ d. words_in (get_or l.sizes d 0)) b)
