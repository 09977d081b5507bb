-- What the loop of `fold` keeps: a is the place of the next entry, modulo m, and the entries before it are folded.
use Prim.Native.Nat.{ℕ, ◌+◌, ◌%◌, ◌<◌, ◌≤◌}
use mathlib.Core.Logic.{◌⊎◌}
use mathlib.Core.Path.{◌≡◌}
use lib.ListN.{get_or}
use Rattle.codec.specs.Lines.{folded}
use Rattle.codec.proofs.syndromes.fold.Given as goal

abbrev pub invariant-loop-sum : goal.invariant-loop-sum
invariant-loop-sum l =
    (l.a ≡ l.sum-index % l.m)
    × ((b : ℕ) → b < l.m → get_or l.syndromes (l.first + b) 0 ≡ folded l.m b l.sum-index l.t)
    × ((b : ℕ) → (b < l.first) ⊎ (l.first + l.m ≤ b) → get_or l.syndromes b 0 ≡ get_or l.initial.syndromes b 0)
