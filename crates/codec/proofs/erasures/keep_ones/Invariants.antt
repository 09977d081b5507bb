-- What the loop of `keep_ones` keeps: the entries of the classes before a are kept cells, and the others are as they were.
use Prim.Native.Nat.{ℕ, ◌<◌, ◌≤◌}
use mathlib.Core.Path.{◌≡◌}
use lib.ListN.{get_or}
use Rattle.codec.specs.Working.{kept_cell}
use Rattle.codec.proofs.erasures.keep_ones.Given as goal

abbrev pub invariant-loop-a : goal.invariant-loop-a
invariant-loop-a l =
    ((k : ℕ) → k < l.a
    → get_or l.erasure-items k 0 ≡ kept_cell (get_or l.syndromes k 0) (get_or l.sums k 0) (get_or l.cells k 0)
    (get_or l.initial.erasure-items k 0))
    × ((k : ℕ) → l.a ≤ k → get_or l.erasure-items k 0 ≡ get_or l.initial.erasure-items k 0)
