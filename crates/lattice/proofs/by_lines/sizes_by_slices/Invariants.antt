-- What the loop of `sizes_by_slices` keeps.
use Prim.Native.Nat.{ℕ, ◌*◌, ◌/◌, ◌%◌, ◌<◌, ◌≤◌}
use mathlib.Core.Path.{◌≡◌}
use lib.ListN.{length, get_or}
use Rattle.lattice.specs.Lines.{among}
use Rattle.lattice.proofs.by_lines.sizes_by_slices.Given as goal

abbrev pub invariant-loop-a : goal.invariant-loop-a
invariant-loop-a l =
    (l.a ≤ l.pass.classes) × (length l.sizes ≡ length l.initial.sizes)
    × ((k : ℕ) → k < l.a
    → get_or l.sizes k 0
    ≡ among l.pass.slices (k / l.pass.period) l.pass.lines * among l.pass.period (k % l.pass.period) l.pass.columns)
    × ((k : ℕ) → l.a ≤ k → get_or l.sizes k 0 ≡ get_or l.initial.sizes k 0)
