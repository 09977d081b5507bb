-- What the loop of `gather_run` keeps.
use Prim.Native.Nat.{◌-◌, ◌≤◌}
use mathlib.Core.Path.{◌≡◌}
use lib.ListN.{length}
use Rattle.lattice.specs.Listing.{Run}
use Rattle.lattice.specs.Position.{Layout}
use Rattle.codec.specs.Field.{field_of, having}
use Rattle.codec.specs.Packing.{HoldsBytes}
use Rattle.codec.proofs.gather.gather_run.Given as goal

abbrev pub invariant-loop-i : goal.invariant-loop-i
invariant-loop-i l =
    (l.begin ≤ l.i) × (l.i ≤ l.end) × (length l.payload ≡ length l.initial.payload)
    × ((L : Layout) → Run L l.k l.begin l.end → HoldsBytes L (having 1 (field_of l.field)) l.initial.payload l.begin
    → HoldsBytes L (having 1 (field_of l.field)) l.payload l.i)

abbrev pub decreases-loop-i : goal.decreases-loop-i
decreases-loop-i l = l.end - l.i
