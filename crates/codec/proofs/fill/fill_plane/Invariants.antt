-- What the loop of `fill_plane` keeps.
use Prim.Native.Nat.{◌-◌, ◌≤◌}
use mathlib.Core.Path.{◌≡◌}
use lib.ListN.{length}
use Rattle.lattice.specs.Listing.{checks_to}
use Rattle.lattice.specs.Position.{Layout}
use Rattle.codec.specs.Filling.{ToFill, AtRun}
use Rattle.codec.proofs.fill.fill_plane.Given as goal

abbrev pub invariant-loop-to : goal.invariant-loop-to
invariant-loop-to l =
    (l.to ≤ l.end) × (length l.part ≡ length l.initial.part)
    × ((L : Layout) → ToFill L l.payload l.checks l.amount l.end → checks_to L l.at ≡ l.first
    → AtRun L l.payload l.initial.part l.part l.at l.k l.from l.end l.to)

abbrev pub decreases-loop-to : goal.decreases-loop-to
decreases-loop-to l = l.end - l.from
