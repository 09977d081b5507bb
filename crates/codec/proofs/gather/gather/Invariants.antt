-- What the loop of `gather` keeps: the cells before `begin` are gathered, and k checks stand among them.
use Prim.Native.Nat.{◌≤◌}
use mathlib.Core.Path.{◌≡◌}
use Rattle.lattice.specs.Listing.{checks_to, ListsChecks}
use Rattle.lattice.specs.Position.{Layout}
use Rattle.codec.specs.Field.{field_of, having}
use Rattle.codec.specs.Packing.{HoldsBytes}
use Rattle.codec.proofs.gather.gather.Given as goal

abbrev pub invariant-loop-k : goal.invariant-loop-k
invariant-loop-k l =
    (l.begin ≤ l.cells)
    × ((L : Layout) → L.cells ≡ l.cells → ListsChecks L l.cells l.amount l.checks
    → (checks_to L l.begin ≡ l.k) × HoldsBytes L (having 1 (field_of l.field)) l.payload l.begin)
