-- What the loop of `checks_before` keeps: the number is found but for its last k bits.
use Prim.Native.Nat.{◌≤◌}
use Rattle.lattice.specs.Position.{Layout}
use Rattle.lattice.specs.Listing.{ListsChecks}
use Rattle.codec.proofs.damage.BitByBit.{ToBit}
use Rattle.codec.proofs.damage.checks_before.Given as goal

abbrev pub invariant-loop-k : goal.invariant-loop-k
invariant-loop-k l =
    (l.before ≤ l.amount)
    × ((L : Layout) → ListsChecks L L.cells l.amount l.checks → l.cell ≤ L.cells → ToBit L l.cell l.k l.before)
