-- What the loop of `flip_bits` keeps: the payload has the bits of the field with the named cells of the classes before the next
-- flipped.
use mathlib.Core.Path.{◌≡◌}
use Rattle.lattice.specs.Listing.{ListsChecks}
use Rattle.lattice.specs.Position.{Layout}
use Rattle.codec.specs.Field.{Field}
use Rattle.codec.specs.Packing.{HoldsBits, flipped_to, Names}
use Rattle.codec.proofs.damage.flip_bits.Given as goal

abbrev pub invariant-loop-cell : goal.invariant-loop-cell
invariant-loop-cell l =
    (L : Layout) → L.cells ≡ l.cells → ListsChecks L L.cells l.amount l.checks → (f : Field) → Names L l.m l.named
    → HoldsBits L f l.initial.payload → HoldsBits L (flipped_to L l.named f l.cell-index) l.payload
