-- What the loop of `flip_cells` keeps: the named cells of the classes before the next are flipped.
use mathlib.Core.Path.{◌≡◌}
use lib.ListN.{length}
use Rattle.lattice.specs.Position.{Layout}
use Rattle.codec.specs.Field.{field_of, Same}
use Rattle.codec.specs.Packing.{flipped_to, Names}
use Rattle.codec.proofs.damage.flip_cells.Given as goal

abbrev pub invariant-loop-cell : goal.invariant-loop-cell
invariant-loop-cell l =
    (L : Layout) → L.cells ≡ length l.initial.field → Names L l.m l.named
    → Same (field_of l.field) (flipped_to L l.named (field_of l.initial.field) l.cell-index) (length l.initial.field)
