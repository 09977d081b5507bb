-- What the loop of `place_all` keeps: the entries of the classes before a are their cells.
use mathlib.Core.Path.{◌≡◌}
use Rattle.lattice.specs.declared.shape.Shape.{Shape}
use Rattle.lattice.specs.Shape.{Accepted}
use Rattle.lattice.specs.Class.{layout_of}
use Rattle.lattice.specs.Lines.{pass_of}
use Rattle.lattice.specs.Listing.{CellsAt}
use Rattle.passes.proofs.cell_places.place_all.Given as goal

abbrev pub invariant-loop-a : goal.invariant-loop-a
invariant-loop-a l =
    (s : Shape) → Accepted s → l.pass ≡ pass_of s → CellsAt (layout_of s) l.a l.positions l.cells
