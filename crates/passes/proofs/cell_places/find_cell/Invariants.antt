-- What the loop of `find_cell` keeps.
use Prim.Native.Nat.{◌+◌, ◌*◌, ◌<◌}
use mathlib.Core.Path.{◌≡◌}
use Rattle.lattice.specs.declared.shape.Shape.{Shape}
use Rattle.lattice.specs.Shape.{Accepted}
use Rattle.lattice.specs.Lines.{pass_of}
use Rattle.passes.proofs.cell_places.Search.{Searched}
use Rattle.passes.proofs.cell_places.find_cell.Given as goal

abbrev pub invariant-loop-k : goal.invariant-loop-k
invariant-loop-k l =
    (l.before < l.position)
    × ((s : Shape) → Accepted s → l.pass ≡ pass_of s → Searched s l.class (l.first + l.k * l.pass.slices) l.line l.before)
