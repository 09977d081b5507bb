-- What the loop of `list_line` keeps.
use Prim.Native.Nat.{◌+◌, ◌%◌, ◌≤◌}
use mathlib.Core.Path.{◌≡◌}
use Rattle.lattice.specs.declared.shape.Shape.{Shape}
use Rattle.lattice.specs.Shape.{Accepted}
use Rattle.lattice.specs.Class.{layout_of}
use Rattle.lattice.specs.Lines.{pass_of}
use Rattle.passes.specs.CheckList.{ListedTo}
use Rattle.passes.proofs.check_cells.list_line.Given as goal

abbrev pub invariant-loop-x : goal.invariant-loop-x
invariant-loop-x l =
    (l.x ≤ l.pass.columns) × (l.a ≡ (l.initial.a + l.x) % l.pass.period)
    × ((s : Shape) → Accepted s → l.pass ≡ pass_of s → ListedTo (layout_of s) (l.cell + l.x) l.n l.sizes l.counts l.cells
    l.places)
