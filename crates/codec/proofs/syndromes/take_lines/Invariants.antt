-- What the loop of `take_lines` keeps: line l is next in the slice, and the slice's lines before it are taken in.
use Prim.Native.Nat.{◌-◌}
use mathlib.Core.Path.{◌≡◌}
use Rattle.lattice.specs.declared.shape.Shape.{Shape}
use Rattle.lattice.specs.Shape.{Accepted}
use Rattle.lattice.specs.Lines.{pass_of}
use Rattle.codec.specs.Field.{field_of, having}
use Rattle.codec.proofs.syndromes.LinesTaken.{TakenTo}
use Rattle.codec.proofs.syndromes.take_lines.Given as goal

abbrev pub invariant-loop-l : goal.invariant-loop-l
invariant-loop-l l =
    (s : Shape) → Accepted s → l.pass ≡ pass_of s → TakenTo s l.j (having l.value (field_of l.field)) l.l l.line l.e l.t

abbrev pub decreases-loop-l : goal.decreases-loop-l
decreases-loop-l l = l.pass.lines - l.l
