-- What the loop of `line_syndromes` keeps: the classes of the slices before j have their syndromes.
use mathlib.Core.Path.{◌≡◌}
use Rattle.lattice.specs.declared.shape.Shape.{Shape}
use Rattle.lattice.specs.Shape.{Accepted}
use Rattle.lattice.specs.Lines.{pass_of}
use Rattle.codec.specs.Field.{field_of, having}
use Rattle.codec.proofs.syndromes.SlicesTaken.{SlicesTaken}
use Rattle.codec.proofs.syndromes.line_syndromes.Given as goal

abbrev pub invariant-loop-j : goal.invariant-loop-j
invariant-loop-j l =
    (s : Shape) → Accepted s → l.pass ≡ pass_of s → SlicesTaken s l.pass (having l.value (field_of l.field)) l.j l.syndromes
