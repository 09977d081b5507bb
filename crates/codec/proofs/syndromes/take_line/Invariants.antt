-- What the loop of `take_line` keeps: the first x cells are taken in.
use Rattle.codec.specs.Field.{field_of, having}
use Rattle.codec.specs.Lines.{LineTaken}
use Rattle.codec.proofs.syndromes.take_line.Given as goal

abbrev pub invariant-loop-x : goal.invariant-loop-x
invariant-loop-x l = LineTaken (having l.value (field_of l.field)) l.start l.n l.x l.e l.initial.t l.t
