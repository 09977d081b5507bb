-- What the loop of `one_syndrome` keeps: the sum is the syndrome of the first i cells.
use mathlib.Core.Path.{◌≡◌}
use Rattle.lattice.specs.Position.{Layout}
use Rattle.codec.specs.Field.{field_of, having}
use Rattle.codec.specs.Hamming.{tags_of, syndrome_to}
use Rattle.codec.proofs.syndromes.OneClass.{Alone}
use Rattle.codec.proofs.syndromes.one_syndrome.Given as goal

abbrev pub invariant-loop-i : goal.invariant-loop-i
invariant-loop-i l = (L : Layout) → Alone L l.n → l.sum ≡ syndrome_to L (tags_of L) (having l.value (field_of l.field)) 0 l.i
