-- `class_with` meets its contract: with settings of 16 bits and coordinates of 32 bits no product or sum wraps.
use mathlib.Core.Path.{sym}
use Rattle.lattice.specs.Class.{class_with}
use Rattle.lattice.proofs.theory.ClassBelow.{class_none}
use Rattle.lattice.proofs.class.class_with.Goals as goal

pub returns-then-m-eq0 : goal.returns-then-m-eq0
returns-then-m-eq0 c = sym (class_none _ _ c.if-m-eq0.true)

pub returns : goal.returns
unfolding class_with
returns c = c.minus_mod.ensures
