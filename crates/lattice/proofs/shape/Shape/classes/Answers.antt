-- `Shape::classes` meets its contract.
use mathlib.Core.Path.{ap, ◌∙◌}
use Prim.Native.Nat.{◌*◌}
use Rattle.lattice.specs.declared.class.Placement.{Placement}
use Rattle.lattice.proofs.theory.Placements.{classes_given}
use Rattle.lattice.proofs.shape.Shape.classes.Goals as goal

pub returns : goal.returns
returns c = ap (λ (p : Placement). p.slices * p.settings.m) c.placement-placement.ensures ∙ classes_given _
