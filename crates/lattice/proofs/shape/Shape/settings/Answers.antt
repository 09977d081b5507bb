-- `Shape::settings` meets its contract.
use mathlib.Core.Path.{sym, ◌∙◌}
use native.Mathlib.Nat.{lt_of_le_of_lt}
use lib.Dec.{lit<}
use Rattle.lattice.proofs.theory.Limits.{strength_most, strength_stack}
use Rattle.lattice.proofs.theory.SettingsLaws.{settings_flat, settings_stack}
use Rattle.lattice.proofs.shape.Shape.settings.Goals as goal

pub flat-requires : goal.flat-requires
flat-requires c = lt_of_le_of_lt (strength_most _ c.requires.0) (lit< tt)

pub stack-requires : goal.stack-requires
stack-requires c =
    lt_of_le_of_lt (strength_stack _ c.requires.0 c.if-self-eq1.false) (lit< tt)

pub returns-then-self-eq1 : goal.returns-then-self-eq1
returns-then-self-eq1 c = c.flat.ensures ∙ sym (settings_flat _ _ c.if-self-eq1.true)

pub returns-else-self-eq1 : goal.returns-else-self-eq1
returns-else-self-eq1 c = c.stack.ensures ∙ sym (settings_stack _ _ c.if-self-eq1.false)
