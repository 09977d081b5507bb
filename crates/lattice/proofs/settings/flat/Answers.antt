-- `flat` meets its contract: the square of a number below 256 fits 16 bits.
use mathlib.Core.Path.{sym}
use Rattle.lattice.specs.Settings.{odd_settings, even_settings}
use Rattle.lattice.proofs.theory.SettingsLaws.{flat_odd, flat_even}
use Rattle.lattice.proofs.settings.flat.Goals.{Start}
use Rattle.lattice.proofs.settings.flat.Goals as goal

pub returns-then-strength-eq1 : goal.returns-then-strength-eq1
unfolding odd_settings
returns-then-strength-eq1 c = sym (flat_odd _ c.if-strength-eq1.true)

pub returns-else-strength-eq1 : goal.returns-else-strength-eq1
unfolding even_settings
returns-else-strength-eq1 c = sym (flat_even _ c.if-strength-eq1.false)
