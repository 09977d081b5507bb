-- `Shape::placed` meets its contract.
use mathlib.Core.Path.{sym}
use native.Mathlib.Omega.{arith}
use mir.Facts.{Fits-below}
use Rattle.lattice.proofs.theory.Limits.{rows_few, columns_few}
use Rattle.lattice.proofs.theory.Placements.{placed_window, placed_strength}
use Rattle.lattice.proofs.shape.Shape.placed.Goals as goal

pub overflow_cast-settings : goal.overflow_cast-settings
overflow_cast-settings c = Fits-below tt (columns_few _ c.requires c.if-self-eq0.true)

pub overflow_cast-result : goal.overflow_cast-result
overflow_cast-result c = Fits-below tt (rows_few _ c.requires c.if-self-eq0.true)

pub returns-then-self-eq0 : goal.returns-then-self-eq0
returns-then-self-eq0 c = sym (placed_window _ c.if-self-eq0.true)

pub returns : goal.returns
returns c =
    let other = c.if-self-eq0.false in
    rw c.settings-settings.ensures (sym (placed_strength _ (omega (arith, other))))
