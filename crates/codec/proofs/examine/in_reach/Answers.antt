-- `in_reach` meets its contract.
use mathlib.Core.Path.{refl}
use borrow.Author.Tests.{eq-eqb, ne_eqb}
use Rattle.codec.specs.Working.{reached_by}
use Rattle.codec.proofs.examine.in_reach.Goals as goal

pub returns-then-syndrome-eq0 : goal.returns-then-syndrome-eq0
unfolding reached_by
returns-then-syndrome-eq0 c = rw (eq-eqb _ _ c.if-syndrome-eq0.true) refl

pub returns-then-damaged-ne-NO_CELL : goal.returns-then-damaged-ne-NO_CELL
unfolding reached_by
returns-then-damaged-ne-NO_CELL c = rw (ne_eqb _ _ c.if-syndrome-eq0.false, ne_eqb _ _ c.if-damaged-ne-NO_CELL.true) refl

pub returns-then-first-ne-NO_CELL : goal.returns-then-first-ne-NO_CELL
unfolding reached_by
returns-then-first-ne-NO_CELL c =
    rw (ne_eqb _ _ c.if-syndrome-eq0.false, eq-eqb _ _ c.if-damaged-ne-NO_CELL.false, ne_eqb _ _ c.if-first-ne-NO_CELL.true) refl

pub returns : goal.returns
unfolding reached_by
returns c =
    rw (ne_eqb _ _ c.if-syndrome-eq0.false, eq-eqb _ _ c.if-damaged-ne-NO_CELL.false, eq-eqb _ _ c.if-first-ne-NO_CELL.false) refl
