-- `list_erasure` meets its contract.
use mathlib.Core.Bool.{true≢false}
use mathlib.Core.Path.{sym}
use native.Mathlib.Omega.{arith}
use Rattle.lattice.proofs.theory.Stores.{entry_stored}
use Rattle.codec.proofs.erasures.Listed.{lists_first, lists_second, lists_full}
use Rattle.codec.proofs.erasures.list_erasure.Goals as goal

pub returns-then-first-class-eq-NO_CELL : goal.returns-then-first-class-eq-NO_CELL
returns-then-first-class-eq-NO_CELL c =
    λ L f own lost listed. (
      (λ ok. lists_first L f _ _ c.requires.class_lt_max_classes.1 own lost _ _ listed _
          (entry_stored c.args.first.now c.args.class c.args.cell (omega arith)) c.if-first-class-eq-NO_CELL.true),
      λ no. absurd (true≢false no),
    )

pub returns-then-second-class-eq-NO_CELL : goal.returns-then-second-class-eq-NO_CELL
returns-then-second-class-eq-NO_CELL c =
    λ L f own lost listed. (
      (λ ok. lists_second L f _ _ c.requires.class_lt_max_classes.1 own lost _ _ listed _
          (entry_stored c.args.second.now c.args.class c.args.cell (omega arith)) c.if-first-class-eq-NO_CELL.false
          c.if-second-class-eq-NO_CELL.true),
      λ no. absurd (true≢false no),
    )

pub returns : goal.returns
returns c =
    λ L f own lost listed. (
      (λ ok. absurd (true≢false (sym ok))),
      λ no. lists_full L f _ _ c.requires.class_lt_max_classes.1 own lost _ _ listed c.requires.class_lt_max_classes.0
          c.if-first-class-eq-NO_CELL.false c.if-second-class-eq-NO_CELL.false,
    )
