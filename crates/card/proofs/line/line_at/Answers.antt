-- `line_at` meets its contract: without its key there is no line, and else the number behind the key is the line's.
use Rattle.lattice.proofs.theory.Bools.{failed, passed}
use Rattle.card.proofs.line.Digits.{line_faults, line_found}
use Rattle.card.proofs.line.line_at.Goals as goal

pub returns-then-not-key_at : goal.returns-then-not-key_at
returns-then-not-key_at c = line_faults _ _ _ (failed _ _ c.if-not-key_at.true c.key_at.ensures)

pub returns : goal.returns
returns c = line_found _ _ _ (passed _ _ c.if-not-key_at.false c.key_at.ensures) _ c.number_at.ensures
