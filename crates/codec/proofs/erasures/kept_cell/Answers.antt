-- `kept_cell` meets its contract.
use mathlib.Core.Path.{sym}
use Rattle.codec.proofs.theory.KeptCell.{kept_all, kept_tagged, kept_neither}
use Rattle.codec.proofs.erasures.kept_cell.Goals as goal

pub returns-then-syndrome-sum : goal.returns-then-syndrome-sum
returns-then-syndrome-sum c = sym (kept_all _ _ _ _ c.if-syndrome-sum.true)

pub returns-then-cell-erasure : goal.returns-then-cell-erasure
returns-then-cell-erasure c = sym (kept_tagged _ _ _ _ c.if-cell-erasure.true)

pub returns : goal.returns
returns c = sym (kept_neither _ _ _ _ c.if-syndrome-sum.false c.if-cell-erasure.false)
