-- `rows_ok` meets its contract. The loop's invariant: the first r lines are rows.
use native.Mathlib.Omega.{arith}
use Rattle.lattice.proofs.theory.Bools.{failed, passed}
use Rattle.codec.proofs.theory.OneByOne.{passed_more}
use Rattle.card.proofs.theory.RowsStored.{rows_behind, rows_long, row_moved}
use Rattle.card.proofs.theory.RowsStored.{rows_fail, rows_pass}
use Rattle.card.proofs.body.rows_ok.Goals.{In-loop-r}
use Rattle.card.proofs.body.rows_ok.Goals as goal

pub returns-then-text-at : goal.returns-then-text-at
returns-then-text-at c = rows_behind _ _ _ _ c.if-text-at.true

pub returns-then-text-at-2 : goal.returns-then-text-at-2
returns-then-text-at-2 c = rows_long _ _ _ _ c.if-text-at.false c.if-text-at-2.true

pub returns-then-not-row_ok : goal.returns-then-not-row_ok
returns-then-not-row_ok c =
    let a = c.args in
    rows_fail a.text.now a.at a.columns a.rows c.if-text-at.false c.if-text-at-2.false _
    c.loop-r-test.true (failed _ _ c.if-not-row_ok.true (row_moved _ _ _ _ _ c.row_ok.ensures))

pub loop-r-preserved : goal.loop-r-preserved
loop-r-preserved c =
    passed_more _ _ c.loop-r.invariant (passed _ _ c.if-not-row_ok.false (row_moved _ _ _ _ _ c.row_ok.ensures))

pub returns : goal.returns
returns c =
    let a = c.args in
    let turn = c.loop-r in
    rows_pass a.text.now a.at a.columns a.rows c.if-text-at.false c.if-text-at-2.false _
    turn.invariant (omega arith) (omega arith)
