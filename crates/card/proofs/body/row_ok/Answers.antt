-- `row_ok` meets its contract: the key, the digits and the line feed are tested one after the other.
use Prim.Native.Nat.{ℕ, ◌+◌}
use mathlib.Core.Path.{◌≡◌, refl, ◌∙◌}
use native.Mathlib.Omega.{arith}
use lib.ListN.{get_or}
use Rattle.std.proofs.Common.{rules, tests}
use Rattle.std.proofs.lemmas.Iterator.{YieldsList-from_range}
use Rattle.std.proofs.lemmas.Iterator.Search.{all_from_yields_List}
use Rattle.lattice.specs.Counting.{all_below}
use Rattle.lattice.proofs.theory.Bools.{failed, passed}
use Rattle.card.specs.Parse.{is_cell_digit}
use Rattle.card.proofs.theory.ByteTests.{all_range}
use Rattle.card.proofs.theory.RowsStored.{row_no_key, row_other, row_ends}
use Rattle.card.proofs.body.row_ok.Goals.{After-all}
use Rattle.card.proofs.body.row_ok.Goals as goal

-- the test of the digits
digits : (c : After-all)
    → let a = c.args in
    c.all.result ≡ all_below (λ j. is_cell_digit (get_or a.text.now (a.start + 4 + j) 0)) a.width
digits c =
    let a = c.args in
    let digit = λ (j : ℕ). is_cell_digit (get_or a.text.now (a.start + 4 + j) 0) in
    all_from_yields_List digit _ _ c.all.result c.all.ensures.ran (YieldsList-from_range 0 a.width a.width refl (omega arith))
    (λ x b q k. search (rules, tests))
    ∙ all_range digit a.width

pub returns-then-not-key_at : goal.returns-then-not-key_at
returns-then-not-key_at c = row_no_key _ _ _ (failed _ _ c.if-not-key_at.true c.key_at.ensures)

pub returns-then-not-all : goal.returns-then-not-all
returns-then-not-all c =
    row_other _ _ _ (passed _ _ c.if-not-key_at.false c.key_at.ensures)
    (failed _ _ c.if-not-all.true (digits (goal.at.returns-then-not-all c).After-all))

pub returns : goal.returns
returns c =
    row_ends _ _ _ (passed _ _ c.if-not-key_at.false c.key_at.ensures)
    (passed _ _ c.if-not-all.false (digits (goal.at.returns c).After-all)) _ c.byte_at.ensures
