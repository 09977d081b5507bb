-- `list_cell` meets its contract.
use mathlib.Core.Path.{sym, ◌∙◌}
use Rattle.passes.proofs.check_cells.OneMore.{step_free, step_check}
use Rattle.passes.proofs.check_cells.list_cell.Goals as goal

pub returns-then-is_check : goal.returns-then-is_check
returns-then-is_check c =
    let count = c.count_in-position in
    let test = c.is_check in
    λ L own few before.
    step_check L _ _ _ _ _ _ _ _ _ own c.requires.0 before count.ensures.value count.ensures.entry_stored
    (sym test.ensures ∙ c.if-is_check.true) few _ _ _ _ c.put.ensures.upper_bound
    c.place_number-place.ensures c.put.ensures.put_last

pub returns : goal.returns
returns c =
    let count = c.count_in-position in
    λ L own few before.
    step_free L _ _ _ _ _ _ _ _ _ own c.requires.0 before count.ensures.value count.ensures.entry_stored
    (sym c.is_check.ensures ∙ c.if-is_check.false)
