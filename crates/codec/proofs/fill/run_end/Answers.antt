-- `run_end` meets its contract.
use native.Mathlib.Nat.{le_refl, le_of_lt}
use Rattle.codec.proofs.fill.Runs.{ends_check, ends_before, ends_behind}
use Rattle.codec.proofs.fill.run_end.Goals as goal

pub returns-then-cell-end : goal.returns-then-cell-end
returns-then-cell-end c =
    let few = c.if-k-amount.true in (
      le_of_lt c.if-cell-end.true,
      λ L lists fit. ends_check L _ _ lists _ _ fit few c.if-cell-end.true,
    )

pub returns-else-cell-end : goal.returns-else-cell-end
returns-else-cell-end c =
    (le_refl _, λ L lists fit. ends_before L _ _ lists _ _ fit c.if-k-amount.true c.if-cell-end.false)

pub returns-else-k-amount : goal.returns-else-k-amount
returns-else-k-amount c = (le_refl _, λ L lists fit. ends_behind L _ _ lists _ _ fit c.if-k-amount.false)
