-- `clear_erased` meets its contract.
use mathlib.Core.Path.{sym, ◌∙◌}
use native.Mathlib.Omega.{arith}
use Rattle.codec.proofs.correct.Cleared.{cleared_more, none_clear}
use Rattle.codec.proofs.correct.clear_erased.Goals as goal

pub returns-then-erased-eq0 : goal.returns-then-erased-eq0
returns-then-erased-eq0 c = none_clear _ _ c.requires.received (sym c.requires.erased_value ∙ c.if-erased-eq0.true)

pub loop-i-preserved : goal.loop-i-preserved
loop-i-preserved c =
    let turn = c.loop-i in cleared_more c.args.field.now turn.field turn.i _ (omega arith) c.one_at.ensures turn.invariant
