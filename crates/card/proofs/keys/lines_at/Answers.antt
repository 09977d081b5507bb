-- `lines_at` meets its contract: before each line, those before it have been read.
use mathlib.Core.Path.{sym, ◌∙◌}
use native.Mathlib.Omega.{arith}
use Rattle.card.proofs.keys.ByIndex.{texts_long, text_of, reading_more}
use Rattle.card.proofs.keys.lines_at.Goals as goal

pub loop-k-preserved : goal.loop-k-preserved
loop-k-preserved g c =
    let keys = c.args.keys.now in
    reading_more _ _ _ _ _ _ c.loop-k.invariant _ (text_of keys _ _ c.loop-k-test.true)
    (omega (arith, texts_long keys)) _ _
    (sym c.line_at.ensures ∙ c.in_ok-line.was)
