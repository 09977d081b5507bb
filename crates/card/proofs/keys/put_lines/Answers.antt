-- `put_lines` meets its contract: before each line, those before it have been written.
use mathlib.Core.Path.{◌≡◌, sym, ◌∙◌}
use native.Mathlib.Omega.{arith}
use lib.ListN.{length}
use Rattle.card.proofs.keys.ByIndex.{texts, texts_long, text_of, line_room, writing_more, writing_all}
use Rattle.card.proofs.keys.put_lines.Goals.{Start}
use Rattle.card.proofs.keys.put_lines.Goals as goal

-- as many keys as there are numbers
count : (c : Start) → length (texts c.args.keys.now) ≡ length c.args.numbers.now
count c = texts_long c.args.keys.now ∙ sym c.requires.numbers_len

pub put_number_line-next-requires : goal.put_number_line-next-requires
put_number_line-next-requires c =
    line_room (texts c.args.keys.now) c.args.numbers.now
    (count (goal.at.put_number_line-next-requires c).Start) c.requires.has_room
    c.loop-k.invariant _ (text_of c.args.keys.now _ _ c.loop-k-test.true) (omega arith)

pub loop-k-preserved : goal.loop-k-preserved
loop-k-preserved c =
    writing_more (texts c.args.keys.now) c.args.numbers.now (count (goal.at.loop-k-preserved c).Start) c.requires.has_room
    c.loop-k.invariant _ (text_of c.args.keys.now _ _ c.loop-k-test.true) (omega arith) c.put_number_line-next.ensures

pub returns : goal.returns
returns c =
    writing_all (texts c.args.keys.now) c.args.numbers.now (count (goal.at.returns c).Start) c.requires.has_room
    c.loop-k.invariant (omega arith)
