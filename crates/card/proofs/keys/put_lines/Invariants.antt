-- What the loop of `put_lines` keeps.
use Rattle.card.specs.Text.{lines_of}
use Rattle.card.proofs.keys.ByIndex.{texts, Writing}
use Rattle.card.proofs.keys.put_lines.Given as goal

abbrev pub invariant-loop-k : goal.invariant-loop-k
invariant-loop-k l = Writing (lines_of (texts l.keys) l.numbers) l.initial.out l.at l.out l.next l.k
