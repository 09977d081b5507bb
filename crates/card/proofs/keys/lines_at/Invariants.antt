-- What the loop of `lines_at` keeps.
use Rattle.card.proofs.keys.ByIndex.{texts, Reading}
use Rattle.card.proofs.keys.lines_at.Given as goal

abbrev pub invariant-loop-k : goal.invariant-loop-k
invariant-loop-k g l = Reading (texts l.keys) l.text l.at l.value l.next l.k
