-- What the loop of `digit_run` keeps.
use Rattle.card.proofs.line.Digits.{DigitsRead}
use Rattle.card.proofs.line.digit_run.Given as goal

abbrev pub invariant-loop-k : goal.invariant-loop-k
invariant-loop-k l = DigitsRead l.text l.at l.k
