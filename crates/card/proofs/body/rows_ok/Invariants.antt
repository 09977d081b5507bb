-- What the loop of `rows_ok` keeps.
use Rattle.codec.proofs.theory.OneByOne.{PassedTo}
use Rattle.card.specs.Parse.{row_ok}
use Rattle.card.proofs.body.rows_ok.Given as goal

abbrev pub invariant-loop-r : goal.invariant-loop-r
invariant-loop-r l = PassedTo (row_ok l.text l.at l.columns) l.r
