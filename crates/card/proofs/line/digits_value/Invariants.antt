-- What the loop of `digits_value` keeps.
use mathlib.Core.Path.{◌≡◌}
use Rattle.card.specs.Parse.{digits_value}
use Rattle.card.proofs.line.digits_value.Given as goal

abbrev pub invariant-loop-i : goal.invariant-loop-i
invariant-loop-i l = l.value ≡ digits_value l.text l.at l.i
