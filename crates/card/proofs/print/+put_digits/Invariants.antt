-- The number of digits falls with each call.
use Rattle.card.proofs.print.+put_digits.Given as goal

abbrev pub decreases-put_digits : goal.decreases-put_digits
decreases-put_digits l = l.k
