-- What the loop of `fill_payload` keeps.
use Rattle.card.proofs.theory.PayloadText.{payload_byte}
use Rattle.card.proofs.theory.StoredFront.{StoredTo}
use Rattle.card.proofs.body.fill_payload.Given as goal

abbrev pub invariant-loop-j : goal.invariant-loop-j
invariant-loop-j l = StoredTo (payload_byte l.text l.at) l.initial.payload l.payload l.j
