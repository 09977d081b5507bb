-- Demand 1 for the program: the term of the theorem.
use mathlib.Core.Path.{refl}
use lib.ListN.{length}
use Rattle.lattice.proofs.theory.Due.{due_test, due_settled}
use Rattle.lattice.proofs.theory.RefusalTests.{at_most}
use Rattle.card.specs.Card.{max_input}
use Rattle.card.specs.Parse.{header_of}
use Rattle.card.specs.Program.{program_number}
use Rattle.card.specs.Form.{program_refusals}
use Rattle.card.specs.theorems.Refused.{ProgramRefused}
use Rattle.card.proofs.theory.ProgramTests.{after_due}

-- Theorem (demand 1). The program's number is settled by its conditions in the listed order.
pub program_refused : ProgramRefused
unfolding program_number
program_refused s =
    due_settled (program_refusals s) (program_number s)
    (due_test 7 _ (at_most (length s) max_input) (λ _. after_due s (header_of s) refl))
