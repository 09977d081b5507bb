-- Demand 1 for the program: its number by its conditions in the listed order.
use Rattle.std.specs.Prelude.{ℕ, List}
use Rattle.lattice.specs.Refusal.{Settled}
use Rattle.card.specs.Program.{program_number}
use Rattle.card.specs.Form.{program_refusals}

-- Theorem (demand 1). The program's number is settled by its refusals in the listed order.
abbrev pub ProgramRefused : Type 0
ProgramRefused = (s : List ℕ) → Settled (program_refusals s) (program_number s)
