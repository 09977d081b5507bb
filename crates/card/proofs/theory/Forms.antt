-- The form and the length of the program's output.
use Prim.Native.Nat.{ℕ, zero, suc, ◌≤◌}
use mathlib.Core.List.{List}
use mathlib.Core.Path.{◌≡◌, refl, sym, ◌∙◌, ap}
use native.Mathlib.Omega.{arith}
use lib.ListN.{length}
use Rattle.card.specs.Card.{max_answer}
use Rattle.card.specs.Parse.{read, payload_of}
use Rattle.card.specs.Program.{cells_in, program_number, success_text, answer}
use Rattle.card.specs.Form.{OneOfThree}
use Rattle.card.proofs.theory.ProgramParts.{operation_payload, success_payload, success_rows, answer_success}
use Rattle.card.proofs.theory.ProgramParts.{answer_refused}
use Rattle.card.proofs.theory.CardRead.{CardRead, of_payload, of_field, card_read}
use Rattle.card.proofs.theory.TakenInput.{TakenInput, input_taken}
use Rattle.card.proofs.theory.AnswerLength.{written_most, read_most, refusal_most}
use Rattle.card.proofs.theory.ProgramTests.{encoded_long}

pub form : (s : List ℕ) → OneOfThree s
form s = go (program_number s) refl
  where
    success : program_number s ≡ 0
        → (x : TakenInput s)
        → answer s ≡ success_text s (read x.header x.next)
        → CardRead s x.header x.next
        → OneOfThree s
    success z x e (of_payload is bytes text) =
        OneOfThree.written x.header (payload_of s x.next) x.card
        (encoded_long x.header x.card (payload_of s x.next)
        (sym (operation_payload s x.header x.next is) ∙ x.success))
        bytes z text (e ∙ success_payload s x.header x.next is)
    success z x e (of_field is each text) =
        OneOfThree.read x.header (cells_in s x.header x.next) x.card each z text
        (e ∙ success_rows s x.header x.next is)

    go : (n : ℕ) → program_number s ≡ n → OneOfThree s
    go zero e =
        let x = input_taken s e in
        success e x (answer_success s e ∙ ap (success_text s) x.found)
        (card_read s x.header x.next x.found x.right)
    go (suc n) e = let other : program_number s ≡ 0 → ⊥ = λ z. omega arith in OneOfThree.refused other (answer_refused s other)

pub short : (s : List ℕ) → OneOfThree s → length (answer s) ≤ max_answer
short s (OneOfThree.written h p card long bytes z text e) = rw e (written_most h card p)
short s (OneOfThree.read h cells card each z text e) = rw e (read_most h card cells)
short s (OneOfThree.refused other e) = rw e (refusal_most (program_number s))
