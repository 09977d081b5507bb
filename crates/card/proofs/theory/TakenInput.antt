-- An input that the program does not refuse: what its tests tell of it.
use Prim.Native.Nat.{ℕ}
use mathlib.Core.Bool.{true}
use mathlib.Core.List.{List}
use mathlib.Core.Path.{◌≡◌, refl}
use native.Mathlib.Omega.{arith}
use lib.Dec.{leb}
use lib.ListN.{length}
use Rattle.lattice.specs.Shape.{shape_number, cells_of}
use Rattle.lattice.proofs.theory.Answers.{unless_zero, or_else_zero}
use Rattle.std.specs.Prelude.{Option, Some, None}
use Rattle.card.specs.declared.scan.Found.{Found}
use Rattle.card.specs.declared.header.Header.{Header}
use Rattle.card.specs.Card.{max_input, max_card_cells, shape_of, CardHeader}
use Rattle.card.specs.Parse.{read, header_of}
use Rattle.card.specs.Program.{body_ok, operation_number, number_after, program_number}
use Rattle.card.proofs.theory.ParsedInput.{card_header}

-- the input has a card's header, the lines after it are right, and the operation succeeds
pub record TakenInput (s : List ℕ) : Type 0 where
  pub header : Header
  pub next : ℕ
  pub found : header_of s ≡ read header next
  pub card : CardHeader header
  pub right : body_ok s header next ≡ true
  pub success : operation_number s header next ≡ 0

after_taken : (s : List ℕ) (a : Option (Found Header)) → header_of s ≡ a → number_after s a ≡ 0 → TakenInput s
unfolding number_after
after_taken s (Some r) found e =
    let h = r.value in
    let next = r.next in
    let shape = or_else_zero (shape_number (shape_of h)) _ e in
    let few = unless_zero (leb (cells_of (shape_of h)) max_card_cells) 7 _ shape.1 in
    let body = unless_zero (body_ok s h next) 7 _ few.1 in
    record {
      header = h;
      next = next;
      found = found;
      card = card_header h shape.0 few.0;
      right = body.0;
      success = body.1;
    }
after_taken s None found e = absurd (omega arith)

-- the number 0 says that every test has passed
pub input_taken : (s : List ℕ) → program_number s ≡ 0 → TakenInput s
unfolding program_number
input_taken s e = after_taken s (header_of s) refl (unless_zero (leb (length s) max_input) 7 _ e).1
