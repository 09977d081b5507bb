-- Demand 1 for the program: its number is that of the first of the listed conditions that holds.
use Prim.Native.Nat.{ℕ}
use mathlib.Core.List.{List, ◌∷◌}
use mathlib.Core.Logic.{inl}
use mathlib.Core.Path.{◌≡◌, refl, sym, ◌∙◌, subst}
use borrow.Author.Tests.{eq-eqb, eqb-true}
use lib.Dec.{eqb}
use lib.ListN.{length}
use Rattle.lattice.specs.Refusal.{listed, unless}
use Rattle.lattice.specs.Shape.{shape_conditions, cells_of}
use Rattle.lattice.specs.Class.{layout_of}
use Rattle.lattice.proofs.theory.Answers.{unless_zero}
use Rattle.lattice.proofs.theory.Due.{Due, first_due, due_none, due_test, due_skip, due_append}
use Rattle.lattice.proofs.theory.RefusalTests.{shape_due}
use Rattle.codec.specs.Field.{field_of}
use Rattle.codec.specs.Code.{field_few_erasures, field_in_reach}
use Rattle.codec.specs.Payload.{padding_ok}
use Rattle.codec.specs.Plan.{plan_bytes, plan_cells}
use Rattle.codec.specs.Encode.{encode_number}
use Rattle.codec.specs.Decode.{corrected_field, field_number, decode_number}
use Rattle.codec.specs.Conditions.{ManyErasures, NoneInReach}
use Rattle.codec.specs.Reach.{WrongInReach}
use Rattle.codec.proofs.theory.Accepted.{plan_cells_lem, decode_number_lem}
use Rattle.codec.proofs.theory.FieldLists.{received_ok}
use Rattle.std.specs.Prelude.{Option, Some, None}
use Rattle.card.specs.declared.scan.Found.{Found}
use Rattle.card.specs.declared.header.Header.{Header}
use Rattle.card.specs.Card.{shape_of, FieldCells, CardHeader}
use Rattle.card.specs.Parse.{read, header_of, payload_of}
use Rattle.card.specs.Program.{blank_field, blank_payload, cells_in, operation_number, number_after}
use Rattle.card.specs.Form.{NoHeader, header_refusals, operation_refusals, later_refusals}
use Rattle.card.proofs.theory.ProgramParts.{blank_field_lem, blank_payload_lem, operation_payload, operation_rows}
use Rattle.card.proofs.theory.CardRead.{CardRead, of_payload, of_field, card_read}
use Rattle.card.proofs.theory.HeaderRest.{first_found}
use Rattle.card.proofs.theory.ParsedInput.{card_header, first}
use Rattle.card.proofs.theory.RefusalConditions.{header_due, cells_condition, body_condition, payload_condition, no_field}
use Rattle.card.proofs.theory.RefusalConditions.{no_payload, erasures_condition, reach_condition, padding_condition}

-- encoding into the lent field refuses a payload's length alone
encode_length : (h : Header) → CardHeader h → (p : List ℕ)
    → encode_number (shape_of h) p (blank_field h) ≡ unless (eqb (length p) (plan_bytes (shape_of h))) 3 0
unfolding encode_number
encode_length h card p =
    rw (
      card.accepted,
      eq-eqb (length (blank_field h)) (plan_cells (shape_of h)) (blank_field_lem h
          ∙ sym (plan_cells_lem (shape_of h) card.accepted)),
    )

-- and what it does not refuse has the plan's length
pub encoded_long : (h : Header)
    → CardHeader h
    → (p : List ℕ)
    → encode_number (shape_of h) p (blank_field h) ≡ 0
    → length p ≡ plan_bytes (shape_of h)
encoded_long h card p e =
    eqb-true (length p) (plan_bytes (shape_of h))
    (unless_zero (eqb (length p) (plan_bytes (shape_of h))) 2 0 (sym (encode_length h card p) ∙ e)).0

-- decoding a field of cells and erasures refuses its classes and its padding alone
decode_cells : (h : Header) → CardHeader h → (cells : List ℕ) → FieldCells h cells
    → decode_number (shape_of h) (blank_payload h) cells
    ≡ unless (field_few_erasures (shape_of h) (field_of cells)) 10
    (unless (field_in_reach (shape_of h) (field_of cells)) 6
    (unless (padding_ok (layout_of (shape_of h)) (corrected_field (shape_of h) (field_of cells))) 7 0))
unfolding field_number
decode_cells h card cells each =
    decode_number_lem (shape_of h) card.accepted (blank_payload h) cells (blank_payload_lem h) each.long
    ∙ rw (received_ok (field_of cells) (cells_of (shape_of h)) each.each)

module _ (s : List ℕ) (h : Header) (next : ℕ) (found : header_of s ≡ read h next) where
  -- the operation's own number
  operation_due : CardHeader h → CardRead s h next → Due (operation_refusals s) (operation_number s h next)
  operation_due card (of_payload e bytes text) =
      let p = payload_of s next in
      subst (Due (operation_refusals s)) (sym (operation_payload s h next e ∙ encode_length h card p))
      (due_test 2 _ (payload_condition s h next found card p bytes text)
      (λ _.
      due_skip (no_field s h next found card p bytes text ManyErasures)
      (due_skip (no_field s h next found card p bytes text NoneInReach)
      (due_skip (no_field s h next found card p bytes text WrongInReach) due_none))))
  operation_due card (of_field e each text) =
      let cells = cells_in s h next in
      subst (Due (operation_refusals s)) (sym (operation_rows s h next e ∙ decode_cells h card cells each))
      (due_skip (no_payload s h next found card cells each text)
      (due_test 9 _ (erasures_condition s h next found card cells each text)
      (λ few.
      due_test 5 _ (reach_condition s h next found card cells each text few)
      (λ reach. due_test 6 _ (padding_condition s h next found card cells each text few reach) (λ _. due_none)))))

  -- the number after the header
  later_due : Due (later_refusals s) (number_after s (read h next))
  unfolding number_after
  later_due =
      due_append (header_refusals shape_conditions s) _ _ _ (header_due s h next found shape_conditions (shape_due (shape_of h)))
      (λ accepted. due_test 7 _ (cells_condition s h next found)
      (λ few.
      let card = card_header h accepted few in
      due_test 7 _ (body_condition s h next found card)
      (λ right. operation_due card (card_read s h next found right))))

-- the number after the input's length
pub after_due : (s : List ℕ) (a : Option (Found Header)) → header_of s ≡ a → Due (listed 8 (NoHeader s)
    ∷ later_refusals s) (number_after s a)
unfolding number_after
after_due s (Some r) found =
    due_skip (λ none. none (first s r.value r.next found)) (later_due s r.value r.next found)
after_due s None found = first_due 7 refl (inl (none, refl))
  where
    none : NoHeader s
    none x = let e = first_found s x in cc
