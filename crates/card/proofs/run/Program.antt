-- The answer to an input, by the tests in their order.
use Prim.Native.Nat.{ℕ, ◌<◌, ◌≤◌}
use mathlib.Core.Bool.{true, false}
use mathlib.Core.List.{List}
use mathlib.Core.Path.{◌≡◌, sym, ap, ◌∙◌}
use borrow.Author.Tests.{le-leb, lt-leb, ne_eqb}
use lib.ListN.{length}
use Rattle.lattice.specs.declared.refusal.Refusal.{Refusal}
use Rattle.lattice.specs.declared.refusal.Refusal.TheVariants as why
use Rattle.lattice.specs.Refusal.{refusal_number}
use Rattle.lattice.specs.Shape.{Accepted, cells_of, after_shape}
use Rattle.lattice.proofs.theory.Answers.{some_number}
use Rattle.codec.specs.Plan.{plan_bytes}
use Rattle.codec.specs.Encode.{encode_number}
use Rattle.std.specs.Prelude.{None}
use Rattle.card.specs.declared.header.Header.{Header}
use Rattle.card.specs.Text.{refusal_text}
use Rattle.card.specs.Card.{max_input, max_card_cells, shape_of, CardHeader}
use Rattle.card.specs.Parse.{read, header_of, payload_ok, payload_of}
use Rattle.card.specs.Program.{is_payload, rows_fit, cells_in, body_ok, number_after, program_number, answer}
use Rattle.card.specs.Working.{HeaderRead, encoded_text, decoded_text}
use Rattle.card.proofs.theory.ProgramParts.{body_payload, operation_payload, success_payload, body_rows, operation_rows}
use Rattle.card.proofs.theory.ProgramParts.{success_rows, answer_refused, number_operation}

-- an input that is refused has the refusal's text
refused : (s : List ℕ) (r : Refusal) → refusal_number r ≡ program_number s → refusal_text (refusal_number r) ≡ answer s
refused s r e = ap refusal_text e ∙ sym (answer_refused s (λ z. some_number r (e ∙ z)))

pub too_long : (s : List ℕ) → max_input < length s → refusal_text 8 ≡ answer s
unfolding program_number
too_long s l = refused s why.BadForm (rw (lt-leb (length s) max_input l))

pub no_header : (s : List ℕ) → length s ≤ max_input → header_of s ≡ None → refusal_text 8 ≡ answer s
unfolding program_number number_after
no_header s l e = refused s why.BadForm (rw (le-leb (length s) max_input l, e))

module _ (s : List ℕ) (h : Header) (next : ℕ) (x : HeaderRead s h next) where
  number_after_lem : program_number s ≡ number_after s (read h next)
  unfolding program_number
  number_after_lem = rw (le-leb (length s) max_input x.short, x.found)

  pub bad_shape : (r : Refusal) → ((later : ℕ) → refusal_number r ≡ after_shape (shape_of h) later)
      → refusal_text (refusal_number r) ≡ answer s
  unfolding number_after
  bad_shape r e = refused s r (e _ ∙ sym number_after_lem)

  pub too_many : Accepted (shape_of h) → max_card_cells < cells_of (shape_of h) → refusal_text 8 ≡ answer s
  unfolding number_after
  too_many e l = refused s why.BadForm (rw (number_after_lem, e, lt-leb (cells_of (shape_of h)) max_card_cells l))

  module _ (card : CardHeader h) where
    bad_body : body_ok s h next ≡ false → refusal_text 8 ≡ answer s
    unfolding number_after
    bad_body e =
        refused s why.BadForm (rw (number_after_lem, card.accepted, le-leb (cells_of (shape_of h)) max_card_cells card.cells, e))

    -- a payload
    module _ (payload : is_payload s next ≡ true) where
      pub bad_payload : payload_ok s next ≡ false → refusal_text 8 ≡ answer s
      bad_payload e = bad_body (body_payload s h next payload ∙ e)

      module _ (ok : payload_ok s next ≡ true) where
        right : body_ok s h next ≡ true
        right = body_payload s h next payload ∙ ok

        pub wrong_length : (length (payload_of s next) ≡ plan_bytes (shape_of h) → ⊥) → refusal_text 3 ≡ answer s
        unfolding encode_number
        wrong_length p =
            refused s why.PayloadLength
            (rw (
              number_operation s h next x.short x.found card right,
              operation_payload s h next payload,
              card.accepted,
              ne_eqb (length (payload_of s next)) (plan_bytes (shape_of h)) p,
            ))

        pub payload_read : answer s ≡ encoded_text h (payload_of s next)
        unfolding encoded_text answer
        payload_read =
            let number = number_operation s h next x.short x.found card right ∙ operation_payload s h next payload in
            rw (number, x.found, success_payload s h next payload)

    -- rows
    module _ (rows : is_payload s next ≡ false) where
      pub bad_rows : rows_fit s h next ≡ false → refusal_text 8 ≡ answer s
      bad_rows e = bad_body (body_rows s h next rows ∙ e)

      pub rows_read : rows_fit s h next ≡ true → answer s ≡ decoded_text h (cells_in s h next)
      unfolding decoded_text answer
      rows_read ok =
          let number =
          number_operation s h next x.short x.found card (body_rows s h next rows ∙ ok)
          ∙ operation_rows s h next rows in
          rw (number, x.found, success_rows s h next rows)
