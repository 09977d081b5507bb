-- An input whose header is known: what follows of its texts.
use Prim.Native.Nat.{ℕ}
use mathlib.Core.Bool.{true, false}
use mathlib.Core.List.{List, ◌++◌}
use mathlib.Core.Path.{◌≡◌, refl, sym, ◌∙◌, ap, subst}
use borrow.Author.Tests.{leb-true}
use lib.Dec.{leb}
use lib.ListN.{length, drop}
use lib.Seq.{drop-append_seam}
use Rattle.lattice.specs.Shape.{Accepted, cells_of}
use Rattle.codec.specs.Payload.{Bytes}
use Rattle.card.proofs.theory.Found.{same_value}
use Rattle.card.specs.declared.header.Header.{Header}
use Rattle.card.specs.Text.{header_text, field_text}
use Rattle.card.specs.Card.{max_card_cells, shape_of, FieldCells, CardHeader, payload_card, field_card}
use Rattle.card.specs.Parse.{read, header_of, payload_ok, payload_of}
use Rattle.card.specs.Program.{is_payload, rows_fit, cells_in}
use Rattle.card.specs.Form.{HeaderFirst}
use Rattle.card.proofs.theory.HeaderRest.{first_found, header_found}
use Rattle.card.proofs.theorems.Parsing.{text_parses}

-- a header of an accepted shape with few enough cells is a card's
pub card_header : (h : Header) → Accepted (shape_of h) → leb (cells_of (shape_of h)) max_card_cells ≡ true → CardHeader h
card_header h accepted few = record { accepted = accepted; cells = leb-true (cells_of (shape_of h)) max_card_cells few }

module _ (s : List ℕ) (h : Header) (next : ℕ) (found : header_of s ≡ read h next) where
  -- the input starts with the text of the header that was found
  unfoldable pub first : HeaderFirst s
  first =
      let r = header_found s h next found in
      record { header = h; rest = drop next s; small = r.small; text = r.text; whole = r.whole }

  -- no other header's text starts it
  pub same_header : (x : HeaderFirst s) → x.header ≡ h
  same_header x = same_value (sym (first_found s x) ∙ found)

  next_is : next ≡ length (header_text h)
  next_is = (header_found s h next found).next_line

  -- the rest of the input, by the text of the whole and back
  pub text_of : (x : HeaderFirst s) (r : List ℕ) → x.rest ≡ r → s ≡ header_text h ++ r
  text_of x r e = x.text ∙ rw (same_header x, e)

  pub rest_of : (x : HeaderFirst s) (r : List ℕ) → s ≡ header_text h ++ r → x.rest ≡ r
  rest_of x r e =
      sym (drop-append_seam (header_text h) x.rest)
      ∙ ap (drop (length (header_text h))) (sym (text_of x x.rest refl) ∙ e)
      ∙ drop-append_seam (header_text h) r

  -- rows after the header's text are rows after the text of the header found
  pub rows_of : (x : HeaderFirst s) (cells : List ℕ) → FieldCells x.header cells → x.rest ≡ field_text x.header cells
      → FieldCells h cells × (s ≡ field_card h cells)
  rows_of x cells each e = (
    subst (λ (g : Header). FieldCells g cells) (same_header x) each,
    text_of x (field_text h cells) (e ∙ ap (λ (g : Header). field_text g cells) (same_header x)),
  )

  -- what is read of a payload's card and of a field's
  module _ (card : CardHeader h) where
    pub payload_is : (p : List ℕ) → s ≡ payload_card h p → is_payload s next ≡ true
    payload_is p e = rw (next_is, e) (text_parses.payload_header h card p).1

    pub payload_read : (p : List ℕ) → Bytes p → s ≡ payload_card h p → (payload_ok s next ≡ true) × (payload_of s next ≡ p)
    payload_read p bytes e = rw (next_is, e) (text_parses.payload_back h p bytes)

    pub field_is : (cells : List ℕ) → FieldCells h cells → s ≡ field_card h cells → is_payload s next ≡ false
    field_is cells each e = rw (next_is, e) (text_parses.field_header h card cells).1

    pub field_read : (cells : List ℕ)
        → FieldCells h cells
        → s ≡ field_card h cells
        → (rows_fit s h next ≡ true) × (cells_in s h next ≡ cells)
    field_read cells each e = rw (next_is, e) (text_parses.field_back h cells each)
