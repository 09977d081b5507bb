-- A card text whose end was cut off: it is no card text, and is refused.
use Prim.Native.Nat.{ℕ}
use mathlib.Core.Bool.{Bool, true, false}
use mathlib.Core.List.{List, [], ◌∷◌, ◌++◌, append_assoc, append-nil}
use mathlib.Core.Logic.{◌≢◌, ◌⊎◌, inl, inr, ⊎_elim}
use mathlib.Core.Path.{◌≡◌, refl, sym, ap, ◌∙◌, subst}
use native.Mathlib.Decide.{ℕ_discrete}
use native.Mathlib.Omega.{arith}
use borrow.Author.Tests.{le-leb}
use lib.Dec.{leb}
use lib.ListN.{length, drop, length-append}
use Rattle.lattice.specs.Shape.{no_window, shape_number, cells_of}
use Rattle.lattice.specs.Refusal.{unless}
use Rattle.std.specs.Prelude.{Option, Some, None}
use Rattle.lattice.specs.declared.shape.Window.{Window}
use Rattle.card.specs.declared.scan.Found.{Found}
use Rattle.card.specs.declared.header.Header.{Header}
use Rattle.card.specs.Text.{header_text, payload_text, field_text}
use Rattle.card.specs.Card.{max_input, max_card_cells, window_of, shape_of, CardHeader}
use Rattle.card.specs.Parse.{read, header_of}
use Rattle.card.specs.Program.{body_ok, number_after, program_number}
use Rattle.card.specs.Form.{NoWindowLine, HeaderFirst, Body, CardText}
use Rattle.card.proofs.theory.Feeds.{after_payload}
use Rattle.card.proofs.theory.FieldText.{length_field}
use Rattle.card.proofs.theory.FirstByte.{first, first_payload, first_rows, body_other}
use Rattle.card.proofs.theory.HeaderRest.{numbers, numbers_same, ReadFrom, header_found, header_same}
use Rattle.card.proofs.theory.WindowLimits.{bare, bare_accepted, bare_refused}
use Rattle.card.proofs.theory.CardLimits.{rows_some}
use Rattle.card.proofs.theory.BodyText.{ok_body}
use Rattle.card.proofs.theory.ParsedInput.{first as start}

-- texts of one length: nothing was cut
empty_length : (l : List ℕ) → length l ≡ 0 → l ≡ []
empty_length [] e = refl
empty_length (x ∷ l) e = absurd (omega (arith, e))

pub nothing_cut : (a b cut : List ℕ) → a ≡ b ++ cut → length a ≡ length b → cut ≡ []
nothing_cut a b cut e long = empty_length cut (omega (arith, long, ap length e, length-append b cut))

-- what follows a card's header cannot be cut
bodies : (h : Header) → CardHeader h → (r cut : List ℕ) → Body h (r ++ cut) → Body h r → cut ≡ []
bodies h card r cut (Body.payload p _ e) (Body.payload q _ f) =
    sym (after_payload p q [] cut (append-nil (payload_text p) ∙ sym e ∙ ap (λ (l : List ℕ). l ++ cut) f))
bodies h card r cut (Body.rows a x e) (Body.rows b y f) =
    nothing_cut (field_text h a) (field_text h b) cut (sym e ∙ ap (λ (l : List ℕ). l ++ cut) f)
    (length_field h a x.long ∙ sym (length_field h b y.long))
bodies h card r cut (Body.payload p _ e) (Body.rows b y f) =
    let same = ap first (append-nil (payload_text p) ∙ sym e ∙ ap (λ (l : List ℕ). l ++ cut) f) in
    absurd (omega (arith, same, first_payload p [], first_rows h b cut (rows_some h card)))
bodies h card r cut (Body.rows a x e) (Body.payload q _ f) =
    let same = ap first (append-nil (field_text h a) ∙ sym e ∙ ap (λ (l : List ℕ). l ++ cut) f) in
    absurd (omega (arith, same, first_payload q cut, first_rows h a [] (rows_some h card)))

-- what a part of an input begins with, the whole begins with too, where the cut makes no line of a window
longer : (s cut : List ℕ) (part : HeaderFirst s) → (part.header.window ≡ None → NoWindowLine (part.rest ++ cut))
    → HeaderFirst (s ++ cut)
longer s cut part other =
    record {
      header = part.header;
      rest = part.rest ++ cut;
      small = part.small;
      text = ap (λ (l : List ℕ). l ++ cut) part.text ∙ append_assoc (header_text part.header) part.rest cut;
      whole = other;
    }

pub cut_card : (s cut : List ℕ) → cut ≢ [] → CardText (s ++ cut) → ¬ CardText s
unfolding longer
cut_card s cut other whole part =
    let behind = body_other part.first.header part.first.rest cut (rows_some _ part.card) part.body in
    let same = header_same (s ++ cut) whole.first (longer s cut part.first (λ _. behind)) in
    other
    (bodies part.first.header part.card part.first.rest cut
    (subst (λ (l : List ℕ). Body part.first.header l) same.1
    (subst (λ (h : Header). Body h whole.first.rest) same.0 whole.body))
    part.body)

-- an input that is a part of a card text and has a header: it is the card's, or the card's without its window
module _ (s cut : List ℕ) (other : cut ≢ []) (whole : CardText (s ++ cut)) (h : Header) (next : ℕ)
    (found : header_of s ≡ read h next) where
  from : ReadFrom s h next
  from = header_found s h next found

  abbrev card : Header
  card = whole.first.header

  numbers_kept : numbers h ≡ numbers card
  numbers_kept =
      numbers_same h card (drop next s ++ cut) whole.first.rest
      (sym (append_assoc (header_text h) (drop next s) cut)
      ∙ ap (λ (l : List ℕ). l ++ cut) (sym from.text)
      ∙ whole.first.text)
      from.small whole.first.small

  -- without the lines of the window the shape is the card's without its window
  shape_kept : h.window ≡ None → shape_of h ≡ bare (shape_of card)
  shape_kept e =
      let w : h.columns ≡ card.columns = cc numbers_kept in
      let r : h.rows ≡ card.rows = cc numbers_kept in
      let d : h.planes ≡ card.planes = cc numbers_kept in
      let t : h.strength ≡ card.strength = cc numbers_kept in
      let o : window_of h.window ≡ no_window = ap window_of e in
      λ i. record { columns = w i; rows = r i; planes = d i; strength = t i; window = o i }

  kept : CardHeader h ⊎ ((card.strength ≡ 0) × (shape_number (shape_of h) ≡ 2))
  unfolding longer start
  kept = go h.window refl
    where
      without : h.window ≡ None → Dec (card.strength ≡ 0)
          → CardHeader h ⊎ ((card.strength ≡ 0) × (shape_number (shape_of h) ≡ 2))
      without e (yes t) = inr (t, ap shape_number (shape_kept e) ∙ bare_refused (shape_of card) whole.card.accepted t)
      without e (no t) =
          inl
          (record {
            accepted = ap shape_number (shape_kept e) ∙ bare_accepted (shape_of card) whole.card.accepted t;
            cells = rw (ap cells_of (shape_kept e)) whole.card.cells;
          })

      go : (l : Option Window) → h.window ≡ l → CardHeader h ⊎ ((card.strength ≡ 0) × (shape_number (shape_of h) ≡ 2))
      go (Some w) e =
          let given : h.window ≡ None → NoWindowLine (drop next s ++ cut) =
          λ a. absurd (cc) in
          let same = (header_same (s ++ cut) whole.first (longer s cut (start s h next found) given)).0 in
          inl (subst (λ (k : Header). CardHeader k) same whole.card)
      go None e = without e (ℕ_discrete card.strength 0)

  -- what follows it is of no form
  formless : CardHeader h → (b : Bool) → body_ok s h next ≡ b → body_ok s h next ≡ false
  unfolding start
  formless x true e =
      absurd
      (cut_card s cut other whole
      (record {
        first = start s h next found;
        card = x;
        body =
            ok_body (header_text h) h (drop next s)
            (ap (λ (l : List ℕ). body_ok l h (length (header_text h))) (sym from.text)
            ∙ ap (body_ok s h) (sym from.next_line)
            ∙ e);
      }))
  formless x false e = e

  after_header : (number_after s (read h next) ≡ 8)
      ⊎ ((card.strength ≡ 0) × (number_after s (read h next) ≡ 2))
  unfolding number_after
  after_header =
      ⊎_elim
      (λ (x : CardHeader h).
      inl (rw (x.accepted, le-leb (cells_of (shape_of h)) max_card_cells x.cells, formless x (body_ok s h next) refl)))
      (λ (x : (card.strength ≡ 0) × (shape_number (shape_of h) ≡ 2)). inr (x.0, rw x.1))
      kept

-- so it is refused
pub cut_refused : (s cut : List ℕ) → cut ≢ [] → (whole : CardText (s ++ cut))
    → (program_number s ≡ 8) ⊎ ((whole.first.header.strength ≡ 0) × (program_number s ≡ 2))
unfolding program_number number_after
cut_refused s cut other whole = go (leb (length s) max_input) (header_of s) refl
  where
    go : (b : Bool) (a : Option (Found Header)) → header_of s ≡ a
        → (unless b 8 (number_after s a) ≡ 8) ⊎ ((whole.first.header.strength ≡ 0) × (unless b 8 (number_after s a) ≡ 2))
    go false a e = inl refl
    go true None e = inl refl
    go true (Some r) e = after_header s cut other whole r.value r.next e
