-- The program's conditions, for an input whose header is known: each is decided by its test where none before it holds.
use Prim.Native.Nat.{ℕ, ◌<◌}
use mathlib.Core.Bool.{true, true≢false}
use mathlib.Core.List.{List, [], ◌∷◌, ◌++◌}
use mathlib.Core.Logic.{◌↔◌}
use mathlib.Core.Path.{◌≡◌, refl, sym, ◌∙◌, ap₂, subst₂}
use lib.Dec.{leb, eqb}
use lib.ListN.{length, drop}
use Rattle.lattice.specs.declared.shape.Shape.{Shape}
use Rattle.lattice.specs.Refusal.{Condition, listed_at}
use Rattle.lattice.specs.Shape.{cells_of}
use Rattle.lattice.specs.Class.{layout_of}
use Rattle.lattice.proofs.theory.Due.{Decides, decides_same, Due, SameConditions, due_same}
use Rattle.lattice.proofs.theory.RefusalTests.{at_most}
use Rattle.codec.specs.Field.{Field, field_of}
use Rattle.codec.specs.Erasure.{FewErasures}
use Rattle.codec.specs.Code.{field_few_erasures, field_in_reach}
use Rattle.codec.specs.Payload.{Bytes, padding_ok}
use Rattle.codec.specs.Plan.{plan_bytes}
use Rattle.codec.specs.Decode.{corrected_field}
use Rattle.codec.specs.Conditions.{WrongPayloadLength, ManyErasures, NoneInReach}
use Rattle.codec.specs.Reach.{WrongInReach}
use Rattle.codec.proofs.theory.FieldTests.{equal_decides, few_decides, reach_decides, padding_decides, tested_few}
use Rattle.card.specs.declared.header.Header.{Header}
use Rattle.card.specs.Text.{header_text, payload_text, field_text}
use Rattle.card.specs.Card.{max_card_cells, shape_of, FieldCells, CardHeader, payload_card, field_card}
use Rattle.card.specs.Parse.{read, header_of}
use Rattle.card.specs.Program.{body_ok}
use Rattle.card.specs.Form.{HeaderFirst, Body, header_refusals, TooManyCells, NoBody, PayloadRefused, FieldRefused}
use Rattle.card.specs.Form.{ErasuresRefused, ReachRefused, PaddingRefused}
use Rattle.card.proofs.theory.HeaderRest.{header_found}
use Rattle.card.proofs.theory.BodyText.{body_ok_lem, ok_body}
use Rattle.card.proofs.theory.CardLimits.{rows_some}
use Rattle.card.proofs.theory.ParsedInput.{first, same_header, text_of, rest_of, rows_of, payload_is, payload_read}
use Rattle.card.proofs.theory.ParsedInput.{field_is, field_read}

module _ (s : List ℕ) (h : Header) (next : ℕ) (found : header_of s ≡ read h next) where
  -- a condition on what the input starts with is one on the header found and the rest
  start_condition : (C : Header → List ℕ → Type 0) → C h (drop next s) ↔ ((x : HeaderFirst s) × C x.header x.rest)
  unfolding first
  start_condition C = (
    (λ c. (first s h next found, c)),
    λ r.
        subst₂ C (same_header s h next found r.0)
        (rest_of s h next found r.0 (drop next s) (header_found s h next found).text)
        r.1,
  )

  -- the refusals of the header's shape are due where those of the shape of the header found are
  pub header_due : (cs : List (Condition Shape)) {n : ℕ} → Due (listed_at cs (shape_of h)) n → Due (header_refusals cs s) n
  header_due cs d = due_same _ _ (same cs) d
    where
      same : (cs : List (Condition Shape)) → SameConditions (listed_at cs (shape_of h)) (header_refusals cs s)
      same [] = tt
      same (c ∷ cs) = (refl, start_condition (λ g r. c.holds (shape_of g)), same cs)

  pub cells_condition : Decides (leb (cells_of (shape_of h)) max_card_cells) (TooManyCells s)
  cells_condition =
      decides_same (start_condition (λ g r. max_card_cells < cells_of (shape_of g))) (at_most (cells_of (shape_of h))
      max_card_cells)

  module _ (card : CardHeader h) where
    -- the form of the later lines is that of what follows the header's text
    body_same : body_ok s h next ≡ body_ok (header_text h ++ drop next s) h (length (header_text h))
    body_same =
        let r = header_found s h next found in
        ap₂ (λ (t : List ℕ) (n : ℕ). body_ok t h n) r.text r.next_line

    pub body_condition : Decides (body_ok s h next) (NoBody s)
    body_condition =
        decides_same (start_condition (λ g r. ¬ Body g r))
        (record {
          fails = λ e b. true≢false (sym (body_ok_lem (header_text h) h (drop next s) (rows_some h card) b) ∙ sym body_same ∙ e);
          passes = λ e none. none (ok_body (header_text h) h (drop next s) (sym body_same ∙ e));
        })

    -- the rest is not both a payload's text and a field's
    one_kind : (p cells : List ℕ) → FieldCells h cells → s ≡ payload_card h p → s ≡ field_card h cells → ⊥
    one_kind p cells each e d =
        true≢false
        (sym (payload_is s h next found card p e) ∙ field_is s h next found card cells each d)

    -- a payload's card: its length alone is left to refuse
    module _ (p : List ℕ) (bytes : Bytes p) (text : s ≡ payload_card h p) where
      pub payload_condition : Decides (eqb (length p) (plan_bytes (shape_of h))) (PayloadRefused s)
      unfolding first
      payload_condition = decides_same (there, back) (equal_decides (length p) (plan_bytes (shape_of h)))
        where
          there : WrongPayloadLength (shape_of h) p → PayloadRefused s
          there wrong =
              let x = first s h next found in
              (x, p, bytes, rest_of s h next found x (payload_text p) text, wrong)

          back : PayloadRefused s → WrongPayloadLength (shape_of h) p
          back r =
              let q = r.1 in
              let t : s ≡ payload_card h q = text_of s h next found r.0 (payload_text q) r.3 in
              let same : q ≡ p =
              sym (payload_read s h next found card q r.2 t).1
              ∙ (payload_read s h next found card p bytes text).1 in
              subst₂ (λ (g : Header) (l : List ℕ). WrongPayloadLength (shape_of g) l)
              (same_header s h next found r.0) same r.4

      pub no_field : (C : Shape → Field → Type 0) → ¬ FieldRefused C s
      no_field C r = let d = rows_of s h next found r.0 r.1 r.2 r.3 in one_kind p r.1 d.0 text d.1

    -- a field's card: no payload's length, and the conditions on its cells
    module _ (cells : List ℕ) (each : FieldCells h cells) (text : s ≡ field_card h cells) where
      pub no_payload : ¬ PayloadRefused s
      no_payload r =
          one_kind r.1 cells each (text_of s h next found r.0 (payload_text r.1) r.3) text

      field_condition : (C : Shape → Field → Type 0) → C (shape_of h) (field_of cells) ↔ FieldRefused C s
      unfolding first
      field_condition C = (there, back)
        where
          there : C (shape_of h) (field_of cells) → FieldRefused C s
          there c =
              let x = first s h next found in
              (x, cells, each, rest_of s h next found x (field_text h cells) text, c)

          back : FieldRefused C s → C (shape_of h) (field_of cells)
          back r =
              let d = rows_of s h next found r.0 r.1 r.2 r.3 in
              let same : r.1 ≡ cells =
              sym (field_read s h next found card r.1 d.0 d.1).1
              ∙ (field_read s h next found card cells each text).1 in
              subst₂ (λ (g : Header) (c : List ℕ). C (shape_of g) (field_of c)) (same_header s h next found r.0) same r.4

      pub erasures_condition : Decides (field_few_erasures (shape_of h) (field_of cells)) (ErasuresRefused s)
      erasures_condition =
          decides_same (field_condition ManyErasures) (few_decides (shape_of h) card.accepted (field_of cells))

      module _ (tested : field_few_erasures (shape_of h) (field_of cells) ≡ true) where
        few : FewErasures (layout_of (shape_of h)) (field_of cells)
        few = tested_few (shape_of h) card.accepted (field_of cells) tested

        pub reach_condition : Decides (field_in_reach (shape_of h) (field_of cells)) (ReachRefused s)
        reach_condition =
            decides_same (field_condition NoneInReach)
            (reach_decides (shape_of h) card.accepted (field_of cells) each.each few)

        pub padding_condition : field_in_reach (shape_of h) (field_of cells) ≡ true
            → Decides (padding_ok (layout_of (shape_of h)) (corrected_field (shape_of h) (field_of cells))) (PaddingRefused s)
        padding_condition reach =
            decides_same (field_condition WrongInReach)
            (padding_decides (shape_of h) card.accepted (field_of cells) each.each few reach)
