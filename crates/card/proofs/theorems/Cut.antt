-- What was cut: the term of the theorem.
use Prim.Native.Nat.{ℕ}
use mathlib.Core.List.{List, [], ◌++◌, append_assoc, append-nil}
use mathlib.Core.Logic.{◌≢◌}
use mathlib.Core.Path.{◌≡◌, refl, sym, ap, ◌∙◌}
use native.Mathlib.Omega.{arith}
use Rattle.codec.specs.Plan.{plan_classes}
use Rattle.codec.specs.Encode.{encoded_field}
use Rattle.codec.specs.Decode.{decode_count, decode_leaves}
use Rattle.card.specs.declared.header.Header.{Header}
use Rattle.card.specs.Text.{number_line, header_text, payload_text, field_text, refusal_text, classes_key, mended_key}
use Rattle.card.specs.Text.{refusal_key}
use Rattle.card.specs.Card.{shape_of, CardHeader}
use Rattle.card.specs.Program.{program_number, written_text, read_text, answer, blank_payload}
use Rattle.card.specs.Form.{OneOfThree}
use Rattle.card.specs.theorems.Cut.{CutIsRefused}
use Rattle.card.proofs.theory.Feeds.{after_line_lem, after_payload}
use Rattle.card.proofs.theory.AnswerLength.{written_length, written_length_lem}
use Rattle.card.proofs.theory.FirstByte.{first}
use Rattle.card.proofs.theory.WindowText.{other_byte}
use Rattle.card.proofs.theory.HeaderRest.{header_same}
use Rattle.card.proofs.theory.CardLimits.{card_small}
use Rattle.card.proofs.theory.CutInput.{nothing_cut, cut_card, cut_refused}
use Rattle.card.proofs.theorems.Outputs.{output_forms}

-- the parts of an answer behind its header
abbrev count : Header → List ℕ → ℕ
count h cells = decode_count (shape_of h) (blank_payload h) cells

abbrev held : Header → List ℕ → List ℕ
held h cells = decode_leaves (shape_of h) (blank_payload h) cells

abbrev classes_line : Header → List ℕ
classes_line h = number_line classes_key (plan_classes (shape_of h))

abbrev rows : Header → List ℕ → List ℕ
rows h p = field_text h (encoded_field (shape_of h) p)

-- headers with what follows them, one of them cut
heads : (h k : Header) → CardHeader h → CardHeader k → (x y cut : List ℕ) → first x ≢ 119 → first (y ++ cut) ≢ 119
    → header_text k ++ x ≡ (header_text h ++ y) ++ cut → (k ≡ h) × (x ≡ y ++ cut)
heads h k ch ck x y cut p q e =
    header_same (header_text k ++ x)
    (record { header = k; rest = x; small = card_small k ck; text = refl; whole = λ _. other_byte x p })
    (record {
      header = h;
      rest = y ++ cut;
      small = card_small h ch;
      text = e ∙ append_assoc (header_text h) y cut;
      whole = λ _. other_byte (y ++ cut) q;
    })

first_header : (h : Header) (x : List ℕ) → first (header_text h ++ x) ≡ 99
unfolding header_text number_line
first_header h x = refl

first_line : (n : ℕ) (x : List ℕ)
    → (first (number_line classes_key n ++ x) ≡ 99)
    × (first (number_line mended_key n ++ x) ≡ 109)
    × (first (number_line refusal_key n ++ x) ≡ 114)
unfolding number_line
first_line n x = (refl, refl, refl)

-- answers with a header, one of them cut: of one form, and of two
module _ (h k : Header) (ch : CardHeader h) (ck : CardHeader k) (cut : List ℕ) where
  cut_written : (p q : List ℕ) → written_text k q ≡ written_text h p ++ cut → cut ≡ []
  unfolding written_text number_line
  cut_written p q e =
      let x = classes_line k ++ rows k q in
      let y = classes_line h ++ rows h p in
      let same = (heads h k ch ck x y cut (λ z. omega arith) (λ z. omega arith) e).0 in
      nothing_cut (written_text k q) (written_text h p) cut e
      (written_length_lem k q ∙ ap written_length same ∙ sym (written_length_lem h p))

  cut_read : (a b : List ℕ) → read_text k b ≡ read_text h a ++ cut → cut ≡ []
  unfolding read_text number_line
  cut_read a b e =
      let x = number_line mended_key (count k b) ++ payload_text (held k b) in
      let y = number_line mended_key (count h a) ++ payload_text (held h a) in
      let lines =
      (heads h k ch ck x y cut (λ z. omega arith) (λ z. omega arith) e).1
      ∙ append_assoc (number_line mended_key (count h a)) (payload_text (held h a)) cut in
      let payloads =
      after_line_lem mended_key refl (count k b) (count h a) (payload_text (held k b)) (payload_text (held h a) ++ cut)
      lines in
      sym (after_payload (held k b) (held h a) [] cut (append-nil (payload_text (held k b)) ∙ payloads))

  read_written : (p b : List ℕ) → read_text k b ≢ written_text h p ++ cut
  unfolding written_text read_text number_line
  read_written p b e =
      let x = number_line mended_key (count k b) ++ payload_text (held k b) in
      let lines =
      (heads h k ch ck x (classes_line h ++ rows h p) cut (λ z. omega arith) (λ z. omega arith) e).1
      ∙ append_assoc (classes_line h) (rows h p) cut in
      omega (
        arith,
        ap first lines,
        (first_line (count k b) (payload_text (held k b))).1,
        (first_line (plan_classes (shape_of h)) (rows h p ++ cut)).0,
      )

  written_read : (q a : List ℕ) → written_text k q ≢ read_text h a ++ cut
  unfolding written_text read_text number_line
  written_read q a e =
      let y = number_line mended_key (count h a) ++ payload_text (held h a) in
      let lines =
      (heads h k ch ck (classes_line k ++ rows k q) y cut (λ z. omega arith) (λ z. omega arith) e).1
      ∙ append_assoc (number_line mended_key (count h a)) (payload_text (held h a)) cut in
      omega (
        arith,
        ap first lines,
        (first_line (plan_classes (shape_of k)) (rows k q)).0,
        (first_line (count h a) (payload_text (held h a) ++ cut)).1,
      )

-- a refusal and an answer with a header begin with different bytes
first_written : (h : Header) (p x : List ℕ) → first (written_text h p ++ x) ≡ 99
unfolding written_text header_text number_line
first_written h p x = refl

first_read : (h : Header) (cells x : List ℕ) → first (read_text h cells ++ x) ≡ 99
unfolding read_text header_text number_line
first_read h cells x = refl

first_refusal : (n : ℕ) (x : List ℕ) → first (refusal_text n ++ x) ≡ 114
unfolding refusal_text
first_refusal n x = (first_line n x).2

cut_refusal : (m n : ℕ) (cut : List ℕ) → refusal_text n ≡ refusal_text m ++ cut → cut ≡ []
unfolding refusal_text
cut_refusal m n cut e = sym (after_line_lem refusal_key refl n m [] cut (append-nil (number_line refusal_key n) ∙ e))

begin_alike : (a b cut : List ℕ) → a ≡ b ++ cut → first (a ++ []) ≡ first (b ++ cut)
begin_alike a b cut e = ap first (append-nil a ∙ e)

-- answers, one of them cut
cut_answer : (s t cut : List ℕ) → OneOfThree s → OneOfThree t → answer t ≡ answer s ++ cut → cut ≡ []
cut_answer s t cut (OneOfThree.written h p ch _ _ _ _ b) (OneOfThree.written k q ck _ _ _ _ a) e =
    cut_written h k ch ck cut p q (sym a ∙ e ∙ ap (λ (l : List ℕ). l ++ cut) b)
cut_answer s t cut (OneOfThree.read h c ch _ _ _ b) (OneOfThree.read k d ck _ _ _ a) e =
    cut_read h k ch ck cut c d (sym a ∙ e ∙ ap (λ (l : List ℕ). l ++ cut) b)
cut_answer s t cut (OneOfThree.refused _ b) (OneOfThree.refused _ a) e =
    cut_refusal (program_number s) (program_number t) cut (sym a ∙ e ∙ ap (λ (l : List ℕ). l ++ cut) b)
cut_answer s t cut (OneOfThree.written h p ch _ _ _ _ b) (OneOfThree.read k d ck _ _ _ a) e =
    absurd (read_written h k ch ck cut p d (sym a ∙ e ∙ ap (λ (l : List ℕ). l ++ cut) b))
cut_answer s t cut (OneOfThree.read h c ch _ _ _ b) (OneOfThree.written k q ck _ _ _ _ a) e =
    absurd (written_read h k ch ck cut q c (sym a ∙ e ∙ ap (λ (l : List ℕ). l ++ cut) b))
cut_answer s t cut (OneOfThree.written h p ch _ _ _ _ b) (OneOfThree.refused _ a) e =
    let alike = begin_alike (refusal_text (program_number t)) (written_text h p) cut (sym a ∙ e
    ∙ ap (λ (l : List ℕ). l ++ cut) b) in
    absurd (omega (arith, alike, first_refusal (program_number t) [], first_written h p cut))
cut_answer s t cut (OneOfThree.read h c ch _ _ _ b) (OneOfThree.refused _ a) e =
    let alike = begin_alike (refusal_text (program_number t)) (read_text h c) cut (sym a ∙ e ∙ ap (λ (l : List ℕ). l ++ cut) b) in
    absurd (omega (arith, alike, first_refusal (program_number t) [], first_read h c cut))
cut_answer s t cut (OneOfThree.refused _ b) (OneOfThree.written k q ck _ _ _ _ a) e =
    let alike = begin_alike (written_text k q) (refusal_text (program_number s)) cut (sym a ∙ e
    ∙ ap (λ (l : List ℕ). l ++ cut) b) in
    absurd (omega (arith, alike, first_written k q [], first_refusal (program_number s) cut))
cut_answer s t cut (OneOfThree.refused _ b) (OneOfThree.read k d ck _ _ _ a) e =
    let alike = begin_alike (read_text k d) (refusal_text (program_number s)) cut (sym a ∙ e ∙ ap (λ (l : List ℕ). l ++ cut) b) in
    absurd (omega (arith, alike, first_read k d [], first_refusal (program_number s) cut))

-- Theorem. A card text whose end was cut off is refused, and an answer whose end was cut off is no answer.
pub cut_is_refused : CutIsRefused
cut_is_refused =
    record {
      card = cut_card;
      refused = cut_refused;
      answers = λ s t cut. cut_answer s t cut (output_forms.form s) (output_forms.form t);
    }
