-- A header's text followed by anything but a line of the window that it leaves out: it is read back, what is read is such a text,
-- and it is the text of one header alone.
use Prim.Native.Nat.{ℕ, ◌+◌, ◌≤◌, zero-le}
use mathlib.Core.List.{List, [], ◌∷◌, ◌++◌, map, append_assoc}
use mathlib.Core.Path.{◌≡◌, refl, sym, ap, ap₂, subst, ◌∙◌}
use native.Mathlib.Nat.{zero-add}
use native.Mathlib.Omega.{arith}
use lib.ListN.{length, take, drop, length-append}
use lib.Seq.{drop-append_seam}
use Rattle.std.specs.Prelude.{Some, None}
use Rattle.card.proofs.theory.Found.{same_value, same_next}
use Rattle.card.specs.declared.header.Header.{Header}
use Rattle.card.specs.Text.{header_keys, window_keys, NumberLine, lines_text, lines_of, window_lines, window_from, header_from}
use Rattle.card.specs.Text.{header_lines, header_text}
use Rattle.card.specs.Card.{FewDigits}
use Rattle.card.specs.Parse.{LinesRead, read, before, lines_at, optional_at, after_lines, header_read, header_of}
use Rattle.card.specs.Form.{NoWindowLine, HeaderFirst}
use Rattle.card.proofs.theory.LinesText.{lines_append, few_first, few_rest, few_both, text_lines, LinesStand}
use Rattle.card.proofs.theory.LinesText.{lines_text_lem}
use Rattle.card.proofs.theory.WindowText.{window_numbers, numbers_window, window_back, WindowStands, window_text}

-- the lines that every header has, and their numbers
abbrev lines : Header → List NumberLine
lines h = take (length header_keys) (header_lines h)

abbrev pub numbers : Header → List ℕ
numbers h = map (λ l. l.number) (lines h)

-- the header of its numbers
from_numbers : (h : Header) → header_from (numbers h ++ window_numbers h.window) ≡ h
from_numbers h =
    let last = numbers_window h.window in
    λ i. record { columns = h.columns; rows = h.rows; planes = h.planes; strength = h.strength; window = last i }

-- the text of the first lines, by those that every header has and those of the window
parts : (a b : List NumberLine) (rest : List ℕ) → lines_text (a ++ b) ++ rest ≡ lines_text a ++ (lines_text b ++ rest)
parts a b rest = ap (λ (t : List ℕ). t ++ rest) (lines_append a b) ∙ append_assoc (lines_text a) (lines_text b) rest

-- the lines that every header has are read back, whatever follows
module _ (h : Header) (rest : List ℕ) (small : FewDigits h) where
  abbrev others : List NumberLine
  others = window_lines h.window

  lines_back : lines_at header_keys (header_text h ++ rest) 0 ≡ read (numbers h) (length (lines_text (lines h)))
  unfolding header_text
  lines_back =
      text_lines (lines h) (lines_text (header_lines h) ++ rest) 0 (lines_text others ++ rest) (few_first (lines h) others small)
      (parts (lines h) others rest)
      ∙ ap (read (numbers h)) (zero-add (length (lines_text (lines h))))

  -- so is the whole header, where no line of the window follows that it leaves out
  pub header_back : (h.window ≡ None → NoWindowLine rest)
      → header_of (header_text h ++ rest) ≡ read h (length (header_text h))
  unfolding header_of header_text
  header_back whole =
      let s = lines_text (header_lines h) ++ rest in
      let end = length (lines_text (lines h)) in
      let behind : drop end s ≡ lines_text others ++ rest =
      ap (drop end) (parts (lines h) others rest) ∙ drop-append_seam (lines_text (lines h)) (lines_text others ++ rest) in
      let last = window_back h.window s end rest (few_rest (lines h) others small) whole behind in
      let long : end + length (lines_text others) ≡ length (lines_text (header_lines h)) =
      sym (ap length (lines_append (lines h) others) ∙ length-append (lines_text (lines h)) (lines_text others)) in
      ap (λ (r : LinesRead). header_read (after_lines (optional_at window_keys s) r)) lines_back
      ∙ ap (λ (r : LinesRead). header_read (before (numbers h) r)) last
      ∙ ap₂ read (from_numbers h) long

-- two headers' texts with anything behind them are the same only where these numbers are
pub numbers_same : (h k : Header) (r q : List ℕ) → header_text h ++ r ≡ header_text k ++ q → FewDigits h → FewDigits k
    → numbers h ≡ numbers k
numbers_same h k r q e sh sk =
    let here = lines_back h r sh in
    let there = ap (λ (t : List ℕ). lines_at header_keys t 0) e ∙ lines_back k q sk in
    same_value (sym here ∙ there)

-- what a header is read from is its text, followed by the rest
pub record ReadFrom (s : List ℕ) (h : Header) (next : ℕ) : Type 0 where
  pub small : FewDigits h
  pub text : s ≡ header_text h ++ drop next s
  pub whole : h.window ≡ None → NoWindowLine (drop next s)
  pub next_line : next ≡ length (header_text h)
  pub inside : next ≤ length s

pub header_found : (s : List ℕ) (h : Header) (next : ℕ) → header_of s ≡ read h next → ReadFrom s h next
unfolding header_of header_text
header_found s h next p = first (lines_at header_keys s 0) refl p
  where
    never : None ≡ read h next → ReadFrom s h next
    never q = absurd (cc)

    made : (ns ms : List ℕ) (m : ℕ) → LinesStand header_keys s 0 ns m → WindowStands s m (window_from ms) next
        → ReadFrom s (header_from (ns ++ ms)) next
    made [] ms m x y = absurd (omega (arith, x.count))
    made (a ∷ []) ms m x y = absurd (omega (arith, x.count))
    made (a ∷ b ∷ []) ms m x y = absurd (omega (arith, x.count))
    made (a ∷ b ∷ c ∷ []) ms m x y = absurd (omega (arith, x.count))
    made (a ∷ b ∷ c ∷ d ∷ []) ms m x y =
        let front = lines_of header_keys (a ∷ b ∷ c ∷ d ∷ []) in
        let others = window_lines (window_from ms) in
        record {
          small = few_both front others x.small y.small;
          text = x.text ∙ ap (λ (t : List ℕ). lines_text front ++ t) y.text ∙ sym (parts front others (drop next s));
          whole = y.whole;
          next_line = omega (
            arith,
            x.next_line,
            y.next_line,
            ap length (lines_append front others),
            length-append (lines_text front) (lines_text others),
          );
          inside = y.inside;
        }
    made (a ∷ b ∷ c ∷ d ∷ e ∷ ns) ms m x y = absurd (omega (arith, x.count))

    second : (ns : List ℕ) (m : ℕ) → LinesStand header_keys s 0 ns m → (r : LinesRead) → optional_at window_keys s m ≡ r
        → header_read (before ns r) ≡ read h next → ReadFrom s h next
    second ns m x (Some r) e q =
        subst (λ (k : Header). ReadFrom s k next) (same_value q)
        (made ns r.value m x (window_text s m r.value next x.inside (e ∙ ap (read r.value) (same_next q))))
    second ns m x None e q = never q

    first : (r : LinesRead) → lines_at header_keys s 0 ≡ r
        → header_read (after_lines (optional_at window_keys s) r) ≡ read h next → ReadFrom s h next
    first (Some r) e q =
        second r.value r.next (lines_text_lem header_keys s 0 r.value r.next zero-le e) (optional_at window_keys s r.next) refl q
    first None e q = never q

-- an input that starts with a header's text is read so
pub first_found : (s : List ℕ) (x : HeaderFirst s) → header_of s ≡ read x.header (length (header_text x.header))
first_found s x = ap header_of x.text ∙ header_back x.header x.rest x.small x.whole

-- it starts with the text of one header, and one rest is behind it
pub header_same : (s : List ℕ) (x y : HeaderFirst s) → (x.header ≡ y.header) × (x.rest ≡ y.rest)
header_same s x y =
    let e = first_found s x in
    let f = first_found s y in
    let same = same_value (sym e ∙ f) in (
      same,
      sym (drop-append_seam (header_text x.header) x.rest)
          ∙ ap₂ (λ (h : Header) (t : List ℕ). drop (length (header_text h)) t) same (sym x.text ∙ y.text)
          ∙ drop-append_seam (header_text y.header) y.rest,
    )
