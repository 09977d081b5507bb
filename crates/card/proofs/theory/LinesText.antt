-- Lines key=number of any keys: their length, and that they are read exactly where their text stands.
use Prim.Native.Nat.{ℕ, ◌+◌, ◌≤◌}
use mathlib.Core.List.{List, [], ◌∷◌, ◌++◌, map, append_assoc}
use mathlib.Core.Path.{◌≡◌, refl, sym, ap, subst, ◌∙◌}
use native.Mathlib.Nat.{add-zero}
use native.Mathlib.Omega.{arith}
use lib.ListN.{length, get_or, drop, length-append, get_or-append}
use lib.Seq.{get_or-drop, drop-drop, drop-append_seam}
use Rattle.std.specs.Prelude.{Option, Some, None}
use Rattle.card.specs.declared.scan.Found.{Found}
use Rattle.card.proofs.theory.Found.{same_value, same_next}
use Rattle.card.specs.Text.{digit_count, number_line, NumberLine, lines_text, lines_of}
use Rattle.card.specs.Card.{FewDigitsEach}
use Rattle.card.specs.Parse.{line_at, LinesRead, read, before, after_line, lines_at}
use Rattle.card.proofs.theory.StandsAt.{StandsAt, stands_drop}
use Rattle.card.proofs.theory.DecimalText.{digit_count_range}
use Rattle.card.proofs.theory.LineText.{LineStands, length_line, line_at_lem, at_line, line_inside}

-- the key and the number of a line
abbrev line_key : NumberLine → List ℕ
line_key l = l.key

abbrev line_number : NumberLine → ℕ
line_number l = l.number

-- the length of lines, by the widths of their numbers
abbrev pub lines_length : List NumberLine → ℕ
lines_length [] = 0
lines_length (l ∷ ls) = length l.key + digit_count l.number + 1 + lines_length ls

pub length_lines : (ls : List NumberLine) → length (lines_text ls) ≡ lines_length ls
length_lines [] = refl
length_lines (l ∷ ls) =
    let first = number_line l.key l.number in
    omega (arith, length-append first (lines_text ls), length_line l.key l.number, length_lines ls)

-- the most that lines of these keys take: six bytes more for each
abbrev pub lines_most : List (List ℕ) → ℕ
lines_most [] = 0
lines_most (key ∷ keys) = length key + 6 + lines_most keys

pub lines_most_lem : (ls : List NumberLine) → lines_length ls ≤ lines_most (map line_key ls)
lines_most_lem [] = omega arith
lines_most_lem (l ∷ ls) = omega (arith, digit_count_range l.number, lines_most_lem ls)

-- the text of lines put end to end
pub lines_append : (a b : List NumberLine) → lines_text (a ++ b) ≡ lines_text a ++ lines_text b
lines_append [] b = refl
lines_append (l ∷ a) b =
    ap (λ (t : List ℕ). number_line l.key l.number ++ t) (lines_append a b)
    ∙ sym (append_assoc (number_line l.key l.number) (lines_text a) (lines_text b))

-- lines put end to end have few digits each where both parts have
pub few_first : (a b : List NumberLine) → FewDigitsEach (a ++ b) → FewDigitsEach a
few_first [] b p = tt
few_first (l ∷ a) b p = (p.0, few_first a b p.1)

pub few_rest : (a b : List NumberLine) → FewDigitsEach (a ++ b) → FewDigitsEach b
few_rest [] b p = p
few_rest (l ∷ a) b p = few_rest a b p.1

pub few_both : (a b : List NumberLine) → FewDigitsEach a → FewDigitsEach b → FewDigitsEach (a ++ b)
few_both [] b p q = q
few_both (l ∷ a) b p q = (p.0, few_both a b p.1 q)

-- what a text goes on with stands there
pub drop_stands : (text s rest : List ℕ) (at : ℕ) → drop at s ≡ text ++ rest → StandsAt text s at
drop_stands text s rest at e j l =
    sym (get_or-drop at s j 0) ∙ ap (λ (t : List ℕ). get_or t j 0) e ∙ get_or-append text rest 0 j l

-- behind the first part of what it goes on with comes the second
drop_behind : (a b s : List ℕ) (at : ℕ) → drop at s ≡ a ++ b → drop (at + length a) s ≡ b
drop_behind a b s at e = sym (drop-drop (length a) at s) ∙ ap (drop (length a)) e ∙ drop-append_seam a b

-- the text of lines is read back
pub text_lines : (ls : List NumberLine) (s : List ℕ) (at : ℕ) (rest : List ℕ) → FewDigitsEach ls
    → drop at s ≡ lines_text ls ++ rest
    → lines_at (map line_key ls) s at ≡ read (map line_number ls) (at + length (lines_text ls))
text_lines [] s at rest small e = ap (read []) (sym (add-zero at))
text_lines (l ∷ ls) s at rest small e =
    let first = number_line l.key l.number in
    let behind = at + length first in
    let parts : drop at s ≡ first ++ (lines_text ls ++ rest) = e ∙ append_assoc first (lines_text ls) rest in
    let here =
    line_at_lem l.key s at l.number behind
    (record { small = small.0; stands = drop_stands first s _ at parts; next_line = refl }) in
    let others = text_lines ls s behind rest small.1 (drop_behind first (lines_text ls ++ rest) s at parts) in
    ap (after_line (lines_at (map line_key ls) s)) here
    ∙ ap (before (l.number ∷ [])) others
    ∙ ap (read (l.number ∷ map line_number ls)) (omega (arith, length-append first (lines_text ls)))

-- what lines are read from is their text
pub record LinesStand (keys : List (List ℕ)) (s : List ℕ) (at : ℕ) (ns : List ℕ) (next : ℕ) : Type 0 where
  pub count : length ns ≡ length keys
  pub small : FewDigitsEach (lines_of keys ns)
  pub next_line : next ≡ at + length (lines_text (lines_of keys ns))
  pub text : drop at s ≡ lines_text (lines_of keys ns) ++ drop next s
  pub inside : next ≤ length s

pub lines_text_lem : (keys : List (List ℕ)) (s : List ℕ) (at : ℕ) (ns : List ℕ) (next : ℕ) → at ≤ length s
    → lines_at keys s at ≡ read ns next → LinesStand keys s at ns next
lines_text_lem [] s at ns next l e = go ns e
  where
    go : (ms : List ℕ) → read [] at ≡ read ms next → LinesStand [] s at ms next
    go [] q =
        let same : at ≡ next = same_next q in
        record { count = refl; small = tt; next_line = omega arith; text = ap (λ (i : ℕ). drop i s) same; inside = omega arith }
    go (m ∷ ms) q = let none : [] ≡ m ∷ ms = same_value q in absurd (cc)
lines_text_lem (key ∷ keys) s at ns next l e = first (line_at key s at) refl e (λ m ms k. lines_text_lem keys s m ms next k)
  where
    Others : Type 0
    Others = (m : ℕ) (ms : List ℕ) → m ≤ length s → lines_at keys s m ≡ read ms next → LinesStand keys s m ms next

    never : None ≡ read ns next → LinesStand (key ∷ keys) s at ns next
    never q = absurd (cc)

    whole : (n m : ℕ) (ms : List ℕ) → LineStands key s at n m → m ≤ length s → LinesStand keys s m ms next
        → LinesStand (key ∷ keys) s at (n ∷ ms) next
    whole n m ms x k others =
        let line = number_line key n in
        let text = lines_text (lines_of keys ms) in
        let behind : at + length line ≡ m = sym x.next_line in
        record {
          count = omega (arith, others.count);
          small = (x.small, others.small);
          next_line = omega (arith, x.next_line, others.next_line, length-append line text);
          text =
              stands_drop line s at x.stands (omega (arith, x.next_line))
              ∙ ap (λ (i : ℕ). line ++ drop i s) behind
              ∙ ap (λ (t : List ℕ). line ++ t) others.text
              ∙ sym (append_assoc line text (drop next s));
          inside = others.inside;
        }

    second : (n m : ℕ) → LineStands key s at n m → (r : LinesRead) → lines_at keys s m ≡ r → before (n ∷ []) r ≡ read ns next
        → Others → LinesStand (key ∷ keys) s at ns next
    second n m x (Some r) er q others =
        let k = line_inside key s at n m x in
        let ends : r.next ≡ next = same_next q in
        let numbers : n ∷ r.value ≡ ns = same_value q in
        subst (λ (l : List ℕ). LinesStand (key ∷ keys) s at l next) numbers
        (whole n m r.value x k (others m r.value k (er ∙ ap (read r.value) ends)))
    second n m x None er q others = never q

    first : (r : Option (Found ℕ)) → line_at key s at ≡ r → after_line (lines_at keys s) r ≡ read ns next
        → Others → LinesStand (key ∷ keys) s at ns next
    first (Some r) er q others = second r.value r.next (at_line key s at r.value r.next er) (lines_at keys s r.next) refl q others
    first None er q others = never q
