-- The lines of the window: they are read exactly where their text stands, and where they are left out none begins what follows.
use Prim.Native.Nat.{ℕ, suc, ◌+◌, ◌≤◌}
use mathlib.Core.Bool.{Bool, true, false, cond, ◌||◌, true≢false}
use mathlib.Core.List.{List, [], ◌∷◌, ◌++◌, map}
use mathlib.Core.Logic.{◌≢◌, ⊎_elim}
use mathlib.Core.Path.{◌≡◌, refl, sym, ap, subst, ◌∙◌}
use native.Mathlib.Nat.{add-zero}
use native.Mathlib.Omega.{arith}
use lib.ListN.{length, get_or, drop}
use Rattle.lattice.proofs.theory.Bools.{or_true_left, or_true_right, or_cases, not_true}
use Rattle.std.specs.Prelude.{Option, Some, None}
use Rattle.lattice.specs.declared.shape.Window.{Window}
use Rattle.card.proofs.theory.Found.{same_value, same_next}
use Rattle.card.specs.Text.{window_rows_key, window_columns_key, window_keys, number_line, lines_text, window_lines, window_from}
use Rattle.card.specs.Card.{FewDigitsEach}
use Rattle.card.specs.Parse.{key_at, read, lines_at, any_key_at, optional_at}
use Rattle.card.specs.Form.{BeginsWith, NoWindowLine}
use Rattle.card.proofs.theory.StandsAt.{stands_drop, byte_inside, key_at_lem, at_key}
use Rattle.card.proofs.theory.LinesText.{lines_length, lines_most, lines_most_lem, drop_stands, text_lines, LinesStand}
use Rattle.card.proofs.theory.LinesText.{lines_text_lem}

-- a key stands at `at` where what follows begins with it, and back where its last byte isn't 0
begins_key : (key s : List ℕ) (at : ℕ) → BeginsWith key (drop at s) → key_at key s at ≡ true
begins_key key s at b = key_at_lem key s at (drop_stands key s b.0 at b.1)

key_begins : (key s : List ℕ) (at k : ℕ) → length key ≡ suc k → get_or key k 0 ≢ 0 → key_at key s at ≡ true
    → BeginsWith key (drop at s)
key_begins key s at k long last e =
    let stands = at_key key s at e in
    let inside = byte_inside s (at + k) (λ z. last (sym (stands k (omega arith)) ∙ z)) in
    (drop (at + length key) s, stands_drop key s at stands (omega arith))

-- no key of the window stands at `at` exactly where no line of it begins what follows
no_key : (s : List ℕ) (at : ℕ) → NoWindowLine (drop at s) → any_key_at window_keys s at ≡ false
no_key s at none = not_true (any_key_at window_keys s at) (λ e. ⊎_elim first second (or_cases (key_at window_rows_key s at) _ e))
  where
    first : key_at window_rows_key s at ≡ true → ⊥
    first p = none.0 (key_begins window_rows_key s at 11 refl (λ e. omega (arith, e)) p)

    last : key_at window_columns_key s at ≡ true → ⊥
    last p = none.1 (key_begins window_columns_key s at 14 refl (λ e. omega (arith, e)) p)

    second : (key_at window_columns_key s at || false) ≡ true → ⊥
    second p = ⊎_elim last (λ e. true≢false (sym e)) (or_cases (key_at window_columns_key s at) false p)

no_line : (s : List ℕ) (at : ℕ) → any_key_at window_keys s at ≡ false → NoWindowLine (drop at s)
no_line s at e = (
  (λ b. true≢false (sym (or_true_left (key_at window_rows_key s at) _ (begins_key window_rows_key s at b)) ∙ e)),
  λ b.
      let second = or_true_left (key_at window_columns_key s at) false (begins_key window_columns_key s at b) in
      true≢false (sym (or_true_right (key_at window_rows_key s at) _ second) ∙ e),
)

-- a text whose first byte is another begins with no line of the window
pub other_byte : (s : List ℕ) → get_or s 0 0 ≢ 119 → NoWindowLine s
other_byte s other = (
  (λ b. other (ap (λ (t : List ℕ). get_or t 0 0) b.1)),
  λ b. other (ap (λ (t : List ℕ). get_or t 0 0) b.1),
)

-- the numbers of the lines, and the lines of these numbers
abbrev pub window_numbers : Option Window → List ℕ
window_numbers l = map (λ k. k.number) (window_lines l)

pub numbers_window : (l : Option Window) → window_from (window_numbers l) ≡ l
numbers_window None = refl
numbers_window (Some w) = refl

-- the most that they take
pub window_lines_most : (l : Option Window) → lines_length (window_lines l) ≤ lines_most window_keys
window_lines_most None = omega arith
window_lines_most (Some w) = lines_most_lem (window_lines (Some w))

-- their text is read back, and where they are left out nothing is read
pub window_back : (l : Option Window) (s : List ℕ) (at : ℕ) (rest : List ℕ) → FewDigitsEach (window_lines l)
    → (l ≡ None → NoWindowLine rest) → drop at s ≡ lines_text (window_lines l) ++ rest
    → optional_at window_keys s at ≡ read (window_numbers l) (at + length (lines_text (window_lines l)))
unfolding optional_at number_line
window_back None s at rest small whole e =
    rw (no_key s at (subst NoWindowLine (sym e) (whole refl))) (ap (read []) (sym (add-zero at)))
window_back (Some w) s at rest small whole e =
    rw (or_true_left (key_at window_rows_key s at) _ (begins_key window_rows_key s at (_, e)))
    (text_lines (window_lines (Some w)) s at rest small e)

-- what they are read from is their text, and where none is read none follows
pub record WindowStands (s : List ℕ) (at : ℕ) (l : Option Window) (next : ℕ) : Type 0 where
  pub small : FewDigitsEach (window_lines l)
  pub next_line : next ≡ at + length (lines_text (window_lines l))
  pub text : drop at s ≡ lines_text (window_lines l) ++ drop next s
  pub whole : l ≡ None → NoWindowLine (drop next s)
  pub inside : next ≤ length s

pub window_text : (s : List ℕ) (at : ℕ) (ns : List ℕ) (next : ℕ) → at ≤ length s → optional_at window_keys s at ≡ read ns next
    → WindowStands s at (window_from ns) next
unfolding optional_at
window_text s at ns next l e = go (any_key_at window_keys s at) refl e
  where
    given : (ms : List ℕ) → LinesStand window_keys s at ms next → WindowStands s at (window_from ms) next
    given [] x = absurd (omega (arith, x.count))
    given (p ∷ []) x = absurd (omega (arith, x.count))
    given (p ∷ q ∷ []) x =
        record {
          small = x.small;
          next_line = x.next_line;
          text = x.text;
          whole = λ none. absurd (cc);
          inside = x.inside;
        }
    given (p ∷ q ∷ r ∷ ms) x = absurd (omega (arith, x.count))

    go : (b : Bool) → any_key_at window_keys s at ≡ b → cond b (lines_at window_keys s at) (read [] at) ≡ read ns next
        → WindowStands s at (window_from ns) next
    go true some q = given ns (lines_text_lem window_keys s at ns next l q)
    go false none q =
        let empty : [] ≡ ns = same_value q in
        let ends : at ≡ next = same_next q in
        subst (λ (ms : List ℕ). WindowStands s at (window_from ms) next) empty
        (record {
          small = tt;
          next_line = omega arith;
          text = ap (λ (i : ℕ). drop i s) ends;
          whole = λ _. subst (λ (i : ℕ). NoWindowLine (drop i s)) ends (no_line s at none);
          inside = omega arith;
        })
