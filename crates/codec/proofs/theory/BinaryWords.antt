-- Words of n cells: their entries are 0 or 1, and all of them are a list of 2^n.
use Prim.Native.Nat.{ℕ, zero, suc, ◌^◌, ◌<◌, ◌≤◌}
use mathlib.Core.Bool.{true}
use mathlib.Core.List.Memᴰ
use mathlib.Core.List.{List, [], ◌∷◌, ◌++◌, map, tail}
use mathlib.Core.List.{Memᴰ}
use mathlib.Core.Logic.{◌≢◌, ⊎_elim}
use mathlib.Core.Path.{◌≡◌, refl, ap, ◌∙◌, sym, subst}
use native.Mathlib.Decide.{dec_lt}
use native.Mathlib.Omega.{arith}
use lib.ListN.{length, length-append, length-map, get_or-eq_default}
use Rattle.lattice.specs.Counting.{all_below}
use Rattle.lattice.specs.Distinct.{Distinct}
use Rattle.lattice.proofs.theory.Distinct.{distinct_append, distinct_map}
use Rattle.codec.specs.Field.{field_of, is_cell}
use Rattle.codec.specs.Bound.{Word}
use Rattle.codec.proofs.theory.AllBelow.{below_all}
use Rattle.codec.proofs.theory.CellValues.{cell_most, most_cell}

-- a list of cells is a word
pub is_word : (w : List ℕ) → all_below (λ i. is_cell (field_of w i)) (length w) ≡ true → Word (length w) w
is_word w e = record { long = refl; cells = below_all (λ i. is_cell (field_of w i)) (length w) e }

-- each entry of a word is at most 1, and so is the 0 that stands behind them
pub word_most : {n : ℕ} {w : List ℕ} → Word n w → (i : ℕ) → field_of w i ≤ 1
word_most {n} {w} h i = go (dec_lt i n)
  where
    go : Dec (i < n) → field_of w i ≤ 1
    go (yes l) = cell_most _ (h.cells i l)
    go (no l) = omega (arith, get_or-eq_default w 0 {n = i} (omega (arith, h.long)))

-- the words of n + 1 cells that begin with x
abbrev begun : ℕ → List (List ℕ) → List (List ℕ)
begun x words = map (λ w. x ∷ w) words

pub all_words : ℕ → List (List ℕ)
all_words zero = [] ∷ []
all_words (suc n) = begun 0 (all_words n) ++ begun 1 (all_words n)

pub all_length : (n : ℕ) → length (all_words n) ≡ 2 ^ n
unfolding all_words
all_length zero = refl
all_length (suc n) =
    length-append (begun 0 (all_words n)) (begun 1 (all_words n))
    ∙ omega (arith, length-map (all_words n) (λ w. 0 ∷ w), length-map (all_words n) (λ w. 1 ∷ w), all_length n)

-- every word is there
rest : {n x : ℕ} {w : List ℕ} → Word (suc n) (x ∷ w) → Word n w
rest h = record { long = omega (arith, h.long); cells = λ i l. h.cells (suc i) (omega arith) }

pub all_has : (n : ℕ) (w : List ℕ) → Word n w → Memᴰ w (all_words n)
unfolding all_words
all_has zero [] h = Memᴰ.head refl
all_has zero (x ∷ w) h = absurd (omega (arith, h.long))
all_has (suc n) [] h = absurd (omega (arith, h.long))
all_has (suc n) (zero ∷ w) h =
    Memᴰ.append_left (begun 1 (all_words n)) (Memᴰ.map (λ v. 0 ∷ v) (all_has n w (rest h)))
all_has (suc n) (suc zero ∷ w) h =
    Memᴰ.append_right (begun 0 (all_words n)) (Memᴰ.map (λ v. 1 ∷ v) (all_has n w (rest h)))
all_has (suc n) (suc (suc x) ∷ w) h = absurd (omega (arith, cell_most _ (h.cells 0 (omega arith))))

-- and nothing else
longer : (n x : ℕ) (w : List ℕ) → is_cell x ≡ true → Word n w → Word (suc n) (x ∷ w)
longer n x w c h = record { long = ap suc h.long; cells = go }
  where
    go : (i : ℕ) → i < suc n → is_cell (field_of (x ∷ w) i) ≡ true
    go zero l = c
    go (suc i) l = h.cells i (omega arith)

pub all_are : (n : ℕ) (w : List ℕ) → Memᴰ w (all_words n) → Word n w
unfolding all_words
all_are zero w m =
    subst (Word 0) (sym (Memᴰ.eq_of_singleton m)) (is_word [] refl)
all_are (suc n) w m =
    ⊎_elim
    (λ k. go 0 (most_cell 0 (omega arith)) (Memᴰ.of_map (λ v. 0 ∷ v) (all_words n) k) (all_are n))
    (λ k. go 1 (most_cell 1 (omega arith)) (Memᴰ.of_map (λ v. 1 ∷ v) (all_words n) k) (all_are n))
    (Memᴰ.append_cases (begun 0 (all_words n)) m)
  where
    go : (x : ℕ) → is_cell x ≡ true → (v : List ℕ) × Memᴰ v (all_words n) × (x ∷ v ≡ w)
        → ((v : List ℕ) → Memᴰ v (all_words n) → Word n v) → Word (suc n) w
    go x c r before = subst (Word (suc n)) r.2 (longer n x r.0 c (before r.0 r.1))

-- each is there once
pub all_distinct : (n : ℕ) → Distinct (all_words n)
unfolding all_words
all_distinct zero = (λ y m. absurd (Memᴰ.not-nil m), tt)
all_distinct (suc n) =
    distinct_append (begun 0 (all_words n)) (begun 1 (all_words n)) (half 0 (all_distinct n)) (half 1 (all_distinct n)) apart
  where
    half : (x : ℕ) → Distinct (all_words n) → Distinct (begun x (all_words n))
    half x d = distinct_map (λ w. x ∷ w) (all_words n) d (λ v w k l e. ap tail e)

    apart : (v w : List ℕ) → Memᴰ v (begun 0 (all_words n)) → Memᴰ w (begun 1 (all_words n)) → v ≢ w
    apart v w k l e =
        let first = Memᴰ.of_map (λ x. 0 ∷ x) (all_words n) k in
        let second = Memᴰ.of_map (λ x. 1 ∷ x) (all_words n) l in
        omega (arith, ap (λ (x : List ℕ). field_of x 0) (first.2 ∙ e ∙ sym second.2))
