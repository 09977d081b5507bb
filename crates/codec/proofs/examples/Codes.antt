-- Examples that meet the hypotheses of the theorem on any code for a class: the repetition code of three cells, and codes of one
-- word, with no cell and with one.
use Prim.Native.Nat.{ℕ, ◌*◌, ◌^◌, ◌<◌}
use mathlib.Core.List.Memᴰ
use mathlib.Core.List.{List, [], ◌∷◌}
use mathlib.Core.Logic.{◌≢◌, ◌⊎◌, inl, inr, ⊎_elim}
use mathlib.Core.Path.{◌≡◌, refl, ap, sym, subst, ◌∙◌}
use native.Mathlib.Decide.{ℕ_discrete}
use native.Mathlib.Omega.{arith}
use Rattle.lattice.specs.Check.{data_cells}
use Rattle.codec.specs.Field.{field_of, is_cell}
use Rattle.codec.specs.Bound.{Word, ComesFrom, CorrectsOne, Listed}
use Rattle.codec.proofs.theory.BinaryWords.{is_word}
use Rattle.codec.proofs.theorems.Bound.{no_denser_code}

-- the words 0 0 0 and 1 1 1
abbrev white : List ℕ
white = 0 ∷ 0 ∷ 0 ∷ []

abbrev black : List ℕ
black = 1 ∷ 1 ∷ 1 ∷ []

abbrev Repetition : List ℕ → Type 0
Repetition w = (w ≡ white) ⊎ (w ≡ black)

white_word : Word 3 white
unfolding is_cell
white_word = is_word white refl

black_word : Word 3 black
unfolding is_cell
black_word = is_word black refl

-- no word can have come from both: two of its three cells are 0, which differ from 1 1 1, or two are not, which differ from 0 0 0
not_both : (w : List ℕ) → ComesFrom 3 white w → ComesFrom 3 black w → ⊥
not_both w c d = go (ℕ_discrete 0 (field_of w 0)) (ℕ_discrete 0 (field_of w 1)) (ℕ_discrete 0 (field_of w 2))
  where
    black_differs : {v : ℕ} → 0 ≡ v → 1 ≢ v
    black_differs e z = omega (arith, e, z)

    go : Dec (0 ≡ field_of w 0) → Dec (0 ≡ field_of w 1) → Dec (0 ≡ field_of w 2) → ⊥
    go (yes p) (yes q) r = omega (arith, d.one 0 1 (black_differs p) (black_differs q))
    go (yes p) (no q) (yes r) = omega (arith, d.one 0 2 (black_differs p) (black_differs r))
    go (yes p) (no q) (no r) = omega (arith, c.one 1 2 q r)
    go (no p) (no q) r = omega (arith, c.one 0 1 p q)
    go (no p) (yes q) (no r) = omega (arith, c.one 0 2 p r)
    go (no p) (yes q) (yes r) = omega (arith, d.one 1 2 (black_differs q) (black_differs r))

pub repetition_corrects : CorrectsOne 3 Repetition
repetition_corrects = record { words = words; apart = apart }
  where
    words : (u : List ℕ) → Repetition u → Word 3 u
    words u (inl p) = subst (Word 3) (sym p) white_word
    words u (inr p) = subst (Word 3) (sym p) black_word

    apart : (u v w : List ℕ) → Repetition u → Repetition v → ComesFrom 3 u w → ComesFrom 3 v w → u ≡ v
    apart u v w (inl p) (inl q) c d = p ∙ sym q
    apart u v w (inr p) (inr q) c d = p ∙ sym q
    apart u v w (inl p) (inr q) c d =
        absurd (not_both w (subst (λ (x : List ℕ). ComesFrom 3 x w) p c) (subst (λ (x : List ℕ). ComesFrom 3 x w) q d))
    apart u v w (inr p) (inl q) c d =
        absurd (not_both w (subst (λ (x : List ℕ). ComesFrom 3 x w) q d) (subst (λ (x : List ℕ). ComesFrom 3 x w) p c))

pub repetition_listed : Listed Repetition (white ∷ black ∷ [])
repetition_listed =
    record {
      distinct = (
        λ y m e. omega (arith, ap (λ (x : List ℕ). field_of x 0) (e ∙ Memᴰ.eq_of_singleton m)),
        (λ y m. absurd (Memᴰ.not-nil m), tt),
      );
      inside = λ w m. ⊎_elim inl (λ k. inr (Memᴰ.eq_of_singleton k)) (Memᴰ.cases_cons m);
    }

-- so 2 is below twice 2 to the power of 1
pub repetition_fewer : 2 < 2 * 2 ^ data_cells 3
repetition_fewer = no_denser_code 3 Repetition repetition_corrects (white ∷ black ∷ []) repetition_listed

-- one word by itself
module _ {n : ℕ} (w : List ℕ) (word : Word n w) where
  single_corrects : CorrectsOne n (λ u. u ≡ w)
  single_corrects =
      record { words = λ u p. subst (Word n) (sym p) word; apart = λ u v x p q c d. p ∙ sym q }

  single_listed : Listed (λ u. u ≡ w) (w ∷ [])
  single_listed = record { distinct = (λ y m. absurd (Memᴰ.not-nil m), tt); inside = λ u m. Memᴰ.eq_of_singleton m }

-- of no cell, and of one: 1 is below twice 2 to the power of 0
one_word : Word 1 (1 ∷ [])
unfolding is_cell
one_word = is_word (1 ∷ []) refl

pub no_cell_fewer : 1 < 2 * 2 ^ data_cells 0
no_cell_fewer =
    let word = is_word [] refl in
    no_denser_code 0 (λ u. u ≡ []) (single_corrects [] word) ([] ∷ []) (single_listed [] word)

pub one_cell_fewer : 1 < 2 * 2 ^ data_cells 1
one_cell_fewer =
    no_denser_code 1 (λ u. u ≡ 1 ∷ []) (single_corrects (1 ∷ []) one_word) ((1 ∷ []) ∷ []) (single_listed (1 ∷ []) one_word)
