-- The field written from a payload of digits is lawful, carries the digits, and is the only such field.
use Prim.Native.Nat.{ℕ, ◌+◌, ◌*◌, ◌%◌, ◌<◌, ◌≤◌}
use mathlib.Core.Bool.{Bool, true, false, cond, ◌&&◌}
use mathlib.Core.List.{List}
use mathlib.Core.Logic.{◌≢◌, ⊎_elim}
use mathlib.Core.Path.{◌≡◌, refl, sym, ap, ◌∙◌}
use native.Mathlib.Decide.{dec_lt}
use native.Mathlib.Omega.{arith}
use lib.Dec.{eqb}
use lib.ListN.{length, get_or, get_or-eq_default}
use borrow.Author.Tests.{eq-eqb, ne_eqb}
use Rattle.codec.specs.Field.{Field, field_of, Same}
use Rattle.lattice.specs.Position.{Layout}
use Rattle.levels.specs.Level.{max_level, Levels}
use Rattle.levels.specs.Faults.{multiplier}
use Rattle.levels.specs.Words.{slot, in_word, word, is_of, weighted, remainder, LawfulWord, LawfulLevels}
use Rattle.levels.specs.Payload.{holds_digit, digit_rank, digit_field, check_for, encoded_levels, CarriesDigits}
use Rattle.levels.proofs.theory.WordCells.{of_in, of_word, is_of_lem, of_one, of_some}
use Rattle.levels.proofs.theory.Remainders.{cell_or_none, weighted_changed}
use Rattle.levels.proofs.theory.DigitCells.{Kind, digit, check, ignored, kind, digit_slot, in_digit, check_none}
use Rattle.levels.proofs.theory.DigitCells.{ignored_none, digit_value, digit_zero}

-- the check makes a multiple of 25, and is the only level that does
pub check_below : (x : ℕ) → check_for x ≤ max_level
unfolding check_for
check_below x = omega arith

check_makes : (x : ℕ) → (x + check_for x) % 25 ≡ 0
unfolding check_for
check_makes x = omega arith

check_only : (x v : ℕ) → v ≤ max_level → (x + v) % 25 ≡ 0 → v ≡ check_for x
unfolding check_for
check_only x v l e = omega arith

-- the check counts once
first_multiplier : multiplier 0 ≡ 1
unfolding multiplier
first_multiplier = refl

-- a payload of levels has 0 behind its end
digit_level : (p : List ℕ) → Levels (field_of p) (length p) → (k : ℕ) → get_or p k 0 ≤ max_level
digit_level p h k = go (dec_lt k (length p))
  where
    go : Dec (k < length p) → get_or p k 0 ≤ max_level
    go (yes l) = h k l
    go (no l) = let z : get_or p k 0 ≡ 0 = get_or-eq_default p 0 (omega arith) in omega arith

module _ (L : Layout) (p : List ℕ) where
  -- the value of a cell of the field written
  pub encoded_check : (i : ℕ) → in_word L i ≡ true → slot L i ≡ 0
      → encoded_levels L p i ≡ check_for (weighted L (digit_field L p) (word L i) L.cells)
  unfolding encoded_levels
  encoded_check i e z = rw (e, eq-eqb (slot L i) 0 z)

  pub encoded_other : (i : ℕ) → slot L i ≢ 0 → encoded_levels L p i ≡ digit_field L p i
  unfolding encoded_levels
  encoded_other i d = rw (ne_eqb (slot L i) 0 d) (cut (in_word L i))
    where
      cut : (b : Bool)
          → cond (b && false) (check_for (weighted L (digit_field L p) (word L i) L.cells)) (digit_field L p i)
          ≡ digit_field L p i
      cut true = refl
      cut false = refl

  pub encoded_digit : (i : ℕ) → holds_digit L i ≡ true → encoded_levels L p i ≡ get_or p (digit_rank L i) 0
  encoded_digit i e = encoded_other i (digit_slot L i e) ∙ digit_value L p i e

  pub encoded_ignored : (i : ℕ) → in_word L i ≢ true → encoded_levels L p i ≡ 0
  unfolding encoded_levels
  encoded_ignored i d = go (in_word L i) refl
    where
      go : (b : Bool) → in_word L i ≡ b
          → cond (in_word L i && eqb (slot L i) 0)
          (check_for (weighted L (digit_field L p) (word L i) L.cells)) (digit_field L p i) ≡ 0
      go true e = absurd (d e)
      go false e = rw e (digit_zero L p i (ignored_none L i d))

  pub encoded_levels_lem : Levels (field_of p) (length p) → Levels (encoded_levels L p) L.cells
  encoded_levels_lem h i l = go (kind L i)
    where
      go : Kind L i → encoded_levels L p i ≤ max_level
      go (digit e) = omega (arith, encoded_digit i e, digit_level p h (digit_rank L i))
      go (check e z) = omega (arith, encoded_check i e z, check_below (weighted L (digit_field L p) (word L i) L.cells))
      go (ignored d) = omega (arith, encoded_ignored i d)

  -- a field that has the digits of p in word w, whose check is cell c: its sum is the digits' sum and the check
  module _ (f : Field) (w c : ℕ) (below : c < L.cells) (own : is_of L w c ≡ true) (first : slot L c ≡ 0)
      (carries : (i : ℕ) → i < L.cells → holds_digit L i ≡ true → f i ≡ get_or p (digit_rank L i) 0) where
    pub sum_check : weighted L f w L.cells ≡ weighted L (digit_field L p) w L.cells + f c
    sum_check =
        omega (
          arith,
          weighted_changed L f (digit_field L p) w c below own (λ i l e d.
              let h : holds_digit L i ≡ true = in_digit L i (of_in L w i e) (λ z. d (of_one L w i c e own (z ∙ sym first))) in
              carries i l h ∙ sym (digit_value L p i h)),
          ap (λ (m : ℕ). m * digit_field L p c) one,
          ap (λ (m : ℕ). m * f c) one,
          digit_zero L p c (check_none L c first),
        )
      where
        one : multiplier (slot L c) ≡ 1
        one = ap multiplier first ∙ first_multiplier

  -- every word of the field written is lawful
  pub encoded_word : (w : ℕ) → LawfulWord L (encoded_levels L p) w
  unfolding LawfulWord remainder
  encoded_word w = ⊎_elim some (λ z. ap (λ (x : ℕ). x % 25) z) (cell_or_none L (encoded_levels L p) w L.cells)
    where
      some : (i : ℕ) × (i < L.cells) × (is_of L w i ≡ true) → weighted L (encoded_levels L p) w L.cells % 25 ≡ 0
      some i =
          let c = of_some L w i.0 0 i.2 (omega arith) in
          ap (λ (x : ℕ). x % 25)
          (sum_check (encoded_levels L p) w c.0 c.1 c.2 c.3 (λ j l e. encoded_digit j e)
          ∙ ap (λ (x : ℕ). weighted L (digit_field L p) w L.cells + x)
          (encoded_check c.0 (of_in L w c.0 c.2) c.3
          ∙ ap (λ (v : ℕ). check_for (weighted L (digit_field L p) v L.cells)) (of_word L w c.0 c.2)))
          ∙ check_makes (weighted L (digit_field L p) w L.cells)

  pub encoded_lawful : Levels (field_of p) (length p) → LawfulLevels L (encoded_levels L p)
  encoded_lawful h = record { levels = encoded_levels_lem h; words = encoded_word; ignored = λ i l d. encoded_ignored i d }

  -- a lawful field with the payload's digits is the field written
  pub encoded_only : (f : Field) → LawfulLevels L f → CarriesDigits L f p → Same f (encoded_levels L p) L.cells
  unfolding LawfulWord remainder
  encoded_only f h carries i l = go (kind L i)
    where
      go : Kind L i → f i ≡ encoded_levels L p i
      go (digit e) = carries i l e ∙ sym (encoded_digit i e)
      go (check e z) =
          check_only (weighted L (digit_field L p) (word L i) L.cells) (f i) (h.levels i l)
          (ap (λ (x : ℕ). x % 25) (sym (sum_check f (word L i) i l (is_of_lem L (word L i) i e refl) z carries))
          ∙ h.words (word L i))
          ∙ sym (encoded_check i e z)
      go (ignored d) = h.ignored i l d ∙ sym (encoded_ignored i d)
