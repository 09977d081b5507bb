-- The corrected field of levels, for any layout of cells in classes: where the changes of a word can be taken back, the corrected
-- word is lawful, and the word comes from it.
use Prim.Native.Nat.{ℕ, ◌+◌, ◌-◌, ◌%◌, ◌<◌, ◌≤◌}
use mathlib.Core.Bool.{Bool, true, false, cond, not, ◌&&◌, ◌||◌}
use mathlib.Core.Logic.{◌≢◌, ⊎_elim}
use mathlib.Core.Path.{◌≡◌, refl, sym, ap, ◌∙◌}
use native.Mathlib.Decide.{ℕ_discrete}
use native.Mathlib.Omega.{arith}
use lib.Dec.{leb}
use borrow.Author.Tests.{le-leb, leb-true}
use Rattle.lattice.specs.Position.{Layout}
use Rattle.lattice.proofs.theory.Bools.{and_true, and_left, and_right, or_true_right}
use Rattle.codec.specs.Field.{Field}
use Rattle.levels.specs.Level.{max_level, is_level, Within}
use Rattle.levels.specs.Faults.{effect, change}
use Rattle.levels.specs.Words.{slot, in_word, word, is_of, weighted, remainder, LawfulWord, ComesFrom}
use Rattle.levels.specs.Restored.{change_at, corrected_levels, restored, restores, fits}
use Rattle.levels.proofs.theory.FaultLaws.{change_below, changed_one, changed_leaves, change_some, change_none}
use Rattle.levels.proofs.theory.WordCells.{of_in, of_word, of_one, of_some}
use Rattle.levels.proofs.theory.Remainders.{remainder_below, remainder_same, cell_or_none, effect_lawful}

module _ (L : Layout) (f : Field) where
  -- the value of a cell of the mended field
  pub corrected_in : (i : ℕ) → in_word L i ≡ true → corrected_levels L f i ≡ f i + 1 - change_at L f i
  unfolding corrected_levels
  corrected_in i e = rw e

  pub corrected_ignored : (i : ℕ) → in_word L i ≢ true → corrected_levels L f i ≡ 0
  unfolding corrected_levels
  corrected_ignored i d = go (in_word L i) refl
    where
      go : (b : Bool) → in_word L i ≡ b → cond (in_word L i) (restored (f i) (change_at L f i)) 0 ≡ 0
      go true e = absurd (d e)
      go false e = rw e

  -- the change in a cell of word w
  pub change_of_lem : (w i : ℕ) → is_of L w i ≡ true → change_at L f i ≡ change (remainder L f w) (slot L i)
  unfolding change_at
  change_of_lem w i e = ap (λ (v : ℕ). change (remainder L f v) (slot L i)) (of_word L w i e)

  pub change_limit : (i : ℕ) → change_at L f i < 5
  unfolding change_at
  change_limit i = change_below (remainder L f (word L i)) (remainder_below L f (word L i)) (slot L i)

  -- at most one cell of a word is changed
  pub changes_one : (w i j : ℕ) → is_of L w i ≡ true → is_of L w j ≡ true → change_at L f i ≢ 1 → change_at L f j ≢ 1 → i ≡ j
  changes_one w i j p q d e =
      of_one L w i j p q
      (changed_one (remainder L f w) (remainder_below L f w) (slot L i) (slot L j)
      (λ h. d (change_of_lem w i p ∙ h)) (λ h. e (change_of_lem w j q ∙ h)))

  -- a cell that differs after correction is changed
  pub differs_changed : (i : ℕ) → in_word L i ≡ true → f i ≢ corrected_levels L f i → change_at L f i ≢ 1
  differs_changed i p d e = d (sym (corrected_in i p ∙ ap (λ (u : ℕ). f i + 1 - u) e ∙ omega arith))

  -- the test of a cell of a word
  fits_test : (i : ℕ) → in_word L i ≡ true → fits L f i ≡ true
      → (leb (change_at L f i) (f i + 1) && leb (restored (f i) (change_at L f i)) max_level) ≡ true
  unfolding fits restores is_level
  fits_test i p e = rw p at e

  fits_low : (i : ℕ) → in_word L i ≡ true → fits L f i ≡ true → change_at L f i ≤ f i + 1
  fits_low i p e = leb-true (change_at L f i) (f i + 1) (and_left _ _ (fits_test i p e))

  pub fits_high : (i : ℕ) → in_word L i ≡ true → fits L f i ≡ true → corrected_levels L f i ≤ max_level
  fits_high i p e =
      rw (corrected_in i p)
      (leb-true (restored (f i) (change_at L f i)) max_level (and_right (leb (change_at L f i) (f i + 1)) _ (fits_test i p e)))

  pub fits_in : (i : ℕ) → change_at L f i ≤ f i + 1 → restored (f i) (change_at L f i) ≤ max_level → fits L f i ≡ true
  unfolding fits restores is_level
  fits_in i p q =
      or_true_right (not (in_word L i)) _
      (and_true _ _ (le-leb (change_at L f i) (f i + 1) p) (le-leb (restored (f i) (change_at L f i)) max_level q))

  pub fits_ignored : (i : ℕ) → in_word L i ≢ true → fits L f i ≡ true
  unfolding fits
  fits_ignored i d = go (in_word L i) refl
    where
      go : (b : Bool) → in_word L i ≡ b → (not (in_word L i) || restores (f i) (change_at L f i)) ≡ true
      go true e = absurd (d e)
      go false e = rw e

  -- where the changes can be taken back, the mended word is a lawful one from which f's comes
  module _ (w : ℕ) (fit : (i : ℕ) → i < L.cells → is_of L w i ≡ true → fits L f i ≡ true) where
    -- read + 1 = written + u
    taken_back : (i : ℕ) → i < L.cells → is_of L w i ≡ true → f i + 1 ≡ corrected_levels L f i + change_at L f i
    taken_back i l p =
        omega (arith, corrected_in i (of_in L w i p), fits_low i (of_in L w i p) (fit i l p))

    pub corrected_comes : ComesFrom L f (corrected_levels L f) w
    corrected_comes =
        record {
          one = λ i j l m p q d e.
              changes_one w i j p q (differs_changed i (of_in L w i p) d) (differs_changed j (of_in L w j q) e);
          within = λ i l p. near i l p;
        }
      where
        near : (i : ℕ) → i < L.cells → is_of L w i ≡ true → Within (corrected_levels L f i) (f i)
        near i l p = omega (arith, taken_back i l p, change_limit i)

    -- a cell with no change is kept
    kept : (i : ℕ) → i < L.cells → is_of L w i ≡ true → change_at L f i ≡ 1 → f i ≡ corrected_levels L f i
    kept i l p e = omega (arith, taken_back i l p, e)

    whole_word : remainder L f w ≡ 0 → LawfulWord L (corrected_levels L f) w
    unfolding LawfulWord
    whole_word z =
        sym (remainder_same L f (corrected_levels L f) w (λ i l p.
        kept i l p (change_of_lem w i p ∙ ap (λ (r : ℕ). change r (slot L i)) z ∙ change_none (slot L i))))
        ∙ z

    -- a word with a change in cell h
    changed_word : (h : ℕ) → h < L.cells → is_of L w h ≡ true → change_at L f h ≢ 1 → LawfulWord L (corrected_levels L f) w
    changed_word h below own up =
        effect_lawful L f (corrected_levels L f) w h below own
        (λ i l p other. kept i l p (still i (λ q. other (changes_one w i h p own q up)) (ℕ_discrete (change_at L f i) 1)))
        (change_at L f h) (taken_back h below own)
        (sym (changed_leaves (remainder L f w) (remainder_below L f w) (slot L h) (λ e. up (change_of_lem w h own ∙ e)))
        ∙ ap (effect (slot L h)) (sym (change_of_lem w h own)))
      where
        still : (i : ℕ) → (change_at L f i ≢ 1 → ⊥) → Dec (change_at L f i ≡ 1) → change_at L f i ≡ 1
        still i q (yes e) = e
        still i q (no e) = absurd (q e)

    empty_word : weighted L f w L.cells ≡ 0 → remainder L f w ≡ 0
    unfolding remainder
    empty_word z = ap (λ (x : ℕ). x % 25) z

    pub corrected_word : LawfulWord L (corrected_levels L f) w
    corrected_word = go (ℕ_discrete (remainder L f w) 0)
      where
        go : Dec (remainder L f w ≡ 0) → LawfulWord L (corrected_levels L f) w
        go (yes z) = whole_word z
        go (no d) = ⊎_elim some (λ z. whole_word (empty_word z)) (cell_or_none L f w L.cells)
          where
            some : (i : ℕ) × (i < L.cells) × (is_of L w i ≡ true) → LawfulWord L (corrected_levels L f) w
            some c =
                let k = change_some (remainder L f w) (remainder_below L f w) d in
                let h = of_some L w c.0 k.0 c.2 k.1 in
                changed_word h.0 h.1 h.2
                (λ e. k.2 (ap (change (remainder L f w)) (sym h.3) ∙ sym (change_of_lem w h.0 h.2) ∙ e))
