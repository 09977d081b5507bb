-- The digits of a field in the lent payload, cell by cell, and the number of word cells that differ.
use Prim.Native.Nat.{ℕ, suc, ◌+◌, ◌<◌, ◌≤◌}
use mathlib.Core.Bool.{Bool, true, false, cond, not, ◌&&◌}
use mathlib.Core.List.{List}
use mathlib.Core.Path.{◌≡◌, refl, sym, ap, ap₂, ◌∙◌}
use native.Mathlib.Decide.{ℕ_discrete}
use native.Mathlib.Nat.{le_antisymm, lt_of_le_of_lt}
use native.Mathlib.Numerals.{add-one}
use native.Mathlib.Omega.{arith}
use lib.Dec.{eqb}
use lib.ListN.{length, get_or}
use borrow.Author.Tests.{eq-eqb, ne_eqb}
use Rattle.lattice.specs.declared.shape.Shape.{Shape}
use Rattle.lattice.specs.Shape.{max_cells, Accepted, cells_of}
use Rattle.lattice.specs.Class.{layout_of}
use Rattle.lattice.specs.Position.{Layout}
use Rattle.lattice.specs.Digits.{digits_of}
use Rattle.lattice.proofs.theory.Counting.{bit, count_step, count_most}
use Rattle.codec.specs.Field.{Field}
use Rattle.codec.proofs.theory.FieldLists.{list_field}
use Rattle.levels.specs.declared.spot.Spot.{Spot}
use Rattle.levels.specs.Words.{in_word}
use Rattle.levels.specs.Payload.{holds_digit, digit_rank, held_digit, held_digits, word_differences_to, word_differences}
use Rattle.levels.specs.Working.{SpotOf, DigitStored}
use Rattle.levels.proofs.theory.DigitRanks.{rank_more}
use Rattle.levels.proofs.theory.HeldDigits.{digit_here, digit_past}
use Rattle.levels.proofs.theory.WrittenLevels.{digits_all}

-- a store of a digit, and none
module _ (l : List ℕ) (d : Bool) (k v : ℕ) where
  kept : (b : Bool) (y : ℕ) → b ≡ false → y ≡ cond (d && b) v y
  kept b y e = go d
    where
      go : (a : Bool) → y ≡ cond (a && b) v y
      go true = rw e
      go false = refl

-- the payload holds the digits of the cells before i of a field
pub record HoldsHeld (L : Layout) (f : Field) (l : List ℕ) (i : ℕ) : Type 0 where
  pub at : (j : ℕ) → j < digit_rank L i → j < length l → get_or l j 0 ≡ held_digit L f j i

pub held_none : (L : Layout) (f : Field) (l : List ℕ) → HoldsHeld L f l 0
unfolding digit_rank
held_none L f l = record { at = λ j h q. absurd (omega (arith, h)) }

pub held_more : (L : Layout) (f : Field) (l after : List ℕ) (i r v : ℕ) (b : Bool) → HoldsHeld L f l i → length after ≡ length l
    → b ≡ holds_digit L i → r ≡ digit_rank L i → v ≡ f i → DigitStored l after b r v → HoldsHeld L f after (i + 1)
held_more L f l after i r v b before long held ranked value st =
    record {
      at = λ j h q.
          st.at j (rw (← long) q)
          ∙ go b held j h (rw (← long) q) (ℕ_discrete r j)
          ∙ ap (held_digit L f j) (sym (add-one i));
    }
  where
    next : (a : Bool) → a ≡ holds_digit L i → digit_rank L (i + 1) ≡ bit a + r
    next a e = sym (rank_more L i r (bit a + r) a ranked e refl)

    go : (a : Bool) → a ≡ holds_digit L i → (j : ℕ) → j < digit_rank L (i + 1) → j < length l → Dec (r ≡ j)
        → cond (a && eqb r j) v (get_or l j 0) ≡ held_digit L f j (suc i)
    go true e j h q (yes z) = rw (eq-eqb r j z) (value ∙ sym (digit_here L f j i (sym e) (sym ranked ∙ z)))
    go true e j h q (no z) =
        rw (ne_eqb r j z)
        (before.at j (omega (arith, h, next true e, ranked, z)) q ∙ sym (digit_past L f j i (λ w. z (ranked ∙ w))))
    go false e j h q d =
        before.at j (omega (arith, h, next false e, ranked)) q
        ∙ ap (λ (t : Bool). cond (t && eqb (digit_rank L i) j) (f i) (held_digit L f j i)) e

pub held_all : (s : Shape) → Accepted s → (f : Field) (l : List ℕ) (n i : ℕ) → length l ≡ digits_of s → n ≡ cells_of s → i ≤ n
    → n ≤ i → HoldsHeld (layout_of s) f l i → l ≡ held_digits (layout_of s) (digits_of s) f
unfolding held_digits digit_rank
held_all s a f l n i long e p q held =
    list_field l (λ j. held_digit (layout_of s) f j (cells_of s)) (digits_of s) long
    (λ j h.
    held.at j (rw (le_antisymm p q ∙ e, digits_all s a) h) (rw long h)
    ∙ ap (held_digit (layout_of s) f j) (le_antisymm p q ∙ e))

-- the number of word cells that differ, over one cell more
module _ (s : Shape) (f g : Field) where
  pub changed_none : 0 ≡ word_differences_to (layout_of s) f g 0
  unfolding word_differences_to
  changed_none = refl

  pub changed_more : (i k y v w : ℕ) (x : Spot) → SpotOf s i x → (b : Bool) → k ≡ word_differences_to (layout_of s) f g i → v
      ≡ f i
      → w ≡ g i → b ≡ (x.inside && not (eqb v w)) → y ≡ cond b 1 0 + k → y ≡ word_differences_to (layout_of s) f g (i + 1)
  unfolding word_differences_to
  changed_more i k y v w x spot b p q r t e =
      e
      ∙ ap₂ (λ (a : Bool) (m : ℕ). bit a + m)
      (t
      ∙ ap (λ (a : Bool). a && not (eqb v w)) spot.inside
      ∙ ap₂ (λ (c d : ℕ). in_word (layout_of s) i && not (eqb c d)) q r)
      p
      ∙ sym (count_step (λ j. in_word (layout_of s) j && not (eqb (f j) (g j))) i)

  pub changed_limit : (i k : ℕ) → i < max_cells → k ≡ word_differences_to (layout_of s) f g i → k < max_cells
  unfolding word_differences_to
  changed_limit i k l e = rw e (lt_of_le_of_lt (count_most _ i) l)

  pub changed_all : (n i k : ℕ) → n ≡ cells_of s → i ≤ n → n ≤ i → k ≡ word_differences_to (layout_of s) f g i
      → k ≡ word_differences (layout_of s) f g
  changed_all n i k e p q h = h ∙ ap (word_differences_to (layout_of s) f g) (le_antisymm p q ∙ e)
