-- An array of the remainders of the words, kept cell by cell; and the change, the test and the corrected value of a cell from it.
use Prim.Native.Nat.{ℕ, ◌+◌, ◌-◌, ◌*◌, ◌%◌, ◌<◌, ◌≤◌}
use mathlib.Core.Bool.{Bool, true, false, cond, not, ◌&&◌, ◌||◌}
use mathlib.Core.List.{List}
use mathlib.Core.Path.{◌≡◌, refl, sym, ap, ap₂, ◌∙◌}
use native.Mathlib.Decide.{dec_lt}
use native.Mathlib.Omega.{arith}
use lib.Dec.{eqb, leb}
use lib.ListN.{get_or, replicate, get_or-replicate, length-replicate, get_or-eq_default}
use borrow.Author.Tests.{le-leb}
use Rattle.lattice.specs.declared.shape.Shape.{Shape}
use Rattle.lattice.specs.Shape.{cells_of}
use Rattle.lattice.specs.Class.{layout_of}
use Rattle.lattice.specs.Position.{Layout}
use Rattle.lattice.proofs.theory.Bools.{and_true}
use Rattle.codec.specs.Field.{Field}
use Rattle.levels.specs.declared.spot.Spot.{Spot}
use Rattle.levels.specs.Level.{max_level, is_level}
use Rattle.levels.specs.Faults.{multiplier, change}
use Rattle.levels.specs.Words.{slot, in_word, is_of, weighted, remainder}
use Rattle.levels.specs.Restored.{change_at, corrected_levels, restored, restores, fits}
use Rattle.levels.specs.Working.{max_words, HoldsRemainders, SpotOf, LevelTaken, change_of}
use Rattle.levels.proofs.theory.Remainders.{weighted_zero, remainder_own, remainder_other}

-- a fresh array
zeros_of : (n w : ℕ) → ◌≡◌ {A = ℕ} (get_or (replicate n 0) w 0) 0
zeros_of n w = go (dec_lt w n)
  where
    go : Dec (w < n) → ◌≡◌ {A = ℕ} (get_or (replicate n 0) w 0) 0
    go (yes l) = get_or-replicate n w 0 0 l
    go (no l) = get_or-eq_default (replicate n 0) 0 (rw (length-replicate {A = ℕ} n 0) (omega (arith, l)))

pub no_remainders : (w : ℕ) → ◌≡◌ {A = ℕ} (get_or (replicate max_words 0) w 0) 0
no_remainders w = zeros_of max_words w

module _ (L : Layout) (f : Field) (l : List ℕ) where
  pub remainders_none : ((w : ℕ) → get_or l w 0 ≡ 0) → HoldsRemainders L f l 0
  remainders_none z = record { at = λ w h. z w ∙ sym (ap (λ (x : ℕ). x % 25) (weighted_zero L f w)) }

-- a remainder with a share more, where the cell is of its word
abbrev next : Bool → ℕ → ℕ → ℕ
next b r x = cond b ((r + x) % 25) r

-- one cell more is taken in
pub remainders_more : (s : Shape) (f : Field) (i v : ℕ) (x : Spot) (l after : List ℕ) → HoldsRemainders (layout_of s) f l i
    → SpotOf s i x → v ≡ f i → LevelTaken l after x v → HoldsRemainders (layout_of s) f after (i + 1)
unfolding is_of
remainders_more s f i v x l after before spot e taken =
    record { at = λ w h. taken.at w ∙ here w ∙ step w h (is_of (layout_of s) w i) refl }
  where
    here : (w : ℕ) → next (x.inside && eqb x.word w) (get_or l w 0) (multiplier x.slot * v)
        ≡ next (is_of (layout_of s) w i) (get_or l w 0) (multiplier (slot (layout_of s) i) * f i)
    here w = rw (spot.inside, spot.word, spot.slot, e) refl

    step : (w : ℕ) → w < max_words → (b : Bool) → is_of (layout_of s) w i ≡ b
        → next (is_of (layout_of s) w i) (get_or l w 0) (multiplier (slot (layout_of s) i) * f i)
        ≡ weighted (layout_of s) f w (i + 1) % 25
    step w h true p =
        ap (λ (b : Bool). next b (get_or l w 0) (multiplier (slot (layout_of s) i) * f i)) p
        ∙ ap (λ (y : ℕ). (y + multiplier (slot (layout_of s) i) * f i) % 25) (before.at w h)
        ∙ sym (remainder_own (layout_of s) f w i p)
    step w h false p =
        ap (λ (b : Bool). next b (get_or l w 0) (multiplier (slot (layout_of s) i) * f i)) p
        ∙ before.at w h
        ∙ sym (remainder_other (layout_of s) f w i p)

abbrev or_zero : Bool → ℕ → ℕ
or_zero b v = cond b v 0

-- a cell, from the array of the remainders of the whole field
module _ (s : Shape) (f : Field) (l : List ℕ) (held : HoldsRemainders (layout_of s) f l (cells_of s))
    (i : ℕ) (x : Spot) (spot : SpotOf s i x) where
  -- the change of a cell of a word, and of an ignored cell
  change_in : in_word (layout_of s) i ≡ true → change_of l x ≡ change_at (layout_of s) f i
  unfolding change_of change_at remainder
  change_in e =
      let t : x.inside ≡ true = spot.inside ∙ e in
      ap (λ (b : Bool). cond b (change (get_or l x.word 0) x.slot) 1) t
      ∙ ap₂ change
      (held.at x.word (spot.below t) ∙ ap (λ (w : ℕ). weighted (layout_of s) f w (cells_of s) % 25) spot.word)
      spot.slot

  change_out : in_word (layout_of s) i ≡ false → change_of l x ≡ 1
  unfolding change_of
  change_out e = ap (λ (b : Bool). cond b (change (get_or l x.word 0) x.slot) 1) (spot.inside ∙ e)

  -- the test of the cell
  fits_own : f i ≤ max_level → restores (f i) (change_of l x) ≡ fits (layout_of s) f i
  unfolding fits restores is_level
  fits_own q = go (in_word (layout_of s) i) refl
    where
      go : (b : Bool) → in_word (layout_of s) i ≡ b
          → (leb (change_of l x) (f i + 1) && leb (f i + 1 - change_of l x) max_level)
          ≡ (not (in_word (layout_of s) i) || restores (f i) (change_at (layout_of s) f i))
      go true p = rw (p, change_in p) refl
      go false p =
          rw (p, change_out p)
          (and_true (leb 1 (f i + 1)) (leb (f i + 1 - 1) max_level)
          (le-leb 1 (f i + 1) (omega arith)) (le-leb (f i + 1 - 1) max_level (omega arith)))

  pub fits_is : f i ≤ max_level → (u : ℕ) → u ≡ change_of l x → (r : Bool) → r ≡ restores (f i) u → r ≡ fits (layout_of s) f i
  fits_is q u e r p = p ∙ ap (restores (f i)) e ∙ fits_own q

  -- its corrected value
  pub restored_is : (u : ℕ) → u ≡ change_of l x → (y : ℕ) → y ≡ cond x.inside (restored (f i) u) 0
      → y ≡ corrected_levels (layout_of s) f i
  unfolding corrected_levels
  restored_is u c y q =
      q ∙ ap₂ (λ (b : Bool) (z : ℕ). or_zero b (restored (f i) z)) spot.inside c ∙ go (in_word (layout_of s) i) refl
    where
      go : (b : Bool) → in_word (layout_of s) i ≡ b
          → or_zero (in_word (layout_of s) i) (restored (f i) (change_of l x))
          ≡ or_zero (in_word (layout_of s) i) (restored (f i) (change_at (layout_of s) f i))
      go true p = ap (λ (z : ℕ). or_zero (in_word (layout_of s) i) (restored (f i) z)) (change_in p)
      go false p = rw p refl

  -- the same, from a value that the cell has
  pub restored_from : (v : ℕ) → v ≡ f i → (u : ℕ) → u ≡ change_of l x → (y : ℕ) → y ≡ cond x.inside (restored v u) 0
      → y ≡ corrected_levels (layout_of s) f i
  restored_from v e u c y q = restored_is u c y (q ∙ ap (λ (a : ℕ). or_zero x.inside (restored a u)) e)
