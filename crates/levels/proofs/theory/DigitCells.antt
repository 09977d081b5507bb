-- The cells that hold digits, for any layout of cells in classes.
use Prim.Native.Nat.{ℕ, ◌<◌}
use mathlib.Core.Bool.{Bool, true, false, not, true≢false}
use mathlib.Core.List.{List}
use mathlib.Core.Logic.{◌≢◌}
use mathlib.Core.Path.{◌≡◌, refl, sym, ap, ◌∙◌}
use native.Mathlib.Omega.{arith}
use lib.Dec.{eqb}
use lib.ListN.{get_or}
use borrow.Author.Tests.{eq-eqb, ne_eqb, eqb-true, eqb-false}
use Rattle.lattice.specs.Counting.{count}
use Rattle.lattice.specs.Position.{Layout}
use Rattle.lattice.proofs.theory.Bools.{and_true, and_left, and_right}
use Rattle.lattice.specs.Digits.{digits_below}
use Rattle.levels.specs.Words.{slot, in_word}
use Rattle.levels.specs.Payload.{holds_digit, digit_rank, digit_field}
use Rattle.levels.proofs.theory.WordCells.{places_count}

-- a cell holds a digit, or is the check of its word, or is ignored
pub data Kind (L : Layout) (i : ℕ) : Type 0 where
  digit : holds_digit L i ≡ true → Kind L i
  check : in_word L i ≡ true → slot L i ≡ 0 → Kind L i
  ignored : in_word L i ≢ true → Kind L i

module _ (L : Layout) where
  pub digit_in : (i : ℕ) → holds_digit L i ≡ true → in_word L i ≡ true
  unfolding holds_digit
  digit_in i e = and_left _ _ e

  pub digit_slot : (i : ℕ) → holds_digit L i ≡ true → slot L i ≢ 0
  unfolding holds_digit
  digit_slot i e z =
      true≢false (sym (and_right (in_word L i) _ e) ∙ ap not (eq-eqb (slot L i) 0 z))

  pub in_digit : (i : ℕ) → in_word L i ≡ true → slot L i ≢ 0 → holds_digit L i ≡ true
  unfolding holds_digit
  in_digit i e d = and_true _ _ e (ap not (ne_eqb (slot L i) 0 d))

  pub check_none : (i : ℕ) → slot L i ≡ 0 → holds_digit L i ≡ false
  check_none i z = go (holds_digit L i) refl
    where
      go : (b : Bool) → holds_digit L i ≡ b → holds_digit L i ≡ false
      go true e = absurd (digit_slot i e z)
      go false e = e

  pub ignored_none : (i : ℕ) → in_word L i ≢ true → holds_digit L i ≡ false
  ignored_none i d = go (holds_digit L i) refl
    where
      go : (b : Bool) → holds_digit L i ≡ b → holds_digit L i ≡ false
      go true e = absurd (d (digit_in i e))
      go false e = e

  pub kind : (i : ℕ) → Kind L i
  kind i = go (in_word L i) (eqb (slot L i) 0) refl refl
    where
      go : (a b : Bool) → in_word L i ≡ a → eqb (slot L i) 0 ≡ b → Kind L i
      go true true p q = check p (eqb-true _ 0 q)
      go true false p q = digit (in_digit i p (eqb-false _ 0 q))
      go false b p q = ignored (λ h. true≢false (sym h ∙ p))

  -- as many cells hold a digit as there are digits: five in each word
  pub digits_count : (m : ℕ) → ((i : ℕ) → i < L.cells → L.class i < m) → count (holds_digit L) L.cells ≡ digits_below L m
  unfolding holds_digit digits_below
  digits_count m below = places_count L (λ k. not (eqb k 0)) m below ∙ omega (arith, five)
    where
      five : count (λ k. not (eqb k 0)) 6 ≡ 5
      five = refl

  -- the field of the digits alone
  pub digit_value : (p : List ℕ) (i : ℕ) → holds_digit L i ≡ true → digit_field L p i ≡ get_or p (digit_rank L i) 0
  unfolding digit_field
  digit_value p i e = rw e

  pub digit_zero : (p : List ℕ) (i : ℕ) → holds_digit L i ≡ false → digit_field L p i ≡ 0
  unfolding digit_field
  digit_zero p i e = rw e
