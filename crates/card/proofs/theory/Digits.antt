-- Runs of decimal digits: their bytes, their value and how many follow one another.
use Prim.Native.Nat.{ℕ, zero, suc, ◌+◌, ◌/◌, ◌%◌, ◌^◌, ◌<◌, ◌≤◌}
use mathlib.Core.Bool.{Bool, true, false, cond}
use mathlib.Core.List.{List, [], ◌∷◌}
use mathlib.Core.Logic.{⊎_elim}
use mathlib.Core.Path.{◌≡◌, refl, sym, ap, ◌∙◌}
use native.Mathlib.Nat.{add-zero, pow-suc, not-suc-le-zero, le_refl, eq-or-lt_of_le, le_of_suc-le-suc}
use native.Mathlib.Omega.{arith}
use lib.ListN.{length, get_or, length-append}
use Rattle.lattice.proofs.theory.Limits.{in_range_lem, range_low, range_high}
use Rattle.card.specs.Text.{digits}
use Rattle.card.specs.Parse.{is_digit, digit_run, digits_value}
use Rattle.card.proofs.theory.StandsAt.{StandsAt, stands_left, stands_right, stands_both, stands_one, one_stands}

-- the k bytes from `at` are digits
abbrev pub DigitsAt : List ℕ → ℕ → ℕ → Type 0
DigitsAt s at k = (j : ℕ) → j < k → is_digit (get_or s (at + j) 0) ≡ true

-- the text of k digits has k bytes
pub length_digits : (k n : ℕ) → length (digits k n) ≡ k
length_digits zero n = refl
length_digits (suc k) n = length-append (digits k (n / 10)) _ ∙ omega (arith, length_digits k (n / 10))

last_digit : (s : List ℕ) (at k n : ℕ) → StandsAt (digits (suc k) n) s at → get_or s (at + k) 0 ≡ 48 + n % 10
last_digit s at k n p =
    rw (length_digits k (n / 10)) at (one_stands s _ _ (stands_right (digits k (n / 10)) ((48 + n % 10) ∷ []) s at p))

earlier_digits : (s : List ℕ) (at k n : ℕ) → StandsAt (digits (suc k) n) s at → StandsAt (digits k (n / 10)) s at
earlier_digits s at k n p = stands_left (digits k (n / 10)) ((48 + n % 10) ∷ []) s at p

-- the text of k digits: each is a digit, and their value is the number
pub digits_at : (s : List ℕ) (at k n : ℕ) → StandsAt (digits k n) s at → DigitsAt s at k
digits_at s at zero n p j l = absurd (not-suc-le-zero l)
digits_at s at (suc k) n p j l =
    ⊎_elim last (λ (m : j < k). digits_at s at k (n / 10) (earlier_digits s at k n p) j m) (eq-or-lt_of_le (le_of_suc-le-suc l))
  where
    last : j ≡ k → is_digit (get_or s (at + j) 0) ≡ true
    last e =
        let b : get_or s (at + j) 0 ≡ 48 + n % 10 = ap (λ (i : ℕ). get_or s (at + i) 0) e ∙ last_digit s at k n p in
        in_range_lem 48 57 (get_or s (at + j) 0) (omega arith) (omega arith)

pub value_digits : (s : List ℕ) (at k n : ℕ) → StandsAt (digits k n) s at → n < 10 ^ k → digits_value s at k ≡ n
value_digits s at zero n p l = omega arith
value_digits s at (suc k) n p l =
    omega (arith, value_digits s at k (n / 10) (earlier_digits s at k n p) (omega (arith, pow-suc 10 k)), last_digit s at k n p)

-- k digits: their value has at most k digits, and they are its text
fewer : (s : List ℕ) (at k : ℕ) → DigitsAt s at (suc k) → DigitsAt s at k
fewer s at k p j l = p j (omega arith)

pub value_below : (s : List ℕ) (at k : ℕ) → DigitsAt s at k → digits_value s at k < 10 ^ k
value_below s at zero p = le_refl 1
value_below s at (suc k) p =
    omega (arith, value_below s at k (fewer s at k p), pow-suc 10 k, range_high 48 57 (get_or s (at + k) 0) (p k (le_refl _)))

pub digits_value_lem : (s : List ℕ) (at k : ℕ) → DigitsAt s at k → StandsAt (digits k (digits_value s at k)) s at
digits_value_lem s at zero p = λ j l. absurd (not-suc-le-zero l)
digits_value_lem s at (suc k) p =
    let low = range_low 48 57 (get_or s (at + k) 0) (p k (le_refl _)) in
    let high = range_high 48 57 (get_or s (at + k) 0) (p k (le_refl _)) in
    let front : digits_value s at (suc k) / 10 ≡ digits_value s at k = omega arith in
    let back : 48 + digits_value s at (suc k) % 10 ≡ get_or s (at + k) 0 = omega arith in
    stands_both (digits k (digits_value s at (suc k) / 10)) ((48 + digits_value s at (suc k) % 10) ∷ []) s at
    (rw front (digits_value_lem s at k (fewer s at k p)))
    (stands_one s _ _ (rw (length_digits k (digits_value s at (suc k) / 10)) (sym back)))

-- k + 1 digits of which the first is 0 have a value of at most k digits, and others a greater one
pub leading_zero : (s : List ℕ) (at k : ℕ) → DigitsAt s at (suc k) → get_or s at 0 ≡ 48 → digits_value s at (suc k) < 10 ^ k
leading_zero s at zero p e = rw (add-zero at) (omega arith)
leading_zero s at (suc k) p e =
    omega (
      arith,
      leading_zero s at k (fewer s at (suc k) p) e,
      pow-suc 10 k,
      range_high 48 57 (get_or s (at + suc k) 0) (p (suc k) (le_refl _)),
    )

pub leading_other : (s : List ℕ) (at k : ℕ) → 48 < get_or s at 0 → 10 ^ k ≤ digits_value s at (suc k)
leading_other s at zero l = rw (add-zero at) (omega arith)
leading_other s at (suc k) l = omega (arith, leading_other s at k l, pow-suc 10 k)

later : (s : List ℕ) (at k : ℕ) → DigitsAt s at (suc k) → DigitsAt s (at + 1) k
later s at k p j l = let f : at + 1 + j ≡ at + suc j = omega arith in rw f (p (suc j) (omega arith))

-- a run counts digits
pub run_digits : (s : List ℕ) (at limit : ℕ) → DigitsAt s at (digit_run s at limit)
run_digits s at zero = λ j l. absurd (not-suc-le-zero l)
run_digits s at (suc limit) = go (is_digit (get_or s at 0)) refl (run_digits s (at + 1) limit)
  where
    go : (b : Bool) → is_digit (get_or s at 0) ≡ b → DigitsAt s (at + 1) (digit_run s (at + 1) limit)
        → DigitsAt s at (cond b (1 + digit_run s (at + 1) limit) 0)
    go true e p zero l = rw (add-zero at) e
    go true e p (suc j) l = let f : at + suc j ≡ at + 1 + j = omega arith in rw f (p j (omega arith))
    go false e p j l = absurd (not-suc-le-zero l)

pub digits_run : (s : List ℕ) (at k limit : ℕ)
    → DigitsAt s at k
    → is_digit (get_or s (at + k) 0) ≡ false
    → k ≤ limit
    → digit_run s at limit ≡ k
digits_run s at zero zero p e l = refl
digits_run s at (suc k) zero p e l = absurd (not-suc-le-zero l)
digits_run s at zero (suc limit) p e l = rw (rw (add-zero at) at e)
digits_run s at (suc k) (suc limit) p e l =
    let f : at + suc k ≡ at + 1 + k = omega arith in
    rw (rw (add-zero at) at (p 0 (omega arith)))
    (omega (arith, digits_run s (at + 1) k limit (later s at k p) (rw f at e) (omega arith)))
