-- The powers of two, and how many of them there are up to a number.
use Prim.Native.Nat.{ℕ, zero, suc, ◌+◌, ◌-◌, ◌^◌, ◌<◌, ◌≤◌}
use mathlib.Core.Bool.{Bool, true, false, false≢true}
use mathlib.Core.Logic.{⊎_elim}
use mathlib.Core.Path.{◌≡◌, refl, sym, ap, ◌∙◌}
use native.Mathlib.Decide.{dec_lt}
use native.Mathlib.Nat.{le_refl, not-suc-le-zero, eq-or-lt_of_le, le_of_suc-le-suc}
use native.Mathlib.Omega.{arith}
use lib.Dec.{eqb}
use lib.Pow.{pow_mono}
use borrow.Author.Tests.{eq-eqb, eqb-true}
use Rattle.lattice.specs.Check.{is_power, checks}
use Rattle.lattice.specs.Counting.{any_below}
use Rattle.lattice.proofs.theory.Bools.{or_true_left, or_true_right, or_cases, not_true}
use Rattle.lattice.proofs.theory.Counting.{count_yes, count_no, count_most, count_mono}

-- some number below n passes the test: from a witness, and back
pub any_below_lem : (f : ℕ → Bool) (i n : ℕ) → i < n → f i ≡ true → any_below f n ≡ true
any_below_lem f i zero l p = absurd (not-suc-le-zero l)
any_below_lem f i (suc n) l p =
    ⊎_elim
    (λ (e : i ≡ n). or_true_left (f n) (any_below f n) (ap f (sym e) ∙ p))
    (λ (r : i < n). or_true_right (f n) (any_below f n) (any_below_lem f i n r p))
    (eq-or-lt_of_le (le_of_suc-le-suc l))

pub below_any : (f : ℕ → Bool) (n : ℕ) → any_below f n ≡ true → (i : ℕ) × (i < n) × (f i ≡ true)
below_any f zero p = absurd (false≢true p)
below_any f (suc n) p =
    ⊎_elim
    {C = (i : ℕ) × (i < suc n) × (f i ≡ true)}
    (λ (e : f n ≡ true). (n, le_refl _, e))
    (λ (e : any_below f n ≡ true). let r = below_any f n e in (r.0, omega (arith, r.1), r.2))
    (or_cases (f n) (any_below f n) p)

-- k is below 2 to the power of k
below_power : (k : ℕ) → k < 2 ^ k
below_power zero = omega arith
below_power (suc k) = omega (arith, below_power k)

-- the powers of two pass the test, and only they do
pub power : (k : ℕ) → is_power (2 ^ k) ≡ true
unfolding is_power
power k = any_below_lem (λ j. eqb (2 ^ j) (2 ^ k)) k (2 ^ k) (below_power k) (eq-eqb (2 ^ k) (2 ^ k) refl)

pub exponent : (p : ℕ) → is_power p ≡ true → (k : ℕ) × (2 ^ k ≡ p)
unfolding is_power
exponent p e = let r = below_any (λ j. eqb (2 ^ j) p) p e in (r.0, eqb-true (2 ^ r.0) p r.2)

-- between 2^j and 2^(j + 1) there is no power of two
pub between : (j p : ℕ) → 2 ^ j < p → p < 2 ^ suc j → is_power p ≡ false
between j p l u = not_true (is_power p) (λ e. apart (exponent p e))
  where
    apart : (k : ℕ) × (2 ^ k ≡ p) → ⊥
    apart r = go (dec_lt j r.0)
      where
        go : Dec (j < r.0) → ⊥
        go (yes g) = omega (arith, r.1, pow_mono g)
        go (no g) = let h : r.0 ≤ j = omega arith in omega (arith, r.1, pow_mono h)

-- one more check at each power of two
pub checks_power : (n : ℕ) → is_power (n + 1) ≡ true → checks (n + 1) ≡ checks n + 1
unfolding checks
checks_power n e = count_yes (λ i. is_power (i + 1)) n e

pub checks_other : (n : ℕ) → is_power (n + 1) ≡ false → checks (n + 1) ≡ checks n
unfolding checks
checks_other n e = count_no (λ i. is_power (i + 1)) n e

pub checks_most : (n : ℕ) → checks n ≤ n
unfolding checks
checks_most n = count_most (λ i. is_power (i + 1)) n

-- no fewer up to a greater number
checks_mono : (i n : ℕ) → i ≤ n → checks i ≤ checks n
unfolding checks
checks_mono i n l = count_mono (λ k. is_power (k + 1)) i n l

-- where two numbers have as many, none stands between
pub no_power : (low high k : ℕ) → checks low ≡ checks high → low < k → k ≤ high → is_power k ≡ false
no_power low high k same l r = not_true (is_power k) more
  where
    more : is_power k ≡ true → ⊥
    more e =
        let own : k - 1 + 1 ≡ k = omega arith in
        omega (
          arith,
          checks_power (k - 1) (ap is_power own ∙ e),
          ap checks own,
          checks_mono low (k - 1) (omega arith),
          checks_mono k high r,
        )
