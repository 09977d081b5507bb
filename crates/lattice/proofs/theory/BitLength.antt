-- The number of powers of two up to n is the bit length of n.
use Prim.Native.Nat.{ℕ, zero, suc, ◌+◌, ◌-◌, ◌^◌, ◌<◌, ◌≤◌}
use mathlib.Core.Logic.{⊎_elim}
use mathlib.Core.Path.{◌≡◌, refl, sym, ap, ◌∙◌}
use native.Mathlib.Decide.{dec_lt}
use native.Mathlib.Nat.{le_trans, eq-or-lt_of_le, not-suc-le-zero, zero-lt-suc}
use native.Mathlib.Numerals.{add-one}
use native.Mathlib.Omega.{arith}
use lib.Count.{count_leading_zeros, leading_of_zero, leading_top}
use lib.Pow.{pow_pos, pow_mono}
use Rattle.lattice.specs.Check.{checks, is_power}
use Rattle.lattice.proofs.theory.Powers.{power, between, checks_power, checks_other}

-- the highest power of two in n, and how many there are up to n
pub record Top (n : ℕ) : Type 0 where
  pub top : ℕ
  pub low : 2 ^ top ≤ n
  pub high : n < 2 ^ suc top
  pub number : checks n ≡ suc top

step : (n : ℕ) → Top n → Top (n + 1)
step n r =
    ⊎_elim
    (λ (e : suc n ≡ 2 ^ suc r.top).
    let h : n + 1 ≡ 2 ^ suc r.top = omega arith in
    record {
      top = suc r.top;
      low = omega arith;
      high = omega arith;
      number = checks_power n (ap is_power h ∙ power (suc r.top)) ∙ omega (arith, r.number);
    })
    (λ (l : suc n < 2 ^ suc r.top).
    record {
      top = r.top;
      low = omega (arith, r.low);
      high = omega arith;
      number = checks_other n (between r.top (n + 1) (omega (arith, r.low)) (omega arith)) ∙ r.number;
    })
    (eq-or-lt_of_le r.high)

-- every number of at least 1 has one
pub top_of : (n : ℕ) → 1 ≤ n → Top n
unfolding checks is_power
top_of zero p = absurd (not-suc-le-zero p)
top_of (suc zero) p = record { top = 0; low = omega arith; high = omega arith; number = refl }
top_of (suc (suc n)) p = rw (← (add-one (suc n))) (step (suc n) (top_of (suc n) (omega arith)))

-- and only one
one_top : (n i j : ℕ) → 2 ^ i ≤ n → n < 2 ^ suc i → 2 ^ j ≤ n → n < 2 ^ suc j → i ≡ j
one_top n i j a b c d = go (dec_lt i j) (dec_lt j i)
  where
    go : Dec (i < j) → Dec (j < i) → i ≡ j
    go (yes l) e = absurd (omega (arith, pow_mono l))
    go (no l) (yes r) = absurd (omega (arith, pow_mono r))
    go (no l) (no r) = omega arith

-- n, of at least 1, has j + 1 bits where 2^j ≤ n < 2^(j + 1)
pub bit_length : (n j : ℕ) → 2 ^ j ≤ n → n < 2 ^ suc j → checks n ≡ suc j
bit_length n j l u =
    let r = top_of n (le_trans (pow_pos j) l) in
    r.number ∙ ap suc (one_top n r.top j r.low r.high l u)

-- the code's form: 32 less the leading zeros of a number of 32 bits
pub checks_leading : (n : ℕ) → n < 2 ^ 32 → 32 - count_leading_zeros 32 n ≡ checks n
unfolding checks
checks_leading zero l = ap (λ (k : ℕ). 32 - k) (leading_of_zero 32)
checks_leading (suc n) l =
    let t = leading_top 32 (suc n) (zero-lt-suc n) l in
    omega (arith, t.1) ∙ sym (bit_length (suc n) t.0 t.2 t.3)
