-- The library's test of a power of two, that one bit is set, is the definition's; and how many bits a number of 32 bits has.
use Prim.Native.Nat.{ℕ, zero, suc, ◌+◌, ◌-◌, ◌/◌, ◌%◌, ◌^◌, ◌<◌, ◌≤◌}
use mathlib.Core.Bool.{Bool, true, false}
use mathlib.Core.Path.{◌≡◌, refl, sym, ap, ◌∙◌}
use native.Mathlib.Decide.{ℕ_discrete, dec_lt}
use native.Mathlib.Nat.{le_refl}
use native.Mathlib.Omega.{arith}
use borrow.Author.Tests.{eqb-true, eq-eqb}
use lib.Pow.{pow_mono}
use lib.Count.{ones, ones_step}
use Rattle.std.specs.Int.{is_power_of_two}
use Rattle.std.specs.Prelude.{count_ones}
use Rattle.std.proofs.lemmas.Nat.{ones_le_self, zero_from_ones}
use Rattle.lattice.specs.Check.{is_power, checks}
use Rattle.lattice.proofs.theory.BitLength.{Top, top_of}
use Rattle.lattice.proofs.theory.Powers.{power, exponent}

-- a number of at most d with one bit set is a power of two
one_bit : (d n : ℕ) → n ≤ d → count_ones n ≡ 1 → (k : ℕ) × (2 ^ k ≡ n)
one_bit zero n few one = absurd (omega (arith, ones_le_self n))
one_bit (suc d) n few one =
    go (ℕ_discrete (n % 2) 1) (λ half. one_bit d (n / 2) (omega (arith, ones_le_self n)) half)
  where
    step : count_ones n ≡ n % 2 + count_ones (n / 2)
    step = ones_step n

    go : Dec (n % 2 ≡ 1) → (count_ones (n / 2) ≡ 1 → (k : ℕ) × (2 ^ k ≡ n / 2)) → (k : ℕ) × (2 ^ k ≡ n)
    go (yes odd) rest =
        let half : n / 2 ≡ 0 = zero_from_ones (n / 2) (omega (arith, step)) in
        (0, omega arith)
    go (no even) rest =
        let found : (k : ℕ) × (2 ^ k ≡ n / 2) = rest (omega (arith, step)) in
        (suc found.0, omega (arith, found.1))

-- and a power of two has one bit set
power_bit : (k : ℕ) → count_ones (2 ^ k) ≡ 1
unfolding ones
power_bit zero = refl
power_bit (suc k) =
    let half : 2 ^ suc k / 2 ≡ 2 ^ k = omega arith in
    ones_step (2 ^ suc k) ∙ omega (arith, ap count_ones half, power_bit k)

pub power_test : (p : ℕ) → is_power_of_two p ≡ is_power p
power_test p = same (is_power_of_two p) (is_power p)
    (λ one. let found : (k : ℕ) × (2 ^ k ≡ p) = one_bit p p (le_refl p) (eqb-true _ _ one) in
    ap is_power (sym found.1) ∙ power found.0)
    (λ yes. let found : (k : ℕ) × (2 ^ k ≡ p) = exponent p yes in eq-eqb _ _ (ap count_ones (sym found.1) ∙ power_bit found.0))
  where
    same : (a b : Bool) → (a ≡ true → b ≡ true) → (b ≡ true → a ≡ true) → a ≡ b
    same true b f g = sym (f refl)
    same false true f g = g refl
    same false false f g = refl

-- a number of 32 bits, of at least 1, and the number of its bits
module _ (p k : ℕ) (few : p < 2 ^ 32) (some : p ≡ 0 → ⊥) (e : k ≡ checks p) where
  top : Top p
  top = top_of p (omega arith)

  pub bits_some : 1 ≤ k
  bits_some = omega (arith, top.number)

  pub bits_few : k - 1 < 32
  bits_few = go (dec_lt top.top 32)
    where
      go : Dec (top.top < 32) → k - 1 < 32
      go (yes l) = omega (arith, top.number)
      go (no l) = let h : 32 ≤ top.top = omega arith in absurd (omega (arith, pow_mono h, top.low))
