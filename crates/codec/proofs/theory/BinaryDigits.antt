-- A number by its binary digits: bit k of x is `x / 2 ^ k % 2`.
use Prim.Native.Nat.{ℕ, zero, suc, ◌+◌, ◌-◌, ◌/◌, ◌%◌, ◌^◌, ◌<◌}
use mathlib.Core.Path.{◌≡◌, sym, ap, ◌∙◌}
use native.Mathlib.Decide.{dec_lt}
use native.Mathlib.Nat.{div-eq_of_lt, div_self}
use native.Mathlib.Omega.{arith}
use lib.Arith.{lt-one}
use lib.Bits.{bit_xor, xor_shr, xor_mod, xor_zero_r}
use lib.Pow.{pow_pos, pow-lt, pow-add, shr-shr, shl-shr}

-- bit k + 1 is bit k of the half
pub half_bit : (x k : ℕ) → x / 2 ^ suc k ≡ x / 2 / 2 ^ k
half_bit x k = ap (λ (j : ℕ). x / 2 ^ j) (omega arith) ∙ sym (shr-shr x 1 k)

-- two numbers below 2^c with the same c bits are equal
pub bits_same : (c x y : ℕ) → x < 2 ^ c → y < 2 ^ c → ((k : ℕ) → k < c → x / 2 ^ k % 2 ≡ y / 2 ^ k % 2) → x ≡ y
bits_same zero x y p q e = lt-one p ∙ sym (lt-one q)
bits_same (suc c) x y p q e =
    let h = bits_same c (x / 2) (y / 2) (omega arith) (omega arith) (λ k l. half k (e (suc k) (omega arith))) in
    omega (arith, e 0 (omega arith), h)
  where
    half : (k : ℕ) → x / 2 ^ suc k % 2 ≡ y / 2 ^ suc k % 2 → x / 2 / 2 ^ k % 2 ≡ y / 2 / 2 ^ k % 2
    half k d = rw (half_bit x k, half_bit y k) at d

-- bit k of the exclusive or is that of the bits
pub xor_bit : (x y k : ℕ) → bit_xor x y / 2 ^ k % 2 ≡ bit_xor (x / 2 ^ k % 2) (y / 2 ^ k % 2)
xor_bit x y k = ap (λ (z : ℕ). z % 2) (xor_shr x y k) ∙ xor_mod (x / 2 ^ k) (y / 2 ^ k) 1

pub xor_bit_left : (x y k : ℕ) → y / 2 ^ k % 2 ≡ 0 → bit_xor x y / 2 ^ k % 2 ≡ x / 2 ^ k % 2
xor_bit_left x y k e = xor_bit x y k ∙ ap (λ (z : ℕ). bit_xor (x / 2 ^ k % 2) z) e ∙ xor_zero_r (x / 2 ^ k % 2)

-- a number below 2^k has no bit k
pub bit_above : (x k : ℕ) → x < 2 ^ k → x / 2 ^ k % 2 ≡ 0
bit_above x k l = ap (λ (z : ℕ). z % 2) (div-eq_of_lt l)

-- 2^k has the bit k and no other
pub power_bit : (k : ℕ) → 2 ^ k / 2 ^ k % 2 ≡ 1
power_bit k = ap (λ (z : ℕ). z % 2) (div_self (pow_pos k))

pub power_bit_other : (j k : ℕ) → (j ≡ k → ⊥) → 2 ^ j / 2 ^ k % 2 ≡ 0
power_bit_other j k d = go (dec_lt j k)
  where
    higher : (e : ℕ) → j ≡ suc e + k → 2 ^ j / 2 ^ k % 2 ≡ 0
    higher e p =
        ap (λ (z : ℕ). z / 2 ^ k % 2) (ap (λ (z : ℕ). 2 ^ z) p ∙ pow-add 2 (suc e) k)
        ∙ ap (λ (z : ℕ). z % 2) (shl-shr (2 ^ suc e) k)
        ∙ omega arith

    go : Dec (j < k) → 2 ^ j / 2 ^ k % 2 ≡ 0
    go (yes l) = bit_above (2 ^ j) k (pow-lt l)
    go (no l) = higher (j - suc k) (omega arith)
