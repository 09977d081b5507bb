-- Remainders: numbers with one remainder differ by a multiple, and the remainder of a difference.
use Prim.Native.Nat.{ℕ, zero, suc, ◌+◌, ◌-◌, ◌*◌, ◌/◌, ◌%◌, ◌<◌, ◌≤◌}
use mathlib.Core.Path.{◌≡◌, refl, sym, ◌∙◌, ap, ap₂}
use native.Mathlib.Nat.{mul_comm, mul-sub, add-mod, mod-add-div, mod-lt, add-mul-mod_self_left, mod-add-mod, mod-eq_of_lt}
use native.Mathlib.Nat.{lt_of_not-le}
use native.Mathlib.Decide.{dec_le}
use native.Mathlib.Omega.{arith}
use lib.Dec.{lit<}
use Rattle.lattice.specs.Class.{minus_mod}

-- numbers that differ by a multiple of m have one remainder
pub mod_of_add : (a j m : ℕ) → (a + j * m) % m ≡ a % m
mod_of_add a j m = ap (λ (n : ℕ). (a + n) % m) (mul_comm j m) ∙ add-mul-mod_self_left a m j

-- of two numbers with one remainder the larger is the smaller and a multiple of m
pub multiple_between : (a b m : ℕ) → a ≤ b → a % m ≡ b % m → (j : ℕ) × (b ≡ a + j * m)
multiple_between a b m l e = (b / m - a / m, omega (arith, mod-add-div a m, mod-add-div b m, mul-sub m (b / m) (a / m), le))
  where
    le : m * (a / m) ≤ m * (b / m)
    le = omega (arith, mod-add-div a m, mod-add-div b m)

-- so two that are less than m apart are equal
pub near_remainder : (a b m : ℕ) → a ≤ b → b < a + m → a % m ≡ b % m → a ≡ b
near_remainder a b m l near e = let between = multiple_between a b m l e in go between.0 between.1
  where
    go : (j : ℕ) → b ≡ a + j * m → a ≡ b
    go zero q = omega arith
    go (suc j) q = absurd (omega arith)

-- every number is a multiple of 1
pub remainder_one : (n : ℕ) → n % 1 ≡ 0
remainder_one n = let less : n % 1 < 1 = mod-lt n (lit< tt) in omega arith

-- sums of numbers with equal remainders have equal remainders
pub add_same : (a b c d m : ℕ) → a % m ≡ b % m → c % m ≡ d % m → (a + c) % m ≡ (b + d) % m
add_same a b c d m p q = add-mod a c m ∙ ap₂ (λ (x y : ℕ). (x + y) % m) p q ∙ sym (add-mod b d m)

-- a summand may be taken away on both sides
pub cancel_same : (a b c m : ℕ) → (a + c) % m ≡ (b + c) % m → a % m ≡ b % m
cancel_same a b c m e = go (dec_le a b)
  where
    up : (x y : ℕ) → x ≤ y → (x + c) % m ≡ (y + c) % m → x % m ≡ y % m
    up x y l q =
        let between : (j : ℕ) × (y + c ≡ x + c + j * m) = multiple_between (x + c) (y + c) m (omega arith) q in
        let less : y ≡ x + between.0 * m = omega (arith, between.1) in
        sym (ap (λ (n : ℕ). n % m) less ∙ mod_of_add x between.0 m)

    go : Dec (a ≤ b) → a % m ≡ b % m
    go (yes l) = up a b l e
    go (no l) = sym (up b a (omega (arith, lt_of_not-le l)) (sym e))

module _ (m : ℕ) (some : 0 < m) where
  -- the remainder of a difference is below m
  pub minus_below : (a z : ℕ) → minus_mod a z m < m
  unfolding minus_mod
  minus_below a z = mod-lt (a + (m - z % m)) some

  -- with what was taken away put back it is a again, but for multiples of m
  pub minus_adds : (a z : ℕ) → (minus_mod a z m + z) % m ≡ a % m
  unfolding minus_mod
  minus_adds a z =
      mod-add-mod (a + (m - z % m)) m z
      ∙ ap (λ (n : ℕ). n % m) whole
      ∙ mod_of_add a (1 + z / m) m
    where
      whole : a + (m - z % m) + z ≡ a + (1 + z / m) * m
      whole = omega (arith, mod-add-div z m, mod-lt z some)

  -- and it is the only number below m of which that is so
  pub minus_only : (a z r : ℕ) → r < m → (r + z) % m ≡ a % m → r ≡ minus_mod a z m
  minus_only a z r l e =
      sym (mod-eq_of_lt l)
      ∙ cancel_same r (minus_mod a z m) z m (e ∙ sym (minus_adds a z))
      ∙ mod-eq_of_lt (minus_below a z)

  -- two differences leave one remainder where the sums crosswise do
  pub minus_same : (a z a' z' : ℕ) → (a + z') % m ≡ (a' + z) % m → minus_mod a z m ≡ minus_mod a' z' m
  minus_same a z a' z' e =
      minus_only a' z' (minus_mod a z m) (minus_below a z)
      (cancel_same (minus_mod a z m + z') a' z m
      (ap (λ (n : ℕ). n % m) (omega arith) ∙ add_same (minus_mod a z m + z) a z' z' m (minus_adds a z) refl ∙ e))
