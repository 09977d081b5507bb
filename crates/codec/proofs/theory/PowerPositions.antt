-- The check cells of a class stand at the positions that are powers of two.
use Prim.Native.Nat.{ℕ, zero, suc, ◌-◌, ◌^◌, ◌<◌, ◌≤◌}
use mathlib.Core.Bool.{true, false, not}
use mathlib.Core.Logic.{◌↔◌}
use mathlib.Core.Path.{◌≡◌, ap, subst}
use native.Mathlib.Omega.{arith}
use lib.Pow.{pow_pos, pow_mono}
use borrow.Author.Tests.{not-false}
use Rattle.lattice.specs.Position.{Layout, size, position}
use Rattle.lattice.specs.Check.{is_power, is_check, checks, holds_data}
use Rattle.lattice.proofs.theory.Powers.{power, exponent}
use Rattle.lattice.proofs.theorems.Capacity.{checks_are_bit_length}
use Rattle.lattice.proofs.theory.Positions.{position_some}

-- the numbers that pass the test are 2 to the power of some k
power_iff : (p : ℕ) → (is_power p ≡ true) ↔ ((k : ℕ) × (2 ^ k ≡ p))
power_iff p = (exponent p, λ r. subst (λ (q : ℕ). is_power q ≡ true) r.1 (power r.0))

-- a class of n cells has checks at 2^0 .. 2^(c − 1), where c is `checks n`: n is below 2^c
pub below_checks : (n : ℕ) → n < 2 ^ checks n
below_checks zero = pow_pos (checks 0)
below_checks (suc n) = (checks_are_bit_length.some (suc n) (omega arith)).2

check_fits : (n k : ℕ) → k < checks n → 2 ^ k ≤ n
check_fits zero k l = absurd (omega (arith, checks_are_bit_length.none))
check_fits (suc n) k l =
    let h = checks_are_bit_length.some (suc n) (omega arith) in
    let m : k ≤ checks (suc n) - 1 = omega arith in
    omega (arith, h.1, pow_mono m)

module _ (L : Layout) where
  -- the cells that hold a check are those whose position is a power of two
  pub check_exponent : (i : ℕ) → holds_data L i ≡ false → (k : ℕ) × (2 ^ k ≡ position L i)
  unfolding holds_data is_check
  check_exponent i e = exponent (position L i) (not-false (is_power (position L i)) e)

  pub check_power : (i k : ℕ) → 2 ^ k ≡ position L i → holds_data L i ≡ false
  unfolding holds_data is_check
  check_power i k e = ap not ((power_iff (position L i)).1 (k, e))

  -- each of the class's check positions is a cell's
  pub check_cell : (a k : ℕ) → k < checks (size L a) → (i : ℕ) × (i < L.cells) × (L.class i ≡ a) × (position L i ≡ 2 ^ k)
  check_cell a k l = position_some L a L.cells (2 ^ k) (pow_pos k) (check_fits (size L a) k l)
