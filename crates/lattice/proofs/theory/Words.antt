-- Signed 32-bit numbers: integers of small absolute value fit, and are read back from their bits.
use Prim.Native.Nat.{ℕ, zero, suc, ◌+◌, ◌/◌, ◌%◌, ◌<◌, ◌≤◌}
use mathlib.Core.Path.{◌≡◌, refl, sym, ◌∙◌, ap}
use native.Mathlib.Nat.{div-le_self, mod-le, mul-le-mul}
use native.Mathlib.Omega.{arith}
use borrow.Author.Tests.{ne_eqb}
use lib.Dec.{eqb}
use lib.IntN.{ℤ, pos, negsuc, neg_ℤ, nat_abs, ◌+ℤ◌, ◌-ℤ◌, ◌*ℤ◌}
use lib.Signed.{mag, quot_z, rem_z}
use mir.Syntax.{w32}
use mir.Val.{SFits, of_z, to_z}
use mir.ValLaws.{to_z-of_z, to_z_pos}
use Rattle.lattice.proofs.theory.Integers.{nat_abs_neg, nat_abs_sub, nat_abs_mul}

abbrev pub limit : ℕ
limit = 2147483648

mag_nat_abs : (z : ℤ) → mag z ≤ nat_abs z
mag_nat_abs (pos n) = omega arith
mag_nat_abs (negsuc n) = omega arith

-- an integer of absolute value below 2³¹ fits
small_fits : (z : ℤ) → nat_abs z < limit → SFits w32 z
small_fits z h = record { sfits = omega (arith, mag_nat_abs z) }

-- an integer as it is read back from its bits
abbrev pub read : ℤ → ℤ
read z = to_z w32 (of_z w32 z)

pub read_back : (z : ℤ) → nat_abs z < limit → read z ≡ z
read_back z h = to_z-of_z w32 z (small_fits z h)

read_natural : (n : ℕ) → n < limit → to_z w32 n ≡ pos n
read_natural n h = to_z_pos w32 n h

-- the absolute value of a sum, of a difference and of a quotient
nat_abs_add : (z w : ℤ) → nat_abs (z +ℤ w) ≤ nat_abs z + nat_abs w
nat_abs_add (pos m) (pos n) = omega arith
nat_abs_add (pos m) (negsuc n) = omega (arith, nat_abs_sub m (suc n))
nat_abs_add (negsuc m) (pos n) = omega (arith, nat_abs_sub n (suc m))
nat_abs_add (negsuc m) (negsuc n) = omega arith

nat_abs_minus : (z w : ℤ) → nat_abs (z -ℤ w) ≤ nat_abs z + nat_abs w
nat_abs_minus z w = omega (arith, nat_abs_add z (neg_ℤ w), nat_abs_neg w)

nat_abs_quot : (z : ℤ) (n : ℕ) → nat_abs (quot_z z (pos n)) ≤ nat_abs z
nat_abs_quot (pos m) n = div-le_self m n
nat_abs_quot (negsuc m) n = omega (arith, nat_abs_neg (pos (suc m / n)), div-le_self (suc m) n)

-- the remainder is 0 exactly where it is 0 for the absolute value
rem_zero : (z : ℤ) (n : ℕ) → nat_abs z < limit → eqb (of_z w32 (rem_z z (pos n))) 0 ≡ eqb (nat_abs z % n) 0
rem_zero (pos m) n h = refl
rem_zero (negsuc m) n h = go (suc m % n) (omega (arith, mod-le (suc m) n))
  where
    go : (r : ℕ) → r < limit → eqb (of_z w32 (neg_ℤ (pos r))) 0 ≡ eqb r 0
    go zero h = refl
    go (suc r) h = ne_eqb (of_z w32 (negsuc r)) 0 (λ e. omega arith) ∙ sym (ne_eqb (suc r) 0 (λ e. omega arith))

-- what a call that gives z + n hands on, with z read back and the result read back once more
module _ (z : ℤ) (n : ℕ) (hz : nat_abs z < 64) (hn : n < 256) (r : ℤ) (e : r ≡ read z +ℤ pos n) where
  shifted_close : nat_abs r < 512
  shifted_close = omega (arith, ap nat_abs (e ∙ ap (λ y. y +ℤ pos n) (read_back z (omega arith))), nat_abs_add z (pos n))

  pub shifted_again : read r ≡ read z +ℤ pos n
  shifted_again = read_back r (omega (arith, shifted_close)) ∙ e

-- n × z, for a 16-bit number n
module _ (n : ℕ) (z : ℤ) (hn : n < 65536) (hz : nat_abs z < 512) where
  scaled_is : to_z w32 n *ℤ read z ≡ pos n *ℤ z
  scaled_is = rw (read_back z (omega arith), read_natural n (omega arith))

  scaled_few : nat_abs (pos n *ℤ z) < 33554432
  scaled_few =
      omega (
        arith,
        nat_abs_mul (pos n) z,
        mul-le-mul {n₁ = n} {m₁ = nat_abs z} {n₂ = 65535} {m₂ = 511} (omega arith) (omega arith),
      )

  pub scaled_fits : SFits w32 (to_z w32 n *ℤ read z)
  scaled_fits = rw scaled_is (small_fits (pos n *ℤ z) (omega (arith, scaled_few)))

  pub scaled_back : (read (to_z w32 n *ℤ read z) ≡ pos n *ℤ z) × (nat_abs (read (to_z w32 n *ℤ read z)) < 33554432)
  scaled_back = rw scaled_is (rw (read_back (pos n *ℤ z) (omega (arith, scaled_few))) (refl, scaled_few))

-- a difference of two numbers that are read back from their bits
difference_is : (x y : ℤ) → nat_abs x + nat_abs y < limit → read x -ℤ read y ≡ x -ℤ y
difference_is x y h = ap (λ u. u -ℤ read y) (read_back x (omega arith)) ∙ ap (λ u. x -ℤ u) (read_back y (omega arith))

-- x − y − z, and its remainder, with each number on the way read back from its bits
module _ (x y z : ℤ) (m : ℕ) (h : nat_abs x + nat_abs y + nat_abs z < limit) (hm : m < limit) where
  difference_back : read (read x -ℤ read y) ≡ x -ℤ y
  difference_back = ap read (difference_is x y (omega arith)) ∙ read_back (x -ℤ y) (omega (arith, nat_abs_minus x y))

  residue_is : read (read x -ℤ read y) -ℤ read z ≡ x -ℤ y -ℤ z
  residue_is = ap (λ u. u -ℤ read z) difference_back ∙ ap (λ u. x -ℤ y -ℤ u) (read_back z (omega arith))

  residue_few : nat_abs (x -ℤ y -ℤ z) < limit
  residue_few = omega (arith, nat_abs_minus (x -ℤ y) z, nat_abs_minus x y)

  residue_back : read (read (read x -ℤ read y) -ℤ read z) ≡ x -ℤ y -ℤ z
  residue_back = ap read residue_is ∙ read_back (x -ℤ y -ℤ z) residue_few

  pub residue_fits : SFits w32 (read (read x -ℤ read y) -ℤ read z)
  residue_fits = rw residue_is (small_fits (x -ℤ y -ℤ z) residue_few)

  pub residue_quot_fits : SFits w32 (quot_z (read (read (read x -ℤ read y) -ℤ read z)) (to_z w32 m))
  residue_quot_fits =
      rw (residue_back, read_natural m hm)
      (small_fits (quot_z (x -ℤ y -ℤ z) (pos m)) (omega (arith, nat_abs_quot (x -ℤ y -ℤ z) m, residue_few)))

  pub residue_rem : eqb (of_z w32 (rem_z (read (read (read x -ℤ read y) -ℤ read z)) (to_z w32 m))) 0
      ≡ eqb (nat_abs (x -ℤ y -ℤ z) % m) 0
  residue_rem = rw (residue_back, read_natural m hm) (rem_zero (x -ℤ y -ℤ z) m residue_few)
