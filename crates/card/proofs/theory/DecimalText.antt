-- A number in decimal with no needless leading zero: its width.
use Prim.Native.Nat.{ℕ, zero, suc, ◌^◌, ◌<◌, ◌≤◌}
use mathlib.Core.Bool.{Bool, true, false, cond}
use mathlib.Core.Logic.{◌⊎◌, inl, inr, ⊎_elim}
use mathlib.Core.Path.{◌≡◌, refl}
use native.Mathlib.Decide.{dec_lt}
use native.Mathlib.Nat.{le_trans, pow-le-pow_right}
use native.Mathlib.Omega.{arith}
use borrow.Author.Tests.{lt-ltb, le-ltb}
use lib.Dec.{ltb, lit≤}
use lib.ListN.{length}
use Rattle.card.specs.Text.{digit_count, decimal}
use Rattle.card.proofs.theory.Digits.{length_digits}

-- n is written with k + 1 digits, of at most five
pub record Wide (n k : ℕ) : Type 0 where
  pub most : k ≤ 4
  pub below : n < 10 ^ suc k
  pub least : (k ≡ 0) ⊎ (10 ^ k ≤ n)

-- the width is that number of digits
pub wide_width : (n k : ℕ) → Wide n k → digit_count n ≡ suc k
unfolding digit_count
wide_width n zero x = rw (lt-ltb n 10 x.below)
wide_width n (suc k) x =
    ⊎_elim (λ (e : suc k ≡ 0). absurd (omega arith)) (λ (l : 10 ^ suc k ≤ n). go k x.most x.below l) x.least
  where
    go : (k : ℕ) → suc k ≤ 4 → n < 10 ^ suc (suc k) → 10 ^ suc k ≤ n → digit_count n ≡ suc (suc k)
    go zero m b l = rw (le-ltb n 10 l, lt-ltb n 100 b)
    go (suc zero) m b l = rw (le-ltb n 10 (omega arith), le-ltb n 100 l, lt-ltb n 1000 b)
    go (suc (suc zero)) m b l = rw (le-ltb n 10 (omega arith), le-ltb n 100 (omega arith), le-ltb n 1000 l, lt-ltb n 10000 b)
    go (suc (suc (suc zero))) m b l =
        rw (le-ltb n 10 (omega arith), le-ltb n 100 (omega arith), le-ltb n 1000 (omega arith), le-ltb n 10000 l)
    go (suc (suc (suc (suc k)))) m b l = absurd (omega arith)

-- every number below 100,000 has a width
pub wide : (n : ℕ) → n < 100000 → (k : ℕ) × Wide n k
wide n small = go (dec_lt n 10) (dec_lt n 100) (dec_lt n 1000) (dec_lt n 10000)
  where
    go : Dec (n < 10) → Dec (n < 100) → Dec (n < 1000) → Dec (n < 10000) → (k : ℕ) × Wide n k
    go (yes p) q r t = (0, record { most = omega arith; below = p; least = inl refl })
    go (no p) (yes q) r t = (1, record { most = omega arith; below = q; least = inr (omega arith) })
    go (no p) (no q) (yes r) t = (2, record { most = omega arith; below = r; least = inr (omega arith) })
    go (no p) (no q) (no r) (yes t) = (3, record { most = omega arith; below = t; least = inr (omega arith) })
    go (no p) (no q) (no r) (no t) = (4, record { most = omega arith; below = small; least = inr (omega arith) })

-- the width is the length, from 1 to 5
pub length_decimal : (n : ℕ) → length (decimal n) ≡ digit_count n
unfolding decimal
length_decimal n = length_digits (digit_count n) n

pub digit_count_range : (n : ℕ) → (1 ≤ digit_count n) × (digit_count n ≤ 5)
unfolding digit_count
digit_count_range n = go (ltb n 10) (ltb n 100) (ltb n 1000) (ltb n 10000)
  where
    go : (a b c d : Bool) → let k : ℕ = cond a 1 (cond b 2 (cond c 3 (cond d 4 5))) in (1 ≤ k) × (k ≤ 5)
    go true b c d = omega arith
    go false true c d = omega arith
    go false false true d = omega arith
    go false false false true = omega arith
    go false false false false = omega arith

pub wide_small : (n k : ℕ) → Wide n k → n < 100000
wide_small n k x = le_trans x.below (pow-le-pow_right (lit≤ tt) {j = 5} (omega arith))

-- small numbers have few digits
pub digit_count_one : (n : ℕ) → n < 10 → digit_count n ≤ 1
unfolding digit_count
digit_count_one n l = rw (lt-ltb n 10 l) (omega arith)

pub digit_count_two : (n : ℕ) → n < 100 → digit_count n ≤ 2
unfolding digit_count
digit_count_two n l = rw (lt-ltb n 100 l) (go (ltb n 10))
  where
    go : (b : Bool) → cond b 1 2 ≤ 2
    go true = omega arith
    go false = omega arith

pub digit_count_three : (n : ℕ) → n < 1000 → digit_count n ≤ 3
unfolding digit_count
digit_count_three n l = rw (lt-ltb n 1000 l) (go (ltb n 10) (ltb n 100))
  where
    go : (a b : Bool) → cond a 1 (cond b 2 3) ≤ 3
    go true b = omega arith
    go false true = omega arith
    go false false = omega arith
