-- Sums in which one term changes, the terms of a sum, and counts by groups of six.
use Prim.Native.Nat.{ℕ, zero, suc, ◌+◌, ◌-◌, ◌*◌, ◌/◌, ◌%◌, ◌<◌, ◌≤◌}
use mathlib.Core.Bool.{Bool, ◌&&◌}
use mathlib.Core.Logic.{◌≢◌}
use mathlib.Core.Path.{◌≡◌, sym, ap, ◌∙◌}
use native.Mathlib.Decide.{ℕ_discrete, dec_lt}
use native.Mathlib.Omega.{arith}
use lib.Dec.{leb}
use borrow.Author.Tests.{le-leb, lt-leb}
use Rattle.lattice.specs.Counting.{count, sum_below}
use Rattle.lattice.proofs.theory.Counting.{bit, count_step, count_same, sum_same}

-- a sum of n terms in which one changes
pub sum_changed : (f g : ℕ → ℕ) (k n : ℕ) → k < n → ((j : ℕ) → j < n → j ≢ k → f j ≡ g j)
    → sum_below f n + g k ≡ sum_below g n + f k
sum_changed f g k zero l p = absurd (omega (arith, l))
sum_changed f g k (suc n) l p = go (ℕ_discrete k n) (λ b. sum_changed f g k n b (λ j h. p j (omega (arith, h))))
  where
    go : Dec (k ≡ n) → (k < n → sum_below f n + g k ≡ sum_below g n + f k) → sum_below f (suc n) + g k ≡ sum_below g (suc n) + f k
    go (yes e) before =
        let z : sum_below f n ≡ sum_below g n =
        sum_same f g n (λ j b. p j (omega (arith, b)) (λ (h : j ≡ k). omega (arith, b, h, e))) in
        omega (arith, z, ap f e, ap g e)
    go (no e) before =
        let z : sum_below f n + g k ≡ sum_below g n + f k = before (omega (arith, l, e)) in
        omega (arith, z, p n (omega arith) (λ h. e (sym h)))

-- a sum goes up by its next term
pub sum_up : (f : ℕ → ℕ) (a b : ℕ) → a < b → sum_below f a + f a ≤ sum_below f b
sum_up f a zero l = absurd (omega (arith, l))
sum_up f a (suc b) l = go (ℕ_discrete a b) (λ h. sum_up f a b h)
  where
    go : Dec (a ≡ b) → (a < b → sum_below f a + f a ≤ sum_below f b) → sum_below f a + f a ≤ sum_below f (suc b)
    go (yes e) before = omega (arith, ap f e, ap (sum_below f) e)
    go (no e) before = omega (arith, before (omega (arith, l, e)))

-- a number below a sum lies in one of its terms
pub sum_reach : (f : ℕ → ℕ) (m w : ℕ) → w < sum_below f m → (a : ℕ) × (v : ℕ) × (a < m) × (v < f a) × (w ≡ sum_below f a + v)
sum_reach f zero w l = absurd (omega (arith, l))
sum_reach f (suc m) w l = go (dec_lt w (sum_below f m)) (sum_reach f m w)
  where
    go : Dec (w < sum_below f m) → (w < sum_below f m → (a : ℕ) × (v : ℕ) × (a < m) × (v < f a) × (w ≡ sum_below f a + v))
        → (a : ℕ) × (v : ℕ) × (a < suc m) × (v < f a) × (w ≡ sum_below f a + v)
    go (yes h) before = let r = before h in (r.0, r.1, omega (arith, r.2), r.3, r.4)
    go (no h) before = (m, w - sum_below f m, omega arith, omega (arith, l, h), omega (arith, h))

-- a test of the place in a group of six: as often in each group
module _ (T : ℕ → Bool) where
  six_more : (q : ℕ) → count (λ p. T (p % 6)) (6 * q + 6) ≡ count (λ p. T (p % 6)) (6 * q) + count T 6
  six_more q = go (6 * q) (λ j h. omega arith)
    where
      go : (b : ℕ) → ((j : ℕ) → j < 6 → (b + j) % 6 ≡ j)
          → count (λ p. T (p % 6)) (b + 6) ≡ count (λ p. T (p % 6)) b + count T 6
      go b e = steps 6 (omega arith)
        where
          steps : (j : ℕ) → j ≤ 6 → count (λ p. T (p % 6)) (b + j) ≡ count (λ p. T (p % 6)) b + count T j
          steps zero l = let same : b + 0 ≡ b = omega arith in ap (count (λ p. T (p % 6))) same ∙ omega arith
          steps (suc j) l =
              let next : b + suc j ≡ b + j + 1 = omega arith in
              ap (count (λ p. T (p % 6))) next
              ∙ count_step (λ p. T (p % 6)) (b + j)
              ∙ omega (arith, ap (λ (x : ℕ). bit (T x)) (e j (omega (arith, l))), steps j (omega (arith, l)))

  pub count_sixes : (q : ℕ) → count (λ p. T (p % 6)) (6 * q) ≡ q * count T 6
  count_sixes zero = omega arith
  count_sixes (suc q) =
      let next : 6 * suc q ≡ 6 * q + 6 = omega arith in
      ap (count (λ p. T (p % 6))) next ∙ six_more q ∙ omega (arith, count_sixes q)

  -- and not behind the last whole group
  whole : ℕ → ℕ → Bool
  whole q p = leb (p + 1) (q * 6) && T (p % 6)

  inside : (q m : ℕ) → m ≤ 6 * q → count (whole q) m ≡ count (λ p. T (p % 6)) m
  unfolding whole
  inside q m l = count_same _ _ m (λ i h. ap (λ (b : Bool). b && T (i % 6)) (le-leb (i + 1) (q * 6) (omega (arith, l, h))))

  past : (q m : ℕ) → 6 * q ≤ m → bit (whole q m) ≡ 0
  unfolding whole
  past q m h = ap (λ (b : Bool). bit (b && T (m % 6))) (lt-leb (m + 1) (q * 6) (omega (arith, h)))

  behind : (q m : ℕ) → 6 * q ≤ m → count (whole q) m ≡ count (λ p. T (p % 6)) (6 * q)
  behind q zero l =
      let z : 6 * q ≡ 0 = omega (arith, l) in
      inside q zero (omega (arith, z)) ∙ ap (count (λ p. T (p % 6))) (sym z)
  behind q (suc m) l = go (ℕ_discrete (suc m) (6 * q)) (behind q m)
    where
      go : Dec (suc m ≡ 6 * q) → (6 * q ≤ m → count (whole q) m ≡ count (λ p. T (p % 6)) (6 * q))
          → count (whole q) (suc m) ≡ count (λ p. T (p % 6)) (6 * q)
      go (yes e) before = inside q (suc m) (omega (arith, e)) ∙ ap (count (λ p. T (p % 6))) e
      go (no e) before =
          let h : 6 * q ≤ m = omega (arith, l, e) in
          omega (arith, past q m h, before h)

  pub count_whole : (n : ℕ) → count (λ p. leb (p + 1) (n / 6 * 6) && T (p % 6)) n ≡ n / 6 * count T 6
  unfolding whole
  count_whole n = behind (n / 6) n (omega arith) ∙ count_sixes (n / 6)
