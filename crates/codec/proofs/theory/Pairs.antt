-- Tests that at most two numbers below n pass.
use Prim.Native.Nat.{ℕ, ◌<◌, ◌≤◌}
use mathlib.Core.Bool.{Bool, true, not, ◌&&◌}
use mathlib.Core.Logic.{◌≢◌, ◌⊎◌, inl, inr}
use mathlib.Core.Path.{◌≡◌, sym}
use native.Mathlib.Decide.{ℕ_discrete, dec_lt}
use native.Mathlib.Omega.{arith}
use lib.Dec.{eqb}
use borrow.Author.Tests.{ne_eqb, eqb-false, not-true}
use Rattle.lattice.specs.Counting.{count}
use Rattle.lattice.proofs.theory.Bools.{and_left, and_right}
use Rattle.lattice.proofs.theory.Counting.{count_more, count_reach}

module _ (P : ℕ → Bool) (n : ℕ) where
  -- two different numbers pass
  pub two_pass : (i j : ℕ) → i < n → j < n → P i ≡ true → P j ≡ true → i ≢ j → 2 ≤ count P n
  two_pass i j a b p q d = go (dec_lt i j)
    where
      go : Dec (i < j) → 2 ≤ count P n
      go (yes l) = omega (arith, count_more P i j l p, count_more P j n b q)
      go (no l) = omega (arith, count_more P j i (omega (arith, d)) q, count_more P i n a p)

  rising : (i j k : ℕ) → i < j → j < k → k < n → P i ≡ true → P j ≡ true → P k ≡ true → 3 ≤ count P n
  rising i j k l m o p q r = omega (arith, count_more P i j l p, count_more P j k m q, count_more P k n o r)

  -- three different numbers pass
  pub three : (i j k : ℕ) → i < n → j < n → k < n → P i ≡ true → P j ≡ true → P k ≡ true → i ≢ j → i ≢ k → j ≢ k
      → 3 ≤ count P n
  three i j k a b c p q r x y z = go (dec_lt i j) (dec_lt j k) (dec_lt i k)
    where
      go : Dec (i < j) → Dec (j < k) → Dec (i < k) → 3 ≤ count P n
      go (yes l) (yes m) o = rising i j k l m c p q r
      go (yes l) (no m) (yes o) = rising i k j o (omega (arith, z)) b p r q
      go (yes l) (no m) (no o) = rising k i j (omega (arith, y)) l b r p q
      go (no l) (yes m) (yes o) = rising j i k (omega (arith, x)) o c q p r
      go (no l) (yes m) (no o) = rising j k i m (omega (arith, y)) a q r p
      go (no l) (no m) o = rising k j i (omega (arith, z)) (omega (arith, x)) a r q p

  -- i passes alone, or with one other
  pub alone_or_two : (i : ℕ) → i < n → P i ≡ true → count P n ≤ 2
      → ((j : ℕ) → j < n → P j ≡ true → j ≡ i)
      ⊎ ((j : ℕ) × (j < n) × (P j ≡ true) × (j ≢ i) × ((k : ℕ) → k < n → P k ≡ true → (k ≡ i) ⊎ (k ≡ j)))
  alone_or_two i l p few = go (dec_lt 0 (count other n))
    where
      other : ℕ → Bool
      other j = P j && not (eqb j i)

      alone : ¬ (0 < count other n) → (j : ℕ) → j < n → P j ≡ true → Dec (j ≡ i) → j ≡ i
      alone none j m q (yes e) = e
      alone none j m q (no d) = absurd (none (omega (arith, count_more other j n m (rw (q, ne_eqb j i d)))))

      third : (j k : ℕ) → j < n → k < n → P j ≡ true → P k ≡ true → j ≢ i → Dec (k ≡ i) → Dec (k ≡ j) → (k ≡ i) ⊎ (k ≡ j)
      third j k b m q o d (yes e) f = inl e
      third j k b m q o d (no e) (yes f) = inr f
      third j k b m q o d (no e) (no f) =
          absurd (omega (arith, three i j k l b m p q o (λ z. d (sym z)) (λ z. e (sym z)) (λ z. f (sym z))))

      go : Dec (0 < count other n) → ((j : ℕ) → j < n → P j ≡ true → j ≡ i)
          ⊎ ((j : ℕ) × (j < n) × (P j ≡ true) × (j ≢ i) × ((k : ℕ) → k < n → P k ≡ true → (k ≡ i) ⊎ (k ≡ j)))
      go (no none) = inl (λ j m q. alone none j m q (ℕ_discrete j i))
      go (yes some) =
          let r = count_reach other n 0 some in
          let q = and_left (P r.0) _ r.2 in
          let d : r.0 ≢ i = eqb-false r.0 i (not-true _ (and_right (P r.0) _ r.2)) in
          inr (r.0, r.1, q, d, λ k m o. third r.0 k r.1 m q o d (ℕ_discrete k i) (ℕ_discrete k r.0))
