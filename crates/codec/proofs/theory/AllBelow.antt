-- Laws of tests that all the numbers below a bound pass.
use Prim.Native.Nat.{ℕ, zero, suc, ◌+◌, ◌-◌, ◌<◌}
use mathlib.Core.Bool.{Bool, true, false, ◌&&◌, true≢false}
use mathlib.Core.Logic.{⊎_elim}
use mathlib.Core.Path.{◌≡◌, refl, sym, ap, ap₂, ◌∙◌}
use native.Mathlib.Nat.{le_refl, not-suc-le-zero, eq-or-lt_of_le, le_of_suc-le-suc}
use native.Mathlib.Numerals.{add-one}
use native.Mathlib.Omega.{arith}
use Rattle.lattice.specs.Counting.{all_below}
use Rattle.lattice.proofs.theory.Bools.{and_true, and_left, and_right}

pub all_step : (f : ℕ → Bool) (n : ℕ) → all_below f (n + 1) ≡ (f n && all_below f n)
all_step f n = rw (add-one n)

-- every number below n passes the test: from each of them, and back
pub all_below_lem : (f : ℕ → Bool) (n : ℕ) → ((i : ℕ) → i < n → f i ≡ true) → all_below f n ≡ true
all_below_lem f zero p = refl
all_below_lem f (suc n) p = and_true (f n) (all_below f n) (p n (le_refl _)) (all_below_lem f n (λ i l. p i (omega arith)))

pub below_all : (f : ℕ → Bool) (n : ℕ) → all_below f n ≡ true → (i : ℕ) → i < n → f i ≡ true
below_all f zero p i l = absurd (not-suc-le-zero l)
below_all f (suc n) p i l =
    ⊎_elim
    (λ (e : i ≡ n). ap f e ∙ and_left (f n) (all_below f n) p)
    (λ (k : i < n). below_all f n (and_right (f n) (all_below f n) p) i k)
    (eq-or-lt_of_le (le_of_suc-le-suc l))

-- where not all pass, some number fails
pub some_fails : (f : ℕ → Bool) (n : ℕ) → all_below f n ≡ false → (i : ℕ) × (i < n) × (f i ≡ false)
some_fails f zero p = absurd (true≢false p)
some_fails f (suc n) p = go (f n) refl p (some_fails f n)
  where
    go : (b : Bool) → f n ≡ b → (b && all_below f n) ≡ false → (all_below f n ≡ false → (i : ℕ) × (i < n) × (f i ≡ false))
        → (i : ℕ) × (i < suc n) × (f i ≡ false)
    go true e q below = let r = below q in (r.0, omega (arith, r.1), r.2)
    go false e q below = (n, le_refl _, e)

pub fails_below : (f : ℕ → Bool) (i n : ℕ) → i < n → f i ≡ false → all_below f n ≡ false
fails_below f i n l p = go (all_below f n) refl
  where
    go : (b : Bool) → all_below f n ≡ b → all_below f n ≡ false
    go true e = absurd (true≢false (sym (below_all f n e i l) ∙ p))
    go false e = e

-- tests that agree below n
pub all_same : (f g : ℕ → Bool) (n : ℕ) → ((i : ℕ) → i < n → f i ≡ g i) → all_below f n ≡ all_below g n
all_same f g zero p = refl
all_same f g (suc n) p = ap₂ ◌&&◌ (p n (le_refl _)) (all_same f g n (λ i l. p i (omega arith)))

before : (k : ℕ) → k ≡ suc k - 1
before k = omega arith

-- a test that goes down from m: where the last that is left fails it fails, where it passes the rest decides, and with none left
-- it passes
module _ (f : ℕ → Bool) (m : ℕ) where
  pub last_fails : (left : ℕ) → all_below f m ≡ all_below f left → 0 < left → f (left - 1) ≡ false → false ≡ all_below f m
  last_fails zero e some h = absurd (not-suc-le-zero some)
  last_fails (suc k) e some h =
      let here : f k ≡ false = ap f (before k) ∙ h in
      sym (e ∙ ap (λ (b : Bool). b && all_below f k) here)

  pub last_passes : (left : ℕ)
      → all_below f m ≡ all_below f left
      → 0 < left
      → f (left - 1) ≡ true
      → all_below f m ≡ all_below f (left - 1)
  last_passes zero e some h = absurd (not-suc-le-zero some)
  last_passes (suc k) e some h =
      let here : f k ≡ true = ap f (before k) ∙ h in
      e ∙ ap (λ (b : Bool). b && all_below f k) here ∙ ap (all_below f) (before k)
