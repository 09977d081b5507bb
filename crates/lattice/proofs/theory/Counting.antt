-- Laws of counts and sums over the numbers below a bound.
use Prim.Native.Nat.{ℕ, zero, suc, ◌+◌, ◌<◌, ◌≤◌, zero-le}
use mathlib.Core.Bool.{Bool, true, false, cond, not}
use mathlib.Core.Logic.{⊎_elim}
use mathlib.Core.Path.{◌≡◌, refl, sym, ap, ap₂, subst, ◌∙◌}
use native.Mathlib.Nat.{le_refl, le_of_suc-le-suc, eq-or-lt_of_le, not-suc-le-zero}
use native.Mathlib.Numerals.{add-one}
use native.Mathlib.Omega.{arith}
use borrow.Author.Tests.{eq-eqb, ne_eqb}
use lib.Dec.{eqb}
use Rattle.lattice.specs.Counting.{count, sum_below}

-- the last number below n + 1 is n
module _ (f : ℕ → Bool) (n : ℕ) where
  pub count_step : count f (n + 1) ≡ cond (f n) 1 0 + count f n
  count_step = rw (add-one n)

  pub count_yes : f n ≡ true → count f (n + 1) ≡ count f n + 1
  count_yes p = count_step ∙ rw p (omega arith)

  pub count_no : f n ≡ false → count f (n + 1) ≡ count f n
  count_no p = count_step ∙ rw p (omega arith)

-- what a test adds to a count
abbrev pub bit : Bool → ℕ
bit b = cond b 1 0

bit_most : (b : Bool) → cond b 1 0 ≤ 1
bit_most true = omega arith
bit_most false = omega arith

pub count_most : (f : ℕ → Bool) (n : ℕ) → count f n ≤ n
count_most f zero = zero-le
count_most f (suc n) = omega (arith, bit_most (f n), count_most f n)

pub count_mono : (f : ℕ → Bool) (m n : ℕ) → m ≤ n → count f m ≤ count f n
count_mono f zero n p = zero-le
count_mono f (suc m) zero p = absurd (not-suc-le-zero p)
count_mono f (suc m) (suc n) p =
    ⊎_elim
    (λ (e : suc m ≡ suc n). subst (λ (k : ℕ). count f (suc m) ≤ count f k) e (le_refl _))
    (λ (l : suc m < suc n). omega (arith, count_mono f (suc m) n (le_of_suc-le-suc l)))
    (eq-or-lt_of_le p)

-- a number that passes is counted
pub count_more : (f : ℕ → Bool) (i n : ℕ) → i < n → f i ≡ true → count f i + 1 ≤ count f n
count_more f i n p q = rw (← (count_yes f i q)) (count_mono f (i + 1) n (omega arith))

pub count_same : (f g : ℕ → Bool) (n : ℕ) → ((i : ℕ) → i < n → f i ≡ g i) → count f n ≡ count g n
count_same f g zero p = refl
count_same f g (suc n) p =
    ap₂
    (λ (b : Bool) (k : ℕ). cond b 1 0 + k)
    (p n (le_refl _))
    (count_same f g n (λ i l. p i (omega arith)))

pub count_none : (f : ℕ → Bool) (n : ℕ) → ((i : ℕ) → i < n → f i ≡ false) → count f n ≡ 0
count_none f zero p = refl
count_none f (suc n) p = rw (p n (le_refl _)) (omega (arith, count_none f n (λ i l. p i (omega arith))))

pub count_all : (f : ℕ → Bool) (n : ℕ) → ((i : ℕ) → i < n → f i ≡ true) → count f n ≡ n
count_all f zero p = refl
count_all f (suc n) p = rw (p n (le_refl _)) (omega (arith, count_all f n (λ i l. p i (omega arith))))

bit_not : (b : Bool) → cond b 1 0 + cond (not b) 1 0 ≡ 1
bit_not true = refl
bit_not false = refl

-- each number passes the test or its negation
pub count_not : (f : ℕ → Bool) (n : ℕ) → count f n + count (λ i. not (f i)) n ≡ n
count_not f zero = refl
count_not f (suc n) = omega (arith, bit_not (f n), count_not f n)

-- the p-th number that passes
pub count_reach : (f : ℕ → Bool) (n p : ℕ) → p < count f n → (i : ℕ) × (i < n) × (f i ≡ true) × (count f i ≡ p)
count_reach f zero p l = absurd (not-suc-le-zero l)
count_reach f (suc n) p l = go (f n) refl (count_reach f n p)
  where
    later : (i : ℕ) × (i < n) × (f i ≡ true) × (count f i ≡ p) → (i : ℕ) × (i < suc n) × (f i ≡ true) × (count f i ≡ p)
    later r = (r.0, omega (arith, r.1), r.2, r.3)

    go : (b : Bool) → f n ≡ b → (p < count f n → (i : ℕ) × (i < n) × (f i ≡ true) × (count f i ≡ p))
        → (i : ℕ) × (i < suc n) × (f i ≡ true) × (count f i ≡ p)
    go true e below =
        ⊎_elim
        (λ (q : p ≡ count f n). (n, le_refl _, e, sym q))
        (λ (q : p < count f n). later (below q))
        (eq-or-lt_of_le (omega (arith, ap bit e)))
    go false e below = later (below (omega (arith, ap bit e)))

-- sums
sum_step : (f : ℕ → ℕ) (n : ℕ) → sum_below f (n + 1) ≡ f n + sum_below f n
sum_step f n = rw (add-one n)

-- a running sum with its next term
pub sum_more : (f : ℕ → ℕ) (n s x : ℕ) → s ≡ sum_below f n → x ≡ f n → s + x ≡ sum_below f (n + 1)
sum_more f n s x p q = omega (arith, sum_step f n)

pub sum_same : (f g : ℕ → ℕ) (n : ℕ) → ((i : ℕ) → i < n → f i ≡ g i) → sum_below f n ≡ sum_below g n
sum_same f g zero p = refl
sum_same f g (suc n) p = omega (arith, p n (le_refl _), sum_same f g n (λ i l. p i (omega arith)))

pub sum_none : (f : ℕ → ℕ) (n : ℕ) → ((i : ℕ) → i < n → f i ≡ 0) → sum_below f n ≡ 0
sum_none f zero p = refl
sum_none f (suc n) p = omega (arith, p n (le_refl _), sum_none f n (λ i l. p i (omega arith)))

pub sum_add : (f g : ℕ → ℕ) (n : ℕ) → sum_below (λ i. f i + g i) n ≡ sum_below f n + sum_below g n
sum_add f g zero = refl
sum_add f g (suc n) = omega (arith, sum_add f g n)

-- a count as a sum
pub count_sum : (f : ℕ → Bool) (n : ℕ) → sum_below (λ i. bit (f i)) n ≡ count f n
count_sum f zero = refl
count_sum f (suc n) = omega (arith, count_sum f n)

-- a sum with one term
term_here : (g : ℕ → ℕ) (c i : ℕ) → c ≡ i → cond (eqb c i) (g i) 0 ≡ g c
term_here g c i e = rw (eq-eqb c i e) (ap g (sym e))

term_other : (g : ℕ → ℕ) (c i : ℕ) → (c ≡ i → ⊥) → cond (eqb c i) (g i) 0 ≡ 0
term_other g c i e = rw (ne_eqb c i e)

pub sum_one : (g : ℕ → ℕ) (c n : ℕ) → c < n → sum_below (λ i. cond (eqb c i) (g i) 0) n ≡ g c
sum_one g c zero p = absurd (not-suc-le-zero p)
sum_one g c (suc n) p =
    ⊎_elim
    (λ (e : c ≡ n).
    omega (
      arith,
      term_here g c n e,
      sum_none (λ i. cond (eqb c i) (g i) 0) n (λ i l. term_other g c i (λ (q : c ≡ i). omega arith)),
    ))
    (λ (l : c < n). omega (arith, term_other g c n (λ (q : c ≡ n). omega arith), sum_one g c n l))
    (eq-or-lt_of_le (le_of_suc-le-suc p))
