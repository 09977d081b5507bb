-- How many of the places below n have the remainder of y: laws with no division.
use Prim.Native.Nat.{ℕ, zero, suc, ◌+◌, ◌*◌, ◌%◌, ◌<◌, ◌≤◌}
use mathlib.Core.Bool.{Bool}
use mathlib.Core.Path.{◌≡◌, refl, sym, ap, ◌∙◌}
use native.Mathlib.Decide.{ℕ_discrete}
use native.Mathlib.Nat.{add_comm, add-mod_right, mod-eq_of_lt, mod-mod, mod-lt, le_refl}
use native.Mathlib.Numerals.{unary_clauses}
use native.Mathlib.Omega.{arith}
use borrow.Author.Tests.{eq-eqb, ne_eqb}
use lib.Dec.{eqb}
use Rattle.lattice.specs.Counting.{count}
use Rattle.lattice.specs.Lines.{among}
use Rattle.lattice.proofs.theory.Counting.{bit, count_step, count_same, count_none, count_mono}
use Rattle.lattice.proofs.theory.Remainder.{add_same, cancel_same}

-- two tests of equality that mean the same
pub same_test : (a b c d : ℕ) → (a ≡ b → c ≡ d) → (c ≡ d → a ≡ b) → eqb a b ≡ eqb c d
same_test a b c d p q = go (ℕ_discrete a b)
  where
    go : Dec (a ≡ b) → eqb a b ≡ eqb c d
    go (yes e) = eq-eqb a b e ∙ sym (eq-eqb c d (p e))
    go (no e) = ne_eqb a b e ∙ sym (ne_eqb c d (λ z. e (q z)))

-- a count over a stretch, which begins at j
pub count_from : (g : ℕ → Bool) (j w : ℕ) → count (λ x. g (j + x)) w + count g j ≡ count g (j + w)
count_from g j zero = simp unary_clauses (omega arith)
count_from g j (suc w) = simp unary_clauses (omega (arith, count_from g j w))

module _ (m : ℕ) where
  pub among_none : (y : ℕ) → among m y 0 ≡ 0
  unfolding among
  among_none y = refl

  pub among_step : (y n : ℕ) → among m y (n + 1) ≡ bit (eqb (n % m) (y % m)) + among m y n
  unfolding among
  among_step y n = count_step (λ z. eqb (z % m) (y % m)) n

  -- the place itself matters only by its remainder
  among_same : (y z n : ℕ) → y % m ≡ z % m → among m y n ≡ among m z n
  unfolding among
  among_same y z n e = ap (λ (r : ℕ). count (λ x. eqb (x % m) r) n) e

  -- a longer stretch has no fewer
  pub among_mono : (y i n : ℕ) → i ≤ n → among m y i ≤ among m y n
  unfolding among
  among_mono y i n l = count_mono (λ z. eqb (z % m) (y % m)) i n l

  pub among_next : (y n : ℕ) → among m (y + m) n ≡ among m y n
  among_next y n = among_same (y + m) y n (add-mod_right y m)

  -- a stretch that begins at s, counted from 0: the place moves by s
  pub among_shift : (y z s n : ℕ) → (z + s) % m ≡ y % m → among m z n + among m y s ≡ among m y (s + n)
  unfolding among
  among_shift y z s n e =
      omega (
        arith,
        count_from (λ x. eqb (x % m) (y % m)) s n,
        count_same (λ x. eqb (x % m) (z % m)) (λ x. eqb ((s + x) % m) (y % m)) n (λ x l. same_test _ _ _ _ (there x) (back x)),
      )
    where
      turn : (x : ℕ) → s + x ≡ x + s
      turn x = add_comm s x

      there : (x : ℕ) → x % m ≡ z % m → (s + x) % m ≡ y % m
      there x p = ap (λ (k : ℕ). k % m) (turn x) ∙ add_same x z s s m p refl ∙ e

      back : (x : ℕ) → (s + x) % m ≡ y % m → x % m ≡ z % m
      back x p = cancel_same x z s m (ap (λ (k : ℕ). k % m) (sym (turn x)) ∙ p ∙ sym e)

  low : (z : ℕ) → z < m → z % m ≡ z
  low z r = mod-eq_of_lt r

  -- of the places below m each has its own remainder
  pub among_before : (y n : ℕ) → n ≤ m → y < m → n ≤ y → among m y n ≡ 0
  unfolding among
  among_before y n p l q =
      count_none (λ z. eqb (z % m) (y % m)) n (λ z r. ne_eqb (z % m) (y % m) (λ (e : z % m ≡ y % m). omega (
        arith,
        low z
            (omega arith),
        low y l,
      )))

  pub among_after : (y n : ℕ) → n ≤ m → y < n → among m y n ≡ 1
  unfolding among
  among_after y zero p l = absurd (omega arith)
  among_after y (suc n) p l = go (ℕ_discrete n y) (λ r. among_after y n (omega arith) r)
    where
      go : Dec (n ≡ y) → (y < n → count (λ z. eqb (z % m) (y % m)) n ≡ 1)
          → bit (eqb (n % m) (y % m)) + count (λ z. eqb (z % m) (y % m)) n ≡ 1
      go (yes e) before =
          omega (
            arith,
            ap bit (eq-eqb (n % m) (y % m) (ap (λ (k : ℕ). k % m) e)),
            among_before y n (omega arith) (omega arith) (omega arith),
          )
      go (no e) before =
          omega (
            arith,
            ap bit (ne_eqb (n % m) (y % m) (λ (q : n % m ≡ y % m). e (sym (low n (omega arith)) ∙ q ∙ low y (omega arith)))),
            before (omega arith),
          )

  -- a whole period holds each remainder once
  module _ (some : 0 < m) where
    pub among_whole : (y : ℕ) → among m y m ≡ 1
    among_whole y = among_same y (y % m) m (sym (mod-mod y m)) ∙ among_after (y % m) m (le_refl m) (mod-lt y some)

    pub among_more : (y n : ℕ) → among m y (n + m) ≡ among m y n + 1
    among_more y n =
        omega (
          arith,
          ap (λ (k : ℕ). among m y k) (add_comm n m),
          among_shift y y m n (add-mod_right y m),
          among_whole y,
        )

    -- in k periods and g places more
    pub among_many : (y k g : ℕ) → among m y (k * m + g) ≡ k + among m y g
    among_many y zero g =
        let e : 0 * m + g ≡ g = omega arith in
        omega (arith, ap (λ (n : ℕ). among m y n) e)
    among_many y (suc k) g =
        let e : suc k * m + g ≡ k * m + g + m = omega arith in
        omega (arith, ap (λ (n : ℕ). among m y n) e, among_more y (k * m + g), among_many y k g)
