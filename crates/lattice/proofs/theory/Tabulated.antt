-- The values of a function at the numbers below n, as a list.
use Prim.Native.Nat.{ℕ, zero, suc, ◌<◌}
use mathlib.Core.List.{List, [], ◌∷◌, Memᴰ}
use mathlib.Core.Logic.{⊎_elim}
use mathlib.Core.Path.{◌≡◌, refl, ap, ◌∙◌}
use native.Mathlib.Nat.{le_refl, not-suc-le-zero, eq-or-lt_of_le, le_of_suc-le-suc}
use native.Mathlib.Omega.{arith}
use lib.ListN.{length}
use Rattle.lattice.specs.Distinct.{Distinct}

pub tabulate : {A : Type 0} → (ℕ → A) → ℕ → List A
tabulate g zero = []
tabulate g (suc n) = g n ∷ tabulate g n

module _ {A : Type 0} (g : ℕ → A) where
  pub tabulate_length : (n : ℕ) → length (tabulate g n) ≡ n
  unfolding tabulate
  tabulate_length zero = refl
  tabulate_length (suc n) = ap suc (tabulate_length n)

  -- each value is there
  pub tabulate_has : (n i : ℕ) → i < n → Memᴰ (g i) (tabulate g n)
  unfolding tabulate
  tabulate_has zero i l = absurd (not-suc-le-zero l)
  tabulate_has (suc n) i l =
      ⊎_elim
      (λ (e : i ≡ n). mathlib.Core.List.Memᴰ.head (ap g e))
      (λ (k : i < n). mathlib.Core.List.Memᴰ.tail (tabulate_has n i k))
      (eq-or-lt_of_le (le_of_suc-le-suc l))

  -- and nothing else
  pub tabulate_are : (n : ℕ) {x : A} → Memᴰ x (tabulate g n) → (i : ℕ) × (i < n) × (x ≡ g i)
  unfolding tabulate
  tabulate_are zero m = absurd (mathlib.Core.List.Memᴰ.not-nil m)
  tabulate_are (suc n) {x = x} m =
      ⊎_elim
      {C = (i : ℕ) × (i < suc n) × (x ≡ g i)}
      (λ (e : x ≡ g n). (n, le_refl _, e))
      (λ (k : Memᴰ x (tabulate g n)). let r = tabulate_are n k in (r.0, omega (arith, r.1), r.2))
      (mathlib.Core.List.Memᴰ.cases_cons m)

  -- they are different where the function is
  pub tabulate_distinct : (n : ℕ) → ((i j : ℕ) → i < n → j < n → g i ≡ g j → i ≡ j) → Distinct (tabulate g n)
  unfolding tabulate
  tabulate_distinct zero one = tt
  tabulate_distinct (suc n) one = (
    λ y m e. let r = tabulate_are n m in omega (arith, r.1, one n r.0 (le_refl _) (omega (arith, r.1)) (e ∙ r.2)),
    tabulate_distinct n (λ i j l m. one i j (omega arith) (omega arith)),
  )
