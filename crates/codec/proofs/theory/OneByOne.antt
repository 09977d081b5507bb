-- Tests of the cells or the classes one by one, up to the first that fails.
use Prim.Native.Nat.{ℕ, ◌+◌, ◌<◌, ◌≤◌}
use mathlib.Core.Bool.{Bool, true, false}
use mathlib.Core.Path.{◌≡◌, refl, sym, ap, ◌∙◌}
use native.Mathlib.Nat.{le_antisymm}
use Rattle.lattice.specs.Counting.{all_below}
use Rattle.lattice.proofs.theory.Bools.{and_true}
use Rattle.codec.proofs.theory.AllBelow.{all_step, fails_below}

-- the numbers below n pass the test
pub record PassedTo (f : ℕ → Bool) (n : ℕ) : Type 0 where
  pub all : all_below f n ≡ true

module _ (f : ℕ → Bool) where
  pub passed_none : PassedTo f 0
  passed_none = record { all = refl }

  pub passed_more : (n : ℕ) → PassedTo f n → f n ≡ true → PassedTo f (n + 1)
  passed_more n p e = record { all = all_step f n ∙ and_true (f n) (all_below f n) e p.all }

  pub passed_all : (i n : ℕ) → PassedTo f i → i ≤ n → n ≤ i → true ≡ all_below f n
  passed_all i n p l q = sym p.all ∙ ap (all_below f) (le_antisymm l q)

  pub failed_at : (i n : ℕ) → i < n → f i ≡ false → false ≡ all_below f n
  failed_at i n l e = sym (fails_below f i n l e)
