-- The items of a list that pass a test, counted by their numbers; and the greater of two.
use Prim.Native.Nat.{ℕ, zero, suc, ◌+◌, ◌<◌, ◌≤◌, max}
use mathlib.Core.Bool.{Bool, true, false, cond}
use mathlib.Core.List.{List}
use mathlib.Core.Path.{◌≡◌, refl, ap, ◌∙◌}
use native.Mathlib.Numerals.{add-one}
use native.Mathlib.Omega.{arith}
use lib.ListN.{length, get_or, take}
use Rattle.std.specs.List.{count_by}
use Rattle.std.specs.Ordering.{ord_max, nat_cmp}
use Rattle.std.proofs.lemmas.List.Sums.{count_by_more_yes, count_by_more_no}
use Rattle.lattice.specs.Counting.{count}

module _ (p : ℕ → Bool) (xs : List ℕ) where
  step : (n : ℕ) → n < length xs → count_by p (take (n + 1) xs) ≡ cond (p (get_or xs n 0)) 1 0 + count_by p (take n xs)
  step n l = go (p (get_or xs n 0)) refl
    where
      go : (b : Bool) → p (get_or xs n 0) ≡ b
          → count_by p (take (n + 1) xs) ≡ cond (p (get_or xs n 0)) 1 0 + count_by p (take n xs)
      go true e = rw e (omega (arith, count_by_more_yes p xs n 0 l e))
      go false e = rw e (omega (arith, count_by_more_no p xs n 0 l e))

  pub counted : (n : ℕ) → n ≤ length xs → count_by p (take n xs) ≡ count (λ i. p (get_or xs i 0)) n
  counted zero l = refl
  counted (suc n) l =
      (rw add-one at (step n l)) ∙ ap (λ (c : ℕ). cond (p (get_or xs n 0)) 1 0 + c) (counted n (omega arith))

pub greater : (a b : ℕ) → ord_max nat_cmp a b ≡ max a b
greater a b = grind arith
