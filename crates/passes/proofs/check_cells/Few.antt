-- No accepted shape has more than 4,096 cells that hold a check.
use Prim.Native.Nat.{ℕ, zero, suc, ◌+◌, ◌*◌, ◌^◌, ◌<◌, ◌≤◌}
use mathlib.Core.Bool.{Bool, true, false, not}
use mathlib.Core.Path.{◌≡◌, refl, sym, ◌∙◌}
use native.Mathlib.Decide.{dec_lt}
use native.Mathlib.Omega.{arith}
use lib.Pow.{pow_mono}
use Rattle.lattice.specs.declared.shape.Shape.{Shape}
use Rattle.lattice.specs.Shape.{Accepted, cells_of}
use Rattle.lattice.specs.Cell.{cell_at}
use Rattle.lattice.specs.Class.{classes_of, layout_of}
use Rattle.lattice.specs.Position.{Layout, size_to, size, position}
use Rattle.lattice.specs.Check.{is_check, checks, holds_data}
use Rattle.lattice.specs.Counting.{sum_below}
use Rattle.lattice.specs.Listing.{max_checks, checks_to}
use Rattle.lattice.proofs.theory.BitLength.{top_of}
use Rattle.lattice.proofs.theory.ClassBelow.{class_below}
use Rattle.lattice.proofs.theory.Placements.{classes_limit}
use Rattle.lattice.proofs.theory.Counting.{count_same, count_all, sum_same}
use Rattle.lattice.proofs.theory.Limits.{legal}
use Rattle.lattice.proofs.theory.Positions.{by_class}

-- the powers of two rise above a line
power_above : (j : ℕ) → 128 * j ≤ 768 + 2 ^ j
power_above zero = omega arith
power_above (suc j) = go (dec_lt j 6) (dec_lt j 7) (power_above j)
  where
    go : Dec (j < 6) → Dec (j < 7) → 128 * j ≤ 768 + 2 ^ j → 128 * suc j ≤ 768 + 2 ^ suc j
    go (yes l) d before = omega arith
    go (no l) (yes r) before = let h : 7 ≤ suc j = omega arith in omega (arith, pow_mono h)
    go (no l) (no r) before = let h : 7 ≤ j = omega arith in omega (arith, pow_mono h)

-- a class's checks, by its size
checks_below : (k : ℕ) → 128 * checks k ≤ 896 + k
unfolding checks
checks_below zero = omega arith
checks_below (suc k) =
    let t = top_of (suc k) (omega arith) in
    omega (arith, t.number, t.low, power_above t.top)

twice : (b : Bool) → b ≡ not (not b)
twice true = refl
twice false = refl

module _ (L : Layout) (m n : ℕ) (below : (i : ℕ) → i < n → L.class i < m) where
  -- the checks of the first n cells, class by class
  checks_by_class : checks_to L n ≡ sum_below (λ a. checks (size_to L a n)) m
  unfolding checks_to holds_data checks is_check
  checks_by_class =
      count_same _ _ n (λ i l. sym (twice (is_check (size L (L.class i)) (position L i))))
      ∙ sym (by_class L (λ a p. is_check (size L a) p) m n below)

  -- the first n cells are those of the classes
  cells_by_class : sum_below (λ a. size_to L a n) m ≡ n
  cells_by_class =
      sum_same _ _ m (λ a l. sym (count_all (λ p. true) (size_to L a n) (λ i r. refl)))
      ∙ by_class L (λ a p. true) m n below
      ∙ count_all (λ i. true) n (λ i l. refl)

  checks_few_in : 128 * checks_to L n ≤ 896 * m + n
  checks_few_in = omega (arith, checks_by_class, cells_by_class, go m)
    where
      go : (k : ℕ) → 128 * sum_below (λ a. checks (size_to L a n)) k ≤ 896 * k + sum_below (λ a. size_to L a n) k
      go zero = omega arith
      go (suc k) = omega (arith, checks_below (size_to L k n), go k)

-- Theorem. The list of the checks of an accepted shape has room.
pub checks_few : (s : Shape) → Accepted s → (n : ℕ) → n ≤ cells_of s → checks_to (layout_of s) n ≤ max_checks
checks_few s ok n l =
    omega (
      arith,
      checks_few_in (layout_of s) (classes_of s) n (λ i r. class_below s ok (cell_at s i)),
      classes_limit s ok,
      (legal s ok).product,
    )
