-- The test of the levels of a field, and the number that a field's own tests give.
use Prim.Native.Nat.{ℕ, ◌<◌}
use mathlib.Core.Bool.{Bool, true, false}
use mathlib.Core.Path.{◌≡◌}
use native.Mathlib.Omega.{arith}
use borrow.Author.Tests.{le-leb, leb-true, leb-false}
use Rattle.lattice.specs.declared.shape.Shape.{Shape}
use Rattle.lattice.specs.Refusal.{unless}
use Rattle.lattice.specs.Shape.{cells_of}
use Rattle.lattice.specs.Class.{layout_of}
use Rattle.codec.specs.Field.{Field}
use Rattle.codec.proofs.theory.AllBelow.{all_below_lem, below_all, some_fails}
use Rattle.levels.specs.Level.{max_level, Levels, is_level, levels_ok}
use Rattle.levels.specs.Restored.{levels_in_reach}
use Rattle.levels.specs.Decode.{levels_number}

module _ (f : Field) (n : ℕ) where
  pub levels_ok_lem : Levels f n → levels_ok f n ≡ true
  unfolding levels_ok is_level
  levels_ok_lem p = all_below_lem (λ i. is_level (f i)) n (λ i l. le-leb (f i) max_level (p i l))

  pub ok_levels : levels_ok f n ≡ true → Levels f n
  unfolding levels_ok is_level
  ok_levels p i l = leb-true (f i) max_level (below_all (λ j. is_level (f j)) n p i l)

  pub not_levels : levels_ok f n ≡ false → (i : ℕ) × (i < n) × (max_level < f i)
  unfolding levels_ok is_level
  not_levels p =
      let r = some_fails (λ i. is_level (f i)) n p in (r.0, r.1, leb-false (f r.0) max_level r.2)

-- it is never 4
pub number_other : (s : Shape) (f : Field) → levels_number s f ≡ 4 → ⊥
unfolding levels_number
number_other s f e = go (levels_ok f (cells_of s)) (levels_in_reach (layout_of s) f) e
  where
    go : (a b : Bool) → unless a 12 (unless b 6 0) ≡ 4 → ⊥
    go true true p = omega arith
    go true false p = omega arith
    go false b p = omega arith
