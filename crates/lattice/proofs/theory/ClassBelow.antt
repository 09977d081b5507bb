-- The class of a cell is below the number of classes.
use Prim.Native.Nat.{◌+◌, ◌<◌, ◌≤◌}
use mathlib.Core.Path.{◌≡◌}
use native.Mathlib.Nat.{mod-lt, mod-zero, zero-sub, add-zero}
use native.Mathlib.Decide.{ℕ_discrete}
use native.Mathlib.Omega.{arith}
use lib.Arith.{digits_lt}
use Rattle.lattice.specs.declared.settings.Settings.{Settings}
use Rattle.lattice.specs.declared.shape.Shape.{Shape}
use Rattle.lattice.specs.Shape.{Accepted}
use Rattle.lattice.specs.Cell.{Cell}
use Rattle.lattice.specs.Class.{minus_mod, class_with, classes_of, class_of, placement_of, class_by}
use Rattle.lattice.proofs.theory.Limits.{strength_stack, window_legal}
use Rattle.lattice.proofs.theory.Placements.{either, class_placed, classes_placed, slices_some, period_some, classes_stack}
use Rattle.lattice.proofs.theory.SettingsLaws.{stack_bounds}

-- with m of 0 the class is the column
pub class_none : (k : Settings) (x : Cell) → k.m ≡ 0 → class_with k x ≡ x.column
unfolding class_with minus_mod
class_none k x e = simp (e, mod-zero, zero-sub, add-zero)

-- with m of at least 1 the class is below m
class_with_below : (k : Settings) (x : Cell) → 1 ≤ k.m → class_with k x < k.m
unfolding class_with minus_mod
class_with_below k x p = mod-lt _ p

-- in any case it is not above their sum
pub class_most : (k : Settings) (x : Cell) → class_with k x ≤ k.m + x.column
class_most k x = go (ℕ_discrete k.m 0)
  where
    go : Dec (k.m ≡ 0) → class_with k x ≤ k.m + x.column
    go (yes e) = omega (arith, class_none k x e)
    go (no e) = omega (arith, class_with_below k x (omega arith))

-- the class of a cell of an accepted shape is below the number of classes
module _ (s : Shape) (a : Accepted s) where
  pub class_below : (x : Cell) → class_of s x < classes_of s
  unfolding class_by
  class_below x =
      rw (← (class_placed s x), ← (classes_placed s))
      (digits_lt (mod-lt x.row (slices_some s a)) (class_with_below (placement_of s).settings x (period_some s a)))

  -- an accepted stack has at most 92 classes
  pub classes_stack_most : (s.planes ≡ 1 → ⊥) → classes_of s ≤ 92
  classes_stack_most stack =
      either s
      (λ z. absurd (stack (window_legal s a z).flat))
      (λ some. rw (classes_stack s some stack) (stack_bounds s.strength some (strength_stack s a stack)).1)
