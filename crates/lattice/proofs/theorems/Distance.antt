-- The distance of cells of one class: the terms of the theorems.
use Prim.Native.Nat.{◌≤◌}
use mathlib.Core.Path.{sym, ◌∙◌, ◌≡◌, ap, subst}
use mathlib.Core.Bool.{true}
use mathlib.Core.Logic.{◌≢◌}
use native.Mathlib.Nat.{lt_of_not-le}
use native.Mathlib.Decide.{dec_le, ℕ_discrete}
use native.Mathlib.Omega.{arith}
use lib.IntN.{pos, nat_abs}
use Rattle.lattice.specs.declared.settings.Settings.{Settings}
use Rattle.lattice.specs.declared.shape.Shape.{Shape}
use Rattle.lattice.specs.Endless.{point_distance, point_of, HasClass, Apart, ApartOnPlane}
use Rattle.lattice.specs.Settings.{stack_settings, settings_of}
use Rattle.lattice.specs.Shape.{Accepted}
use Rattle.lattice.specs.Cell.{Cell, cell, InField}
use Rattle.lattice.specs.Cluster.{distance}
use Rattle.lattice.specs.Class.{class_of}
use Rattle.lattice.specs.theorems.Distance.{FlatDistance, StackDistance, ClassDistance, DistanceAttained}
use Rattle.lattice.proofs.theory.FlatPlane.{near_is_one}
use Rattle.lattice.proofs.theory.FlatPair.{flat_pair}
use Rattle.lattice.proofs.theory.StackTable.{holds_for, row_holds, row_accepted}
use Rattle.lattice.proofs.theory.Limits.{strength_stack}
use Rattle.lattice.proofs.theory.Placements.{either}
use Rattle.lattice.proofs.theory.SettingsLaws.{settings_flat, settings_stack}
use Rattle.lattice.proofs.theory.Points.{cell_distance}
use Rattle.lattice.proofs.theory.ClassRemainder.{class_point}
use Rattle.lattice.proofs.theorems.Testing.{test_meaning}

-- Theorem. The flat settings keep different cells of one class at least t apart on the endless plane, for every t of at least 1.
pub flat_distance : FlatDistance
flat_distance t some x y r px py hx hy other = go (dec_le t (point_distance x y))
  where
    go : Dec (t ≤ point_distance x y) → t ≤ point_distance x y
    go (yes far) = far
    go (no near) = absurd (other (near_is_one t some x y r hx hy (px ∙ sym py) (lt_of_not-le near)))

-- Theorem. The stack settings keep different cells of one class at least t apart in the endless stack, for every strength of the
-- table.
pub stack_distance : StackDistance
stack_distance t some most =
    (test_meaning (stack_settings t).m (stack_settings t).b (stack_settings t).c t (row_accepted t (stack_settings t) holds)).0
    holds
  where
    holds : holds_for t (stack_settings t) ≡ true
    holds = row_holds t some most

-- different cells are different points
point_inj : (x y : Cell) → x ≢ y → point_of x ≢ point_of y
point_inj x y other e = other (λ i. cell (nat_abs (e i).row) (nat_abs (e i).plane) (nat_abs (e i).column))

module _ (s : Shape) (accepted : Accepted s) (some : 1 ≤ s.strength) (x y : Cell) (hx : InField s x) (hy : InField s y)
    (same : class_of s x ≡ class_of s y) (other : x ≢ y) where
  class_x : HasClass (settings_of s) (point_of x) (class_of s x)
  class_x = class_point s accepted some x

  class_y : HasClass (settings_of s) (point_of y) (class_of s x)
  class_y = rw same (class_point s accepted some y)

  flat : s.planes ≡ 1 → s.strength ≤ distance x y
  flat d =
      rw cell_distance at (apart (point_of x) (point_of y) (class_of s x) (ap pos (omega (arith, hx.plane)))
      (ap pos (omega (arith, hy.plane))) class_x class_y (point_inj x y other))
    where
      apart : ApartOnPlane (settings_of s) s.strength
      apart =
          subst (λ (k : Settings). ApartOnPlane k s.strength) (sym (settings_flat s.planes s.strength d))
          (flat_distance s.strength some)

  stack : s.planes ≢ 1 → s.strength ≤ distance x y
  stack d = rw cell_distance at (apart (point_of x) (point_of y) (class_of s x) class_x class_y (point_inj x y other))
    where
      apart : Apart (settings_of s) s.strength
      apart =
          subst (λ (k : Settings). Apart k s.strength) (sym (settings_stack s.planes s.strength d))
          (stack_distance s.strength some (strength_stack s accepted d))

-- Theorem. In a field that the constructor accepts, two different cells of one class are never closer than t.
pub class_distance : ClassDistance
class_distance s accepted x y hx hy same other = either s (λ z. omega arith) (λ some. go some (ℕ_discrete s.planes 1))
  where
    go : 1 ≤ s.strength → Dec (s.planes ≡ 1) → s.strength ≤ distance x y
    go some (yes d) = flat s accepted some x y hx hy same other d
    go some (no d) = stack s accepted some x y hx hy same other d

-- Theorem. On a flat field with t at least 1 and both sides at least t + 1, there are two cells of one class at distance exactly
-- t.
pub distance_attained : DistanceAttained
distance_attained = flat_pair
