-- The class of a cell is the remainder of column − b × row − c × plane by m, over the integers.
use Prim.Native.Nat.{ℕ, ◌+◌, ◌*◌, ◌%◌, ◌<◌, ◌≤◌}
use mathlib.Core.Path.{◌≡◌, sym, ◌∙◌, ap}
use native.Mathlib.Omega.{arith}
use Rattle.lattice.specs.declared.settings.Settings.{Settings}
use Rattle.lattice.specs.declared.shape.Shape.{Shape}
use Rattle.lattice.specs.Cell.{Cell}
use Rattle.lattice.specs.Class.{minus_mod, class_with, class_of}
use Rattle.lattice.specs.Endless.{point_of, HasClass}
use Rattle.lattice.specs.Shape.{Accepted}
use Rattle.lattice.specs.Settings.{settings_of}
use Rattle.lattice.proofs.theory.Remainder.{minus_below, minus_adds, minus_only}
use Rattle.lattice.proofs.theory.Residue.{class_mod, mod_class}
use Rattle.lattice.proofs.theory.Placements.{class_strength}
use Rattle.lattice.proofs.theory.SettingsLaws.{settings_some}

module _ (k : Settings) (x : Cell) where
  taken : ℕ
  taken = k.b * x.row + k.c * x.plane

  pub is : 0 < k.m → HasClass k (point_of x) (class_with k x)
  unfolding class_with taken
  is some =
      mod_class k (point_of x) (minus_mod x.column taken k.m) (minus_below k.m some x.column taken)
      (ap (λ (n : ℕ). n % k.m) (omega arith)
      ∙ sym (minus_adds k.m some x.column taken)
      ∙ ap (λ (n : ℕ). n % k.m) (omega arith))

  pub only : (r : ℕ) → HasClass k (point_of x) r → r ≡ class_with k x
  unfolding class_with taken
  only r h =
      minus_only k.m (omega (arith, h.below)) x.column taken r h.below
      (ap (λ (n : ℕ). n % k.m) (omega arith)
      ∙ sym (class_mod k (point_of x) r h)
      ∙ ap (λ (n : ℕ). n % k.m) (omega arith))

-- the class of a cell by strength, as a point of the endless stack
pub class_point : (s : Shape) → Accepted s → 1 ≤ s.strength → (x : Cell) → HasClass (settings_of s) (point_of x) (class_of s x)
class_point s accepted some x = rw (class_strength s some x) (is (settings_of s) x (settings_some s accepted some))
