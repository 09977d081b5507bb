-- The placement of a field: by its window at strength 0, else by its strength; and the classes that it gives.
use Prim.Native.Nat.{ℕ, zero, suc, ◌+◌, ◌-◌, ◌*◌, ◌%◌, ◌≤◌}
use mathlib.Core.Path.{◌≡◌, refl, sym, ap, ◌∙◌}
use native.Mathlib.Decide.{ℕ_discrete}
use native.Mathlib.Nat.{zero-mod, add-mod_right, mul-le-mul}
use native.Mathlib.Omega.{arith}
use borrow.Author.Tests.{eq-eqb, ne_eqb}
use Rattle.lattice.specs.declared.class.Placement.{Placement}
use Rattle.lattice.specs.declared.settings.Settings.{Settings}
use Rattle.lattice.specs.declared.shape.Shape.{Shape}
use Rattle.lattice.specs.Refusal.{beside, figure}
use Rattle.lattice.specs.Shape.{max_classes, shape_number, Accepted}
use Rattle.lattice.specs.Settings.{settings, flat_settings, stack_settings, settings_of}
use Rattle.lattice.specs.Cell.{Cell}
use Rattle.lattice.specs.Class.{minus_mod, class_with, window_class, classes_of, class_of, placement_of, placement_given}
use Rattle.lattice.specs.Class.{class_by}
use Rattle.lattice.proofs.theory.Answers.{beside_zero}
use Rattle.lattice.proofs.theory.Limits.{window_legal}
use Rattle.lattice.proofs.theory.Remainder.{remainder_one}
use Rattle.lattice.proofs.theory.SettingsLaws.{settings_flat, settings_stack, settings_some, settings_most}

-- at strength 0
module _ (s : Shape) (z : s.strength ≡ 0) where
  pub placed_window : placement_of s ≡ (record { slices = s.window.rows; settings = settings s.window.columns 0 0 })
  unfolding placement_of
  placed_window = rw (eq-eqb s.strength 0 z)

  pub classes_window : classes_of s ≡ s.window.rows * s.window.columns
  unfolding classes_of
  classes_window = rw (eq-eqb s.strength 0 z)

  pub class_window : (x : Cell) → class_of s x ≡ window_class s.window x
  unfolding class_of
  class_window x = rw (eq-eqb s.strength 0 z)

-- at another strength
module _ (s : Shape) (some : 1 ≤ s.strength) where
  other : s.strength ≡ 0 → ⊥
  other e = omega arith

  pub placed_strength : placement_of s ≡ (record { slices = 1; settings = settings_of s })
  unfolding placement_of
  placed_strength = rw (ne_eqb s.strength 0 other)

  classes_strength : classes_of s ≡ (settings_of s).m
  unfolding classes_of
  classes_strength = rw (ne_eqb s.strength 0 other)

  pub class_strength : (x : Cell) → class_of s x ≡ class_with (settings_of s) x
  unfolding class_of
  class_strength x = rw (ne_eqb s.strength 0 other)

  -- a flat field has the classes of the flat rule, and a stack those of its row
  pub classes_flat : s.planes ≡ 1 → classes_of s ≡ (flat_settings s.strength).m
  classes_flat flat = classes_strength ∙ ap (λ (k : Settings). k.m) (settings_flat s.planes s.strength flat)

  pub classes_stack : (s.planes ≡ 1 → ⊥) → classes_of s ≡ (stack_settings s.strength).m
  classes_stack stack = classes_strength ∙ ap (λ (k : Settings). k.m) (settings_stack s.planes s.strength stack)

-- the two cases
pub either : {A : Type 0} (s : Shape) → (s.strength ≡ 0 → A) → (1 ≤ s.strength → A) → A
either {A} s window strength = go (ℕ_discrete s.strength 0)
  where
    go : Dec (s.strength ≡ 0) → A
    go (yes z) = window z
    go (no z) = strength (omega arith)

-- with b and c of 0 the class is the column's remainder
class_columns : (q : ℕ) (x : Cell) → class_with (settings q 0 0) x ≡ x.column % q
unfolding class_with minus_mod
class_columns q x =
    let none : 0 * x.row + 0 * x.plane ≡ 0 = omega arith in
    ap (λ (z : ℕ). (x.column + (q - z % q)) % q) none
    ∙ ap (λ (z : ℕ). (x.column + (q - z)) % q) (zero-mod q)
    ∙ ap (λ (z : ℕ). (x.column + z) % q) all
    ∙ add-mod_right x.column q
  where
    all : q - 0 ≡ q
    all = omega arith

-- by its placement the class of a cell is its own, and so is the number of classes
pub class_placed : (s : Shape) (x : Cell) → class_by (placement_of s) x ≡ class_of s x
unfolding class_by window_class
class_placed s x = either s window strength
  where
    window : s.strength ≡ 0 → class_by (placement_of s) x ≡ class_of s x
    window z =
        ap (λ (p : Placement). class_by p x) (placed_window s z)
        ∙ ap (λ (n : ℕ). x.row % s.window.rows * s.window.columns + n) (class_columns s.window.columns x)
        ∙ sym (class_window s z x)

    strength : 1 ≤ s.strength → class_by (placement_of s) x ≡ class_of s x
    strength some =
        ap (λ (p : Placement). class_by p x) (placed_strength s some)
        ∙ omega (arith, ap (λ (n : ℕ). n * (settings_of s).m) (remainder_one x.row))
        ∙ sym (class_strength s some x)

pub classes_placed : (s : Shape) → (placement_of s).slices * (placement_of s).settings.m ≡ classes_of s
classes_placed s = either s window strength
  where
    window : s.strength ≡ 0 → (placement_of s).slices * (placement_of s).settings.m ≡ classes_of s
    window z = ap (λ (p : Placement). p.slices * p.settings.m) (placed_window s z) ∙ sym (classes_window s z)

    strength : 1 ≤ s.strength → (placement_of s).slices * (placement_of s).settings.m ≡ classes_of s
    strength some =
        ap (λ (p : Placement). p.slices * p.settings.m) (placed_strength s some)
        ∙ omega arith
        ∙ sym (classes_strength s some)

-- of an accepted shape there is a slice and a class in it, and not too many of both together
module _ (s : Shape) (a : Accepted s) where
  pub slices_some : 1 ≤ (placement_of s).slices
  slices_some =
      either s
      (λ z. omega (arith, ap (λ (p : Placement). p.slices) (placed_window s z), (window_legal s a z).rows))
      (λ some. omega (arith, ap (λ (p : Placement). p.slices) (placed_strength s some)))

  pub period_some : 1 ≤ (placement_of s).settings.m
  period_some =
      either s
      (λ z. omega (arith, ap (λ (p : Placement). p.settings.m) (placed_window s z), (window_legal s a z).columns))
      (λ some. omega (arith, ap (λ (p : Placement). p.settings.m) (placed_strength s some), settings_some s a some))

  pub classes_some : 1 ≤ classes_of s
  classes_some = omega (arith, classes_placed s, mul-le-mul slices_some period_some)

  pub classes_limit : classes_of s ≤ max_classes
  classes_limit =
      either s
      (λ z. omega (arith, classes_window s z, (window_legal s a z).few))
      (λ some. omega (arith, classes_strength s some, settings_most s a some))

  -- the placement that an accepted shape gives is its own
  pub placement_accepted : placement_given s ≡ placement_of s
  unfolding placement_given
  placement_accepted = beside_zero (shape_number s) (placement_of s) _ a

-- the number of classes that any shape gives
pub classes_given : (s : Shape) → (placement_given s).slices * (placement_given s).settings.m
    ≡ figure (shape_number s) (classes_of s)
unfolding placement_given
classes_given s = go (shape_number s)
  where
    go : (n : ℕ)
        → (beside n (placement_of s) (record { slices = 0; settings = settings 0 0 0 })).slices
        * (beside n (placement_of s) (record { slices = 0; settings = settings 0 0 0 })).settings.m
        ≡ figure n (classes_of s)
    go zero = classes_placed s
    go (suc n) = refl
