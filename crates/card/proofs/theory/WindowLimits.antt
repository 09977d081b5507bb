-- The window of an accepted shape, and the shape without it.
use Prim.Native.Nat.{◌≤◌}
use mathlib.Core.Bool.{true, not}
use mathlib.Core.Logic.{◌≢◌}
use mathlib.Core.Path.{◌≡◌, refl, sym, ap, ◌∙◌}
use native.Mathlib.Omega.{arith}
use borrow.Author.Tests.{eqb-true}
use lib.Dec.{eqb}
use Rattle.lattice.specs.declared.shape.Shape.{Shape}
use Rattle.lattice.specs.declared.shape.Window.{Window}
use Rattle.lattice.specs.Shape.{no_window, is_none, BothZero, max_window, shape_number, Accepted}
use Rattle.lattice.proofs.theory.Bools.{and_left, and_right}
use Rattle.lattice.proofs.theory.Limits.{number_strength, number_accepted, tests_passed, strength_none, strength_some}
use Rattle.lattice.proofs.theory.Limits.{window_beside, window_legal, rows_few, columns_few}
use Rattle.lattice.proofs.theory.Placements.{either}

-- no sides but 0
no_sides : (w : Window) → is_none w ≡ true → BothZero w
unfolding is_none
no_sides w e = (
  eqb-true w.rows 0 (and_left (eqb w.rows 0) (eqb w.columns 0) e),
  eqb-true w.columns 0 (and_right (eqb w.rows 0) (eqb w.columns 0) e),
)

none_none : is_none no_window ≡ true
unfolding is_none
none_none = refl

-- a shape without its window
abbrev pub bare : Shape → Shape
bare s = record { columns = s.columns; rows = s.rows; planes = s.planes; strength = s.strength; window = no_window }

module _ (s : Shape) (accepted : Accepted s) where
  -- beside a strength there is no window
  beside_strength : s.strength ≢ 0 → BothZero s.window
  beside_strength some =
      no_sides s.window
      (sym (window_beside s.planes s.strength s.window some) ∙ (tests_passed s accepted).2)

  -- a stack has none, and no side is above 512
  pub stack_none : s.planes ≢ 1 → BothZero s.window
  stack_none stack = beside_strength (λ z. stack (window_legal s accepted z).flat)

  pub sides_most : (s.window.rows ≤ max_window) × (s.window.columns ≤ max_window)
  sides_most =
      either s
      (λ z. (rows_few s accepted z, columns_few s accepted z))
      (λ some. let none = beside_strength (λ e. omega (arith, e)) in (omega (arith, none.0), omega (arith, none.1)))

  -- without its window the shape is accepted too, but at strength 0, which is refused with 2
  pub bare_accepted : s.strength ≢ 0 → Accepted (bare s)
  bare_accepted some =
      number_accepted (bare s) (tests_passed s accepted).0
      (strength_some s.planes s.strength no_window some
      ∙ sym (strength_some s.planes s.strength s.window some)
      ∙ (tests_passed s accepted).1)
      (window_beside s.planes s.strength no_window some ∙ none_none)

  pub bare_refused : s.strength ≡ 0 → shape_number (bare s) ≡ 2
  bare_refused e =
      number_strength (bare s) (tests_passed s accepted).0
      (strength_none s.planes s.strength no_window e ∙ ap not none_none)
