-- The limits of a shape: what the tests of the constructor and its number tell of its numbers.
use Prim.Native.Nat.{ℕ, ◌*◌, ◌<◌, ◌≤◌}
use mathlib.Core.Bool.{Bool, true, false, not, ◌&&◌, false≢true}
use mathlib.Core.Path.{◌≡◌, refl, sym, ap, ◌∙◌}
use native.Mathlib.Decide.{ℕ_discrete}
use native.Mathlib.Omega.{arith}
use borrow.Author.Tests.{le-leb, lt-leb, leb-true, eq-eqb, ne_eqb, eqb-true, eqb-false}
use lib.Dec.{leb, eqb, lit≤}
use native.Mathlib.Nat.{le_trans, le_refl, mul-le-mul}
use Rattle.lattice.specs.declared.shape.Shape.{Shape}
use Rattle.lattice.specs.declared.shape.Window.{Window}
use Rattle.lattice.specs.Refusal.{unless}
use Rattle.lattice.specs.Shape.{max_side, max_planes, max_cells, max_flat_strength, max_stack_strength, max_window, max_strength}
use Rattle.lattice.specs.Shape.{size_ok, is_none, strength_ok, can_rule, window_ok, shape_number, Accepted}
use Rattle.lattice.specs.Range.{in_range}
use Rattle.lattice.proofs.theory.Answers.{unless_zero}
use Rattle.lattice.proofs.theory.Bools.{and_true, and_false_left, and_left, and_right}

-- a test of a range, from the orders and back
pub in_range_lem : (low high x : ℕ) → low ≤ x → x ≤ high → in_range low high x ≡ true
unfolding in_range
in_range_lem low high x p q = and_true (leb low x) (leb x high) (le-leb low x p) (le-leb x high q)

pub range_below : (low high x : ℕ) → x < low → in_range low high x ≡ false
unfolding in_range
range_below low high x p = and_false_left (leb low x) (leb x high) (lt-leb low x p)

pub range_low : (low high x : ℕ) → in_range low high x ≡ true → low ≤ x
unfolding in_range
range_low low high x p = leb-true low x (and_left (leb low x) (leb x high) p)

pub range_high : (low high x : ℕ) → in_range low high x ≡ true → x ≤ high
unfolding in_range
range_high low high x p = leb-true x high (and_right (leb low x) (leb x high) p)

pub max_flat : (d : ℕ) → d ≡ 1 → max_strength d ≡ max_flat_strength
unfolding max_strength
max_flat d p = rw (eq-eqb d 1 p)

pub max_stack : (d : ℕ) → (d ≡ 1 → ⊥) → max_strength d ≡ max_stack_strength
unfolding max_strength
max_stack d p = rw (ne_eqb d 1 p)

-- the number of a shape, from the three tests
module _ (s : Shape) where
  pub number_size : size_ok s.columns s.rows s.planes ≡ false → shape_number s ≡ 1
  unfolding shape_number
  number_size p = rw p

  pub number_strength : size_ok s.columns s.rows s.planes ≡ true
      → strength_ok s.planes s.strength s.window ≡ false
      → shape_number s ≡ 2
  unfolding shape_number
  number_strength p q = rw (p, q)

  pub number_window : size_ok s.columns s.rows s.planes ≡ true
      → strength_ok s.planes s.strength s.window ≡ true
      → window_ok s.planes s.strength s.window ≡ false
      → shape_number s ≡ 11
  unfolding shape_number
  number_window p q r = rw (p, q, r)

  pub number_accepted : size_ok s.columns s.rows s.planes ≡ true
      → strength_ok s.planes s.strength s.window ≡ true
      → window_ok s.planes s.strength s.window ≡ true
      → Accepted s
  unfolding shape_number
  number_accepted p q r = rw (p, q, r)

  -- an accepted shape has passed them
  pub tests_passed : Accepted s
      → (size_ok s.columns s.rows s.planes ≡ true)
      × (strength_ok s.planes s.strength s.window ≡ true)
      × (window_ok s.planes s.strength s.window ≡ true)
  unfolding shape_number
  tests_passed p =
      let size = unless_zero (size_ok s.columns s.rows s.planes) 0 _ p in
      let strength = unless_zero (strength_ok s.planes s.strength s.window) 1 _ size.1 in
      (size.0, strength.0, (unless_zero (window_ok s.planes s.strength s.window) 10 0 strength.1).0)

-- it is never 4
pub number_other : (s : Shape) → shape_number s ≡ 4 → ⊥
unfolding shape_number
number_other s e =
    go (size_ok s.columns s.rows s.planes) (strength_ok s.planes s.strength s.window)
    (window_ok s.planes s.strength s.window) e
  where
    go : (a b c : Bool) → unless a 1 (unless b 2 (unless c 11 0)) ≡ 4 → ⊥
    go true true true p = omega arith
    go true true false p = omega arith
    go true false c p = omega arith
    go false b c p = omega arith

-- the numbers of a shape within the limits
pub record Legal (s : Shape) : Type 0 where
  pub width_low : 1 ≤ s.columns
  pub width_high : s.columns ≤ max_side
  pub height_low : 1 ≤ s.rows
  pub height_high : s.rows ≤ max_side
  pub planes_low : 1 ≤ s.planes
  pub planes_high : s.planes ≤ max_planes
  pub product : s.columns * s.rows * s.planes ≤ max_cells
  pub strength_high : s.strength ≤ max_strength s.planes

-- the test of a strength, and that of a window, by whether the strength is 0
module _ (d t : ℕ) (w : Window) where
  pub strength_none : t ≡ 0 → strength_ok d t w ≡ not (is_none w)
  unfolding strength_ok
  strength_none p = rw (eq-eqb t 0 p)

  pub strength_some : (t ≡ 0 → ⊥) → strength_ok d t w ≡ leb t (max_strength d)
  unfolding strength_ok
  strength_some p = rw (ne_eqb t 0 p)

  pub window_alone : t ≡ 0 → window_ok d t w ≡ can_rule d w
  unfolding window_ok
  window_alone p = rw (eq-eqb t 0 p)

  pub window_beside : (t ≡ 0 → ⊥) → window_ok d t w ≡ is_none w
  unfolding window_ok
  window_beside p = rw (ne_eqb t 0 p)

  strength_limit : strength_ok d t w ≡ true → t ≤ max_strength d
  strength_limit p = go (ℕ_discrete t 0)
    where
      go : Dec (t ≡ 0) → t ≤ max_strength d
      go (yes e) = omega arith
      go (no e) = leb-true t (max_strength d) (sym (strength_some e) ∙ p)

not_zero : (n : ℕ) → not (eqb n 0) ≡ true → 1 ≤ n
not_zero n p = go (ℕ_discrete n 0)
  where
    go : Dec (n ≡ 0) → 1 ≤ n
    go (yes e) = absurd (false≢true (sym (ap not (eq-eqb n 0 e)) ∙ p))
    go (no e) = omega arith

-- accepted numbers are within the limits
pub legal : (s : Shape) → Accepted s → Legal s
unfolding size_ok
legal s p =
    let w = s.columns in
    let h = s.rows in
    let d = s.planes in
    let t = s.strength in
    let size = (tests_passed s p).0 in
    let whd = and_left _ (leb (w * h * d) max_cells) size in
    let wh = and_left _ (in_range 1 max_planes d) whd in
    record {
      width_low = range_low 1 max_side w (and_left _ (in_range 1 max_side h) wh);
      width_high = range_high 1 max_side w (and_left _ (in_range 1 max_side h) wh);
      height_low = range_low 1 max_side h (and_right (in_range 1 max_side w) _ wh);
      height_high = range_high 1 max_side h (and_right (in_range 1 max_side w) _ wh);
      planes_low = range_low 1 max_planes d (and_right (in_range 1 max_side w && in_range 1 max_side h) _ whd);
      planes_high = range_high 1 max_planes d (and_right (in_range 1 max_side w && in_range 1 max_side h) _ whd);
      product = leb-true (w * h * d) max_cells
          (and_right (in_range 1 max_side w && in_range 1 max_side h && in_range 1 max_planes d) _ size);
      strength_high = strength_limit d t s.window (tests_passed s p).1;
    }

module _ (s : Shape) (p : Accepted s) where
  -- an accepted flat strength is at most 32, and an accepted stack strength at most 8
  strength_flat : s.planes ≡ 1 → s.strength ≤ max_flat_strength
  strength_flat e = rw (max_flat s.planes e) at (legal s p).strength_high

  pub strength_stack : (s.planes ≡ 1 → ⊥) → s.strength ≤ max_stack_strength
  strength_stack e = rw (max_stack s.planes e) at (legal s p).strength_high

  -- an accepted strength is at most 32
  pub strength_most : s.strength ≤ max_flat_strength
  strength_most = go (eqb s.planes 1) refl
    where
      go : (b : Bool) → eqb s.planes 1 ≡ b → s.strength ≤ max_flat_strength
      go true e = strength_flat (eqb-true s.planes 1 e)
      go false e = le_trans (strength_stack (eqb-false s.planes 1 e)) (lit≤ tt)

-- what an accepted shape of strength 0 has: one plane, and a window of 1 to 512 cells
pub record WindowLegal (s : Shape) : Type 0 where
  pub flat : s.planes ≡ 1
  pub rows : 1 ≤ s.window.rows
  pub columns : 1 ≤ s.window.columns
  pub few : s.window.rows * s.window.columns ≤ max_window

pub window_legal : (s : Shape) → Accepted s → s.strength ≡ 0 → WindowLegal s
window_legal s a z =
    let p = s.window.rows in
    let q = s.window.columns in
    let sides = not (eqb p 0) && not (eqb q 0) in
    let few = leb (p * q) max_window in
    let all = sym (window_alone s.planes s.strength s.window z) ∙ (tests_passed s a).2 in
    let three : (sides && few) ≡ true = and_left (sides && few) (leb s.planes 1) all in
    let two : sides ≡ true = and_left sides few three in
    let flat : s.planes ≤ 1 = leb-true _ _ (and_right (sides && few) _ all) in
    record {
      flat = omega (arith, (legal s a).planes_low);
      rows = not_zero p (and_left _ (not (eqb q 0)) two);
      columns = not_zero q (and_right (not (eqb p 0)) _ two);
      few = leb-true _ _ (and_right sides few three);
    }

-- each side is at most the number of cells
module _ (s : Shape) (a : Accepted s) (z : s.strength ≡ 0) where
  pub rows_few : s.window.rows ≤ max_window
  rows_few =
      let g = window_legal s a z in
      omega (arith, g.few, mul-le-mul (le_refl s.window.rows) g.columns)

  pub columns_few : s.window.columns ≤ max_window
  columns_few =
      let g = window_legal s a z in
      omega (arith, g.few, mul-le-mul g.rows (le_refl s.window.columns))
