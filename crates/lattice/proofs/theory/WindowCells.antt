-- The classes by a window: different cells of one plane that are near, less than p rows and less than q columns apart, have
-- different ones. The cells of one window are near, and so are those of a small patch.
use Prim.Native.Nat.{ℕ, ◌/◌, ◌%◌, ◌<◌, ◌≤◌}
use mathlib.Core.Path.{◌≡◌, ap, sym, ◌∙◌}
use native.Mathlib.Decide.{dec_le}
use native.Mathlib.Nat.{mod-lt}
use native.Mathlib.Omega.{arith}
use lib.Arith.{digits_div, digits_mod}
use lib.IntN.{ℤ, pos, ◌+ℤ◌}
use Rattle.lattice.specs.declared.shape.Shape.{Shape}
use Rattle.lattice.specs.declared.shape.Window.{Window}
use Rattle.lattice.specs.Shape.{window}
use Rattle.lattice.specs.Cell.{Cell, InField}
use Rattle.lattice.specs.Cluster.{apart, AtMost}
use Rattle.lattice.specs.Window.{InWindow, Patch}
use Rattle.lattice.specs.Class.{window_class, class_of}
use Rattle.lattice.proofs.theory.Distances.{apart_self, apart_triangle, cell_path}
use Rattle.lattice.proofs.theory.Integers.{sum_parts}
use Rattle.lattice.proofs.theory.Paths.{path_short}
use Rattle.lattice.proofs.theory.Placements.{class_window}
use Rattle.lattice.proofs.theory.Remainder.{near_remainder}

-- numbers with one remainder by m and less than m apart are equal
same_remainder : (a b m : ℕ) → apart a b < m → a % m ≡ b % m → a ≡ b
unfolding apart
same_remainder a b m near e = go (dec_le a b)
  where
    go : Dec (a ≤ b) → a ≡ b
    go (yes l) = near_remainder a b m l (omega arith) e
    go (no l) = sym (near_remainder b a m (omega arith) (omega arith) (sym e))

-- two cells of one plane, less than p rows and less than q columns apart
pub record Near (w : Window) (x y : Cell) : Type 0 where
  pub plane : x.plane ≡ y.plane
  pub rows : apart x.row y.row < w.rows
  pub columns : apart x.column y.column < w.columns

-- near cells of one class are one cell
same_window_class : (w : Window) (x y : Cell) → Near w x y → window_class w x ≡ window_class w y → x ≡ y
unfolding window_class
same_window_class w x y near e =
    let q = w.columns in
    let some : 0 < q = omega (arith, near.columns) in
    let below-x = mod-lt x.column some in
    let below-y = mod-lt y.column some in
    let row = x.row % w.rows in
    let row-y = y.row % w.rows in
    cell_path x y
    (same_remainder x.row y.row w.rows near.rows
    (sym (digits_div row below-x) ∙ ap (λ (n : ℕ). n / q) e ∙ digits_div row-y below-y))
    near.plane
    (same_remainder x.column y.column q near.columns
    (sym (digits_mod row below-x) ∙ ap (λ (n : ℕ). n % q) e ∙ digits_mod row-y below-y))

pub near_class : (s : Shape) → s.strength ≡ 0 → (x y : Cell) → Near s.window x y → class_of s x ≡ class_of s y → x ≡ y
near_class s z x y near e =
    same_window_class s.window x y near (sym (class_window s z x) ∙ e ∙ class_window s z y)

-- numbers that are less than p down from one integer are less than p apart
stretch : (z : ℤ) (p d e a b : ℕ) → d < p → e < p → pos a ≡ z +ℤ pos d → pos b ≡ z +ℤ pos e → apart a b < p
unfolding apart
stretch z p d e a b low high at_a at_b = omega (arith, sum_parts z d a at_a, sum_parts z e b at_b)

-- the cells of a flat field lie in one plane
one_plane : (s : Shape) → s.planes ≡ 1 → (x y : Cell) → InField s x → InField s y → x.plane ≡ y.plane
one_plane s flat x y hx hy = omega (arith, hx.plane, hy.plane)

module _ (s : Shape) (flat : s.planes ≡ 1) where
  -- the cells of one window are near
  pub window_near : (w : Window) (r c : ℤ) (x y : Cell) → InField s x → InField s y → InWindow w r c x → InWindow w r c y
      → Near w x y
  window_near w r c x y hx hy wx wy =
      record {
        plane = one_plane s flat x y hx hy;
        rows = stretch r w.rows wx.down wy.down x.row y.row wx.rows wy.rows wx.row wy.row;
        columns = stretch c w.columns wx.across wy.across x.column y.column wx.columns wy.columns
            wx.column wy.column;
      }

  -- and those of one patch of at most t cells, for the window t by t
  pub patch_near : (t : ℕ) (S : Cell → Type 0) → Patch s S → AtMost t S → (x y : Cell) → S x → S y → Near (window t t) x y
  patch_near t S patch small x y hx hy =
      let path = patch.linked x y hx hy in
      record {
        plane = one_plane s flat x y (patch.inside x hx) (patch.inside y hy);
        rows = path_short (λ a. apart x.row a.row)
            (λ a b touch. omega (arith, apart_triangle x.row a.row b.row, touch.row)) t small path
            (apart_self x.row);
        columns = path_short (λ a. apart x.column a.column)
            (λ a b touch. omega (arith, apart_triangle x.column a.column b.column, touch.column)) t small path
            (apart_self x.column);
      }
