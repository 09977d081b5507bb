-- Points of the endless stack by the parts of their coordinates: when two are one, how far they are apart, and the cells of a
-- field among them.
use Prim.Native.Nat.{ℕ, ◌+◌}
use mathlib.Core.Path.{◌≡◌, sym, ◌∙◌, ap, ap₂}
use native.Mathlib.Omega.{arith}
use lib.IntN.{ℤ, pos, sub_ℕ, nat_abs, ◌-ℤ◌}
use Rattle.lattice.specs.Cell.{Cell}
use Rattle.lattice.specs.Cluster.{apart, distance}
use Rattle.lattice.specs.Endless.{Point, point_of, point_distance}
use Rattle.lattice.proofs.theory.Integers.{up, down, sub_of, sub_eq, sub_sub, nat_abs_sub}

-- z and w are one integer where their crossed parts add up alike
pub coordinate_eq : (z w : ℤ) → up z + down w ≡ up w + down z → z ≡ w
coordinate_eq z w e = sym (sub_of z) ∙ sub_eq (up z) (down z) (up w) (down w) e ∙ sub_of w

pub difference : (z w : ℤ) → w -ℤ z ≡ sub_ℕ (up w + down z) (down w + up z)
difference z w = ap₂ (λ (x y : ℤ). x -ℤ y) (sym (sub_of w)) (sym (sub_of z)) ∙ sub_sub (up w) (down w) (up z) (down z)

-- how far two coordinates are apart
pub coordinate_apart : (z w : ℤ) → nat_abs (w -ℤ z) ≡ apart (up z + down w) (up w + down z)
unfolding apart
coordinate_apart z w =
    ap nat_abs (difference z w)
    ∙ nat_abs_sub (up w + down z) (down w + up z)
    ∙ omega arith

pub point_eq : (x y : Point) → x.row ≡ y.row → x.plane ≡ y.plane → x.column ≡ y.column → x ≡ y
point_eq x y r p c = λ i. record { row = r i; plane = p i; column = c i }

-- the distance of two cells of a field is that of their points
pub cell_distance : (x y : Cell) → point_distance (point_of x) (point_of y) ≡ distance x y
unfolding point_distance distance apart
cell_distance x y = ap₂ ◌+◌ (ap₂ ◌+◌ (one x.row y.row) (one x.plane y.plane)) (one x.column y.column)
  where
    one : (a b : ℕ) → nat_abs (pos b -ℤ pos a) ≡ apart a b
    one a b = coordinate_apart (pos a) (pos b) ∙ omega arith
