-- The endless stack: cells at all integer coordinates, their distance and their classes.
use Rattle.std.specs.Prelude.{ℕ, ◌+◌, ◌<◌, ◌≤◌, ◌≢◌, ◌≡◌, ℤ, pos, nat_abs, ◌-ℤ◌, ◌*ℤ◌}
use Rattle.lattice.specs.declared.settings.Settings.{Settings}
use Rattle.lattice.specs.declared.distance.Triple.{Triple}
use Rattle.lattice.specs.Cell.{Cell}

-- a cell of the endless stack
pub record Point : Type 0 where
  pub row : ℤ
  pub plane : ℤ
  pub column : ℤ

-- a cell of a field, in the endless stack
abbrev pub point_of : Cell → Point
point_of x = record { row = pos x.row; plane = pos x.plane; column = pos x.column }

-- the point with the coordinates of a triple
abbrev pub point_at : Triple → Point
point_at x = record { row = x.row; plane = x.plane; column = x.column }

-- the sum of the absolute differences of the coordinates
unfoldable pub point_distance : Point → Point → ℕ
point_distance x y = nat_abs (y.row -ℤ x.row) + nat_abs (y.plane -ℤ x.plane) + nat_abs (y.column -ℤ x.column)

-- z is a multiple of m
abbrev pub Multiple : ℕ → ℤ → Type 0
Multiple m z = (k : ℤ) × (z ≡ k *ℤ pos m)

-- the class of the point is r: r is below m, and column − b × row − c × plane − r is a multiple of m
pub record HasClass (k : Settings) (x : Point) (r : ℕ) : Type 0 where
  pub below : r < k.m
  pub rest : Multiple k.m (x.column -ℤ pos k.b *ℤ x.row -ℤ pos k.c *ℤ x.plane -ℤ pos r)

-- all different points of one class are at least t apart
abbrev pub Apart : Settings → ℕ → Type 0
Apart k t = (x y : Point) (r : ℕ) → HasClass k x r → HasClass k y r → x ≢ y → t ≤ point_distance x y

-- the same on the endless plane: of the points of plane 0
abbrev pub ApartOnPlane : Settings → ℕ → Type 0
ApartOnPlane k t =
    (x y : Point) (r : ℕ) → x.plane ≡ pos 0 → y.plane ≡ pos 0 → HasClass k x r → HasClass k y r → x ≢ y → t ≤ point_distance x y
