-- The flat settings as a plane lattice: differences of cells of one class that are shorter than t are 0, for every t.
use Prim.Native.Nat.{ℕ, zero, suc, ◌+◌, ◌*◌, ◌%◌, ◌<◌, ◌≤◌}
use mathlib.Core.Path.{◌≡◌, refl, sym}
use native.Mathlib.Nat.{mul-le-mul_left, lt_of_not-le, le_dest}
use native.Mathlib.Decide.{dec_le}
use native.Mathlib.Omega.{arith}
use Rattle.lattice.specs.Cluster.{apart}
use Rattle.lattice.proofs.theory.Remainder.{multiple_between}

-- what the steps b and m of a plane lattice forbid to differences X of columns and Y of rows below t
pub record Forbids (t m b : ℕ) : Type 0 where
  pub steep : t ≤ b
  pub long : t ≤ m
  pub back : (X Y n : ℕ) → b * Y ≡ X + suc n * m → X + Y < t → ⊥
  pub across : (X Y n : ℕ) → X + b * Y ≡ suc n * m → X + Y < t → ⊥

-- odd t = 2k + 1: m = 2k² + 2k + 1, b = t
module _ (k : ℕ) where
  odd_back : (X Y n : ℕ) → (2 * k + 1) * Y ≡ X + suc n * (2 * (k * k) + 2 * k + 1) → X + Y < 2 * k + 1 → ⊥
  odd_back X Y (suc n) e l = omega (arith, mul-le-mul_left (2 * k + 1) y)
    where
      y : Y ≤ 2 * k
      y = omega arith
  odd_back X Y zero e l = go (dec_le Y k)
    where
      go : Dec (Y ≤ k) → ⊥
      go (yes h) = omega (arith, mul-le-mul_left (2 * k + 1) h)
      go (no h) = omega (arith, mul-le-mul_left (2 * k + 2) (lt_of_not-le h))

  odd_across : (X Y n : ℕ) → X + (2 * k + 1) * Y ≡ suc n * (2 * (k * k) + 2 * k + 1) → X + Y < 2 * k + 1 → ⊥
  odd_across X Y (suc n) e l = omega (arith, mul-le-mul_left (2 * k) y)
    where
      y : Y ≤ 2 * k
      y = omega arith
  odd_across X Y zero e l = go (dec_le Y k)
    where
      go : Dec (Y ≤ k) → ⊥
      go (yes h) = omega (arith, mul-le-mul_left (2 * k) h)
      go (no h) = omega (arith, mul-le-mul_left (2 * k + 1) (lt_of_not-le h))

  pub odd_forbids : Forbids (2 * k + 1) (2 * (k * k) + 2 * k + 1) (2 * k + 1)
  odd_forbids = record { steep = omega arith; long = omega arith; back = odd_back; across = odd_across }

-- even t = 2k with k at least 1: m = 2k², b = t + 1
module _ (j : ℕ) where
  even_back : (X Y n : ℕ) → (2 * suc j + 1) * Y ≡ X + suc n * (2 * (suc j * suc j)) → X + Y < 2 * suc j → ⊥
  even_back X Y (suc n) e l = omega (arith, mul-le-mul_left (2 * suc j + 1) y)
    where
      y : Y ≤ 2 * j + 1
      y = omega arith
  even_back X Y zero e l = go (dec_le Y j)
    where
      go : Dec (Y ≤ j) → ⊥
      go (yes h) = omega (arith, mul-le-mul_left (2 * suc j + 1) h)
      go (no h) = omega (arith, mul-le-mul_left (2 * suc j + 2) (lt_of_not-le h))

  even_across : (X Y n : ℕ) → X + (2 * suc j + 1) * Y ≡ suc n * (2 * (suc j * suc j)) → X + Y < 2 * suc j → ⊥
  even_across X Y (suc n) e l = omega (arith, mul-le-mul_left (2 * suc j) y)
    where
      y : Y ≤ 2 * j + 1
      y = omega arith
  even_across X Y zero e l = go (dec_le Y j)
    where
      go : Dec (Y ≤ j) → ⊥
      go (yes h) = omega (arith, mul-le-mul_left (2 * suc j) h)
      go (no h) = omega (arith, mul-le-mul_left (2 * suc j + 1) (lt_of_not-le h))

  pub even_forbids : Forbids (2 * suc j) (2 * (suc j * suc j)) (2 * suc j + 1)
  even_forbids = record { steep = omega arith; long = omega arith; back = even_back; across = even_across }

-- differences X, Y of cells of one class that are shorter than t are 0
module _ (t m b : ℕ) (forbids : Forbids t m b) where
  along : (X Y n : ℕ) → X ≡ b * Y + n * m → X + Y < t → (X ≡ 0) × (Y ≡ 0)
  along X zero zero e l = (omega arith, refl)
  along X zero (suc n) e l = absurd (omega (arith, forbids.long))
  along X (suc Y) n e l = absurd (omega (arith, forbids.steep))

  back_zero : (X Y n : ℕ) → b * Y ≡ X + n * m → X + Y < t → (X ≡ 0) × (Y ≡ 0)
  back_zero X Y zero e l = along X Y 0 (omega arith) l
  back_zero X Y (suc n) e l = absurd (forbids.back X Y n e l)

  across_zero : (X Y n : ℕ) → X + b * Y ≡ n * m → X + Y < t → (X ≡ 0) × (Y ≡ 0)
  across_zero X zero zero e l = (omega arith, refl)
  across_zero X (suc Y) zero e l = absurd (omega (arith, forbids.steep))
  across_zero X Y (suc n) e l = absurd (forbids.across X Y n e l)

  -- the same for four coordinates, the rows r and r + Y
  rising_columns : (c X r Y : ℕ) → (c + b * r) % m ≡ (c + X + b * (r + Y)) % m → X + Y < t → (X ≡ 0) × (Y ≡ 0)
  rising_columns c X r Y same near =
      let between : (j : ℕ) × (c + X + b * (r + Y) ≡ c + b * r + j * m) =
      multiple_between (c + b * r) (c + X + b * (r + Y)) m (omega arith) same in
      across_zero X Y between.0 (omega (arith, between.1)) near

  falling_columns : (c X r Y : ℕ) → (c + X + b * r) % m ≡ (c + b * (r + Y)) % m → X + Y < t → (X ≡ 0) × (Y ≡ 0)
  falling_columns c X r Y same near = go (dec_le X (b * Y))
    where
      go : Dec (X ≤ b * Y) → (X ≡ 0) × (Y ≡ 0)
      go (yes l) =
          let between : (j : ℕ) × (c + b * (r + Y) ≡ c + X + b * r + j * m) =
          multiple_between (c + X + b * r) (c + b * (r + Y)) m (omega arith) same in
          back_zero X Y between.0 (omega (arith, between.1)) near
      go (no l) =
          let below : b * Y ≤ X = omega (arith, lt_of_not-le l) in
          let between : (j : ℕ) × (c + X + b * r ≡ c + b * (r + Y) + j * m) =
          multiple_between (c + b * (r + Y)) (c + X + b * r) m (omega arith) (sym same) in
          along X Y between.0 (omega (arith, between.1)) near

  rising_rows : (c₁ c₂ r Y : ℕ) → (c₁ + b * r) % m ≡ (c₂ + b * (r + Y)) % m → apart c₁ c₂ + Y < t → (c₁ ≡ c₂) × (Y ≡ 0)
  unfolding apart
  rising_rows c₁ c₂ r Y same near = go (dec_le c₁ c₂)
    where
      go : Dec (c₁ ≤ c₂) → (c₁ ≡ c₂) × (Y ≡ 0)
      go (yes l) =
          let X : (k : ℕ) × (c₁ + k ≡ c₂) = le_dest l in
          let zeros : (X.0 ≡ 0) × (Y ≡ 0) = rising_columns c₁ X.0 r Y (rw X.1 same) (omega (arith, X.1)) in
          (omega (arith, X.1, zeros.0), zeros.1)
      go (no l) =
          let X : (k : ℕ) × (c₂ + k ≡ c₁) = le_dest (omega (arith, lt_of_not-le l)) in
          let zeros : (X.0 ≡ 0) × (Y ≡ 0) = falling_columns c₂ X.0 r Y (rw X.1 same) (omega (arith, X.1)) in
          (omega (arith, X.1, zeros.0), zeros.1)

  -- two cells of one class of the plane that are closer than t are one cell
  pub one_cell : (c₁ c₂ r₁ r₂ : ℕ) → (c₁ + b * r₂) % m ≡ (c₂ + b * r₁) % m → apart r₁ r₂ + apart c₁ c₂ < t → (r₁ ≡ r₂) × (c₁ ≡ c₂)
  unfolding apart
  one_cell c₁ c₂ r₁ r₂ same near = go (dec_le r₁ r₂)
    where
      go : Dec (r₁ ≤ r₂) → (r₁ ≡ r₂) × (c₁ ≡ c₂)
      go (yes l) =
          let Y : (k : ℕ) × (r₁ + k ≡ r₂) = le_dest l in
          let zeros : (c₂ ≡ c₁) × (Y.0 ≡ 0) = rising_rows c₂ c₁ r₁ Y.0 (rw Y.1 (sym same)) (omega (arith, Y.1)) in
          (omega (arith, Y.1, zeros.1), sym zeros.0)
      go (no l) =
          let Y : (k : ℕ) × (r₂ + k ≡ r₁) = le_dest (omega (arith, lt_of_not-le l)) in
          let zeros : (c₁ ≡ c₂) × (Y.0 ≡ 0) = rising_rows c₁ c₂ r₂ Y.0 (rw Y.1 same) (omega (arith, Y.1)) in
          (omega (arith, Y.1, zeros.1), zeros.0)
