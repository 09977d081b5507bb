-- On the endless plane the flat settings keep different cells of one class at least t apart, for every t of at least 1.
use Prim.Native.Nat.{ℕ, zero, suc, ◌+◌, ◌-◌, ◌*◌, ◌/◌, ◌%◌, ◌<◌, ◌≤◌}
use mathlib.Core.Path.{◌≡◌, refl, sym, ◌∙◌, ap, subst₃}
use native.Mathlib.Nat.{div-eq_of_eq-mul_right, mod-lt}
use native.Mathlib.Decide.{ℕ_discrete}
use native.Mathlib.Omega.{arith}
use lib.Dec.{lit<}
use Rattle.lattice.specs.Settings.{odd_settings, even_settings, flat_settings}
use Rattle.lattice.specs.Endless.{Point, HasClass, point_distance}
use Rattle.lattice.proofs.theory.Integers.{up, down}
use Rattle.lattice.proofs.theory.Residue.{same_class}
use Rattle.lattice.proofs.theory.SettingsLaws.{flat_odd, flat_even, flat_plane}
use Rattle.lattice.proofs.theory.FlatLattice.{Forbids, odd_forbids, even_forbids, one_cell}
use Rattle.lattice.proofs.theory.Points.{coordinate_eq, coordinate_apart, point_eq}

-- the flat settings forbid them for every t of at least 1
odd_settings_lem : (t : ℕ) → t % 2 ≡ 1 → Forbids t (odd_settings t).m (odd_settings t).b
unfolding odd_settings
odd_settings_lem t odd = subst₃ (λ (a b c : ℕ). Forbids a b c) t_is m_is t_is (odd_forbids k)
  where
    k : ℕ
    k = t / 2

    t_is : 2 * k + 1 ≡ t
    t_is = omega arith

    m_is : 2 * (k * k) + 2 * k + 1 ≡ (t * t + 1) / 2
    m_is = sym (div-eq_of_eq-mul_right (lit< tt) (ap (λ (n : ℕ). n * n + 1) (sym t_is) ∙ omega arith))

even_settings_lem : (t : ℕ) → 1 ≤ t → (t % 2 ≡ 1 → ⊥) → Forbids t (even_settings t).m (even_settings t).b
unfolding even_settings
even_settings_lem t some even = subst₃ (λ (a b c : ℕ). Forbids a b c) t_is m_is (ap (λ (n : ℕ). n + 1) t_is) (even_forbids k)
  where
    k : ℕ
    k = t / 2 - 1

    half : 1 ≤ t / 2
    half = one (t % 2) (mod-lt t (lit< tt)) refl
      where
        one : (r : ℕ) → r < 2 → t % 2 ≡ r → 1 ≤ t / 2
        one zero l e = omega arith
        one (suc zero) l e = absurd (even e)
        one (suc (suc r)) l e = absurd (omega arith)

    t_is : 2 * suc k ≡ t
    t_is = omega (arith, half)

    m_is : 2 * (suc k * suc k) ≡ t * t / 2
    m_is = sym (div-eq_of_eq-mul_right (lit< tt) (ap (λ (n : ℕ). n * n) (sym t_is) ∙ omega arith))

flat_forbids : (t : ℕ) → 1 ≤ t → Forbids t (flat_settings t).m (flat_settings t).b
flat_forbids t some = go (ℕ_discrete (t % 2) 1)
  where
    go : Dec (t % 2 ≡ 1) → Forbids t (flat_settings t).m (flat_settings t).b
    go (yes odd) = rw (flat_odd t odd) (odd_settings_lem t odd)
    go (no even) = rw (flat_even t even) (even_settings_lem t some even)

module _ (t : ℕ) (some : 1 ≤ t) (x y : Point) (r : ℕ) (hx : HasClass (flat_settings t) x r)
    (hy : HasClass (flat_settings t) y r) where
  -- in one class, with the parts of the coordinates crossed
  crossed : (up x.column + down y.column + (flat_settings t).b * (up y.row + down x.row)) % (flat_settings t).m
      ≡ (up y.column + down x.column + (flat_settings t).b * (up x.row + down y.row)) % (flat_settings t).m
  crossed =
      ap (λ (n : ℕ). n % (flat_settings t).m) (rw (flat_plane t) (omega arith))
      ∙ same_class (flat_settings t) x y r hx hy
      ∙ ap (λ (n : ℕ). n % (flat_settings t).m) (rw (flat_plane t) (omega arith))

  pub near_is_one : x.plane ≡ y.plane → point_distance x y < t → x ≡ y
  unfolding point_distance
  near_is_one planes near =
      point_eq x y (coordinate_eq x.row y.row found.0) planes
      (coordinate_eq x.column y.column found.1)
    where
      found : (up x.row + down y.row ≡ up y.row + down x.row)
          × (up x.column + down y.column ≡ up y.column + down x.column)
      found =
          one_cell t (flat_settings t).m (flat_settings t).b (flat_forbids t some) (up x.column + down y.column)
          (up y.column + down x.column) (up x.row + down y.row) (up y.row + down x.row) crossed
          (omega (arith, coordinate_apart x.row y.row, coordinate_apart x.column y.column))
