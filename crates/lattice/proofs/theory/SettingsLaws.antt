-- The settings: the flat rule by the parity of t, and the bounds on m.
use Prim.Native.Nat.{ℕ, zero, suc, ◌*◌, ◌%◌, ◌≤◌}
use mathlib.Core.Bool.{Bool, cond, true, false}
use mathlib.Core.Path.{◌≡◌, refl}
use native.Mathlib.Omega.{arith}
use native.Mathlib.Nat.{mul-le-mul, le_trans}
use lib.Dec.{eqb, lit≤}
use borrow.Author.Tests.{eq-eqb, ne_eqb, eqb-true, eqb-false}
use Rattle.lattice.specs.declared.shape.Shape.{Shape}
use Rattle.lattice.specs.Shape.{max_flat_strength, max_classes, Accepted}
use Rattle.lattice.specs.Settings.{is_odd, odd_settings, even_settings, flat_settings, stack_table, stack_settings}
use Rattle.lattice.specs.Settings.{settings_for, settings_of}
use Rattle.lattice.proofs.theory.Limits.{strength_stack, strength_most}

-- the flat rule by the parity of t
pub flat_odd : (t : ℕ) → t % 2 ≡ 1 → flat_settings t ≡ odd_settings t
unfolding flat_settings
flat_odd t p = rw (eq-eqb (t % 2) 1 p)

pub flat_even : (t : ℕ) → (t % 2 ≡ 1 → ⊥) → flat_settings t ≡ even_settings t
unfolding flat_settings
flat_even t p = rw (ne_eqb (t % 2) 1 p)

-- the flat rule does not look at the plane
pub flat_plane : (t : ℕ) → (flat_settings t).c ≡ 0
unfolding flat_settings odd_settings even_settings
flat_plane t = go (is_odd t)
  where
    go : (odd : Bool) → (cond odd (odd_settings t) (even_settings t)).c ≡ 0
    go true = refl
    go false = refl

-- the settings of a flat field and of a stack
pub settings_flat : (d t : ℕ) → d ≡ 1 → settings_for d t ≡ flat_settings t
unfolding settings_for
settings_flat d t p = rw (eq-eqb d 1 p)

pub settings_stack : (d t : ℕ) → (d ≡ 1 → ⊥) → settings_for d t ≡ stack_settings t
unfolding settings_for
settings_stack d t p = rw (ne_eqb d 1 p)

-- a square, of a bounded number
square_most : (t n : ℕ) → t ≤ n → t * t ≤ n * n
square_most t n p = mul-le-mul p p

-- every flat strength of at least 1 has at least one class
pub flat_some : (t : ℕ) → 1 ≤ t → 1 ≤ (flat_settings t).m
unfolding odd_settings even_settings
flat_some t p = go (eqb (t % 2) 1) refl
  where
    go : (b : Bool) → eqb (t % 2) 1 ≡ b → 1 ≤ (flat_settings t).m
    go true e = rw (flat_odd t (eqb-true (t % 2) 1 e)) (omega (arith, square_most 1 t p))
    go false e =
        let o = eqb-false (t % 2) 1 e in
        let two : 2 ≤ t = omega arith in
        rw (flat_even t o) (omega (arith, square_most 2 t two))

-- a flat strength of at most 32 has at most 512 classes
flat_most : (t : ℕ) → t ≤ max_flat_strength → (flat_settings t).m ≤ max_classes
unfolding odd_settings even_settings
flat_most t p = go (eqb (t % 2) 1) refl
  where
    go : (b : Bool) → eqb (t % 2) 1 ≡ b → (flat_settings t).m ≤ max_classes
    go true e =
        let o = eqb-true (t % 2) 1 e in
        let below : t ≤ 31 = omega arith in
        rw (flat_odd t o) (omega (arith, square_most t 31 below))
    go false e = rw (flat_even t (eqb-false (t % 2) 1 e)) (omega (arith, square_most t max_flat_strength p))

-- the stack rows of the strengths 1 to 8 have 1 to 92 classes
pub stack_bounds : (t : ℕ) → 1 ≤ t → t ≤ 8 → (1 ≤ (stack_settings t).m) × ((stack_settings t).m ≤ 92)
unfolding stack_settings stack_table
stack_bounds zero p q = absurd (omega arith)
stack_bounds (suc zero) p q = (lit≤ tt, lit≤ tt)
stack_bounds (suc (suc zero)) p q = (lit≤ tt, lit≤ tt)
stack_bounds (suc (suc (suc zero))) p q = (lit≤ tt, lit≤ tt)
stack_bounds (suc (suc (suc (suc zero)))) p q = (lit≤ tt, lit≤ tt)
stack_bounds (suc (suc (suc (suc (suc zero))))) p q = (lit≤ tt, lit≤ tt)
stack_bounds (suc (suc (suc (suc (suc (suc zero)))))) p q = (lit≤ tt, lit≤ tt)
stack_bounds (suc (suc (suc (suc (suc (suc (suc zero))))))) p q = (lit≤ tt, lit≤ tt)
stack_bounds (suc (suc (suc (suc (suc (suc (suc (suc zero)))))))) p q = (lit≤ tt, lit≤ tt)
stack_bounds (suc (suc (suc (suc (suc (suc (suc (suc (suc t))))))))) p q = absurd (omega arith)

-- the settings of an accepted shape by strength have at least one class, and at most 512
module _ (s : Shape) (a : Accepted s) (some : 1 ≤ s.strength) where
  pub settings_some : 1 ≤ (settings_of s).m
  settings_some = go (eqb s.planes 1) refl
    where
      go : (b : Bool) → eqb s.planes 1 ≡ b → 1 ≤ (settings_of s).m
      go true e = rw (settings_flat _ s.strength (eqb-true s.planes 1 e)) (flat_some _ some)
      go false e =
          rw
          (settings_stack _ s.strength (eqb-false s.planes 1 e))
          (stack_bounds _ some (strength_stack s a (eqb-false s.planes 1 e))).0

  pub settings_most : (settings_of s).m ≤ max_classes
  settings_most = go (eqb s.planes 1) refl
    where
      go : (b : Bool) → eqb s.planes 1 ≡ b → (settings_of s).m ≤ max_classes
      go true e = rw (settings_flat _ s.strength (eqb-true s.planes 1 e)) (flat_most _ (strength_most s a))
      go false e =
          rw
          (settings_stack _ s.strength (eqb-false s.planes 1 e))
          (le_trans (stack_bounds _ some (strength_stack s a (eqb-false s.planes 1 e))).1 (lit≤ tt))
