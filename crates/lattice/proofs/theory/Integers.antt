-- Laws of the integers as differences of two natural numbers, `sub_ℕ a b` = a − b.
use Prim.Native.Nat.{ℕ, zero, suc, ◌+◌, ◌-◌, ◌*◌, ◌/◌, ◌%◌, ◌<◌, ◌≤◌}
use mathlib.Core.Bool.{Bool, true, false, not, cond}
use mathlib.Core.Path.{◌≡◌, refl, sym, ◌∙◌, ap}
use mathlib.Core.Logic.{◌↔◌}
use native.Mathlib.Decide.{dec_le}
use native.Mathlib.Nat.{add-zero, add-mod-mod, mul-mod_left, mul-mod_right, mul-sub, mod-add-div, mod-add-div'}
use native.Mathlib.Omega.{arith}
use lib.Dec.{T, ltb, ltb→lt, nltb→le}
use lib.IntN.{ℤ, pos, negsuc, neg_ℤ, nat_abs, sub_ℕ, ◌+ℤ◌, ◌-ℤ◌, ◌*ℤ◌}
use Rattle.lattice.specs.Endless.{Multiple}

-- an integer's positive and negative part
abbrev pub up : ℤ → ℕ
up (pos n) = n
up (negsuc n) = 0

abbrev pub down : ℤ → ℕ
down (pos n) = 0
down (negsuc n) = suc n

cond_ind : (c : Bool) (x y : ℤ) (P : ℤ → Type 0) → (T c → P x) → (T (not c) → P y) → P (cond c x y)
cond_ind true x y P f g = f tt
cond_ind false x y P f g = g tt

-- a − b is the integer z with a + down z = b + up z
sub_parts : (a b : ℕ) → a + down (sub_ℕ a b) ≡ b + up (sub_ℕ a b)
sub_parts a b =
    cond_ind (ltb a b) (negsuc (b - suc a)) (pos (a - b)) (λ z. a + down z ≡ b + up z)
    (λ t. let h : a < b = ltb→lt a b t in omega arith)
    (λ t. let h : b ≤ a = nltb→le a b t in omega arith)

-- an integer is determined by the difference of its parts
parts_one : (z w : ℤ) → up z + down w ≡ up w + down z → z ≡ w
parts_one (pos m) (pos n) e = ap pos (omega arith)
parts_one (pos m) (negsuc n) e = absurd (omega arith)
parts_one (negsuc m) (pos n) e = absurd (omega arith)
parts_one (negsuc m) (negsuc n) e = ap negsuc (omega arith)

pub sub_is : (a b : ℕ) (z : ℤ) → a + down z ≡ b + up z → sub_ℕ a b ≡ z
sub_is a b z e = parts_one (sub_ℕ a b) z (omega (arith, sub_parts a b))

-- two differences are equal exactly when the crossed sums are
pub sub_eq : (a b c d : ℕ) → a + d ≡ c + b → sub_ℕ a b ≡ sub_ℕ c d
sub_eq a b c d e = sub_is a b (sub_ℕ c d) (omega (arith, sub_parts c d))

-- each integer is a difference: of its two parts
pub sub_of : (z : ℤ) → sub_ℕ (up z) (down z) ≡ z
sub_of z = sub_is (up z) (down z) z (omega arith)

pub sub_zero : (a : ℕ) → sub_ℕ a 0 ≡ pos a
sub_zero a = sub_is a 0 (pos a) (omega arith)

up_neg : (z : ℤ) → up (neg_ℤ z) ≡ down z
up_neg (pos zero) = refl
up_neg (pos (suc n)) = refl
up_neg (negsuc n) = refl

down_neg : (z : ℤ) → down (neg_ℤ z) ≡ up z
down_neg (pos zero) = refl
down_neg (pos (suc n)) = refl
down_neg (negsuc n) = refl

-- −(a − b) = b − a
pub sub_neg : (a b : ℕ) → neg_ℤ (sub_ℕ a b) ≡ sub_ℕ b a
sub_neg a b = sym (sub_is b a (neg_ℤ (sub_ℕ a b)) (omega (arith, sub_parts a b, up_neg (sub_ℕ a b), down_neg (sub_ℕ a b))))

add_parts : (z w : ℤ) → up (z +ℤ w) + (down z + down w) ≡ down (z +ℤ w) + (up z + up w)
add_parts (pos m) (pos n) = omega arith
add_parts (pos m) (negsuc n) = omega (arith, sub_parts m (suc n))
add_parts (negsuc m) (pos n) = omega (arith, sub_parts n (suc m))
add_parts (negsuc m) (negsuc n) = omega arith

-- a natural number that is z + d, by the parts of z
pub sum_parts : (z : ℤ) (d a : ℕ) → pos a ≡ z +ℤ pos d → a + down z ≡ up z + d
sum_parts z d a e = omega (arith, add_parts z (pos d), ap up e, ap down e)

-- (a − b) + (c − d) = (a + c) − (b + d)
pub sub_add : (a b c d : ℕ) → sub_ℕ a b +ℤ sub_ℕ c d ≡ sub_ℕ (a + c) (b + d)
sub_add a b c d =
    sym
    (sub_is (a + c) (b + d) (sub_ℕ a b +ℤ sub_ℕ c d)
    (omega (arith, sub_parts a b, sub_parts c d, add_parts (sub_ℕ a b) (sub_ℕ c d))))

-- (a − b) − (c − d) = (a + d) − (b + c)
pub sub_sub : (a b c d : ℕ) → sub_ℕ a b -ℤ sub_ℕ c d ≡ sub_ℕ (a + d) (b + c)
sub_sub a b c d = ap (λ z. sub_ℕ a b +ℤ z) (sub_neg c d) ∙ sub_add a b d c

mul_parts : (z w : ℤ) → up (z *ℤ w) + (up z * down w + down z * up w) ≡ down (z *ℤ w) + (up z * up w + down z * down w)
mul_parts (pos m) (pos n) = omega arith
mul_parts (pos m) (negsuc n) = omega (arith, up_neg (pos (m * suc n)), down_neg (pos (m * suc n)))
mul_parts (negsuc m) (pos n) = omega (arith, up_neg (pos (suc m * n)), down_neg (pos (suc m * n)))
mul_parts (negsuc m) (negsuc n) = omega arith

-- (a − b)(c − d) = (ac + bd) − (ad + bc)
sub_mul : (a b c d : ℕ) → sub_ℕ a b *ℤ sub_ℕ c d ≡ sub_ℕ (a * c + b * d) (a * d + b * c)
sub_mul a b c d =
    sym
    (sub_is (a * c + b * d) (a * d + b * c) (z *ℤ w)
    (crossed a b c d (up z) (down z) (up w) (down w) _ _ (sub_parts a b) (sub_parts c d) (mul_parts z w)))
  where
    z : ℤ
    z = sub_ℕ a b

    w : ℤ
    w = sub_ℕ c d

    crossed : (a b c d p n q o u v : ℕ) → a + n ≡ b + p → c + o ≡ d + q → u + (p * o + n * q) ≡ v + (p * q + n * o)
        → a * c + b * d + v ≡ a * d + b * c + u
    crossed a b c d p n q o u v e f g =
        omega (
          arith,
          ap (λ x. x * c) e,
          ap (λ x. x * d) e,
          ap (λ x. x * p) f,
          ap (λ x. x * n) f,
        )

-- k (a − b) = ka − kb
pub sub_scale : (k a b : ℕ) → pos k *ℤ sub_ℕ a b ≡ sub_ℕ (k * a) (k * b)
sub_scale k a b =
    ap (λ z. z *ℤ sub_ℕ a b) (sym (sub_zero k)) ∙ sub_mul k 0 a b
    ∙ sub_eq (k * a + 0 * b) (k * b + 0 * a) (k * a) (k * b) (omega arith)

-- |a − b|
pub nat_abs_sub : (a b : ℕ) → nat_abs (sub_ℕ a b) ≡ (a - b) + (b - a)
nat_abs_sub a b =
    cond_ind (ltb a b) (negsuc (b - suc a)) (pos (a - b)) (λ z. nat_abs z ≡ (a - b) + (b - a))
    (λ t. let h : a < b = ltb→lt a b t in omega arith)
    (λ t. let h : b ≤ a = nltb→le a b t in omega arith)

pub nat_abs_neg : (z : ℤ) → nat_abs (neg_ℤ z) ≡ nat_abs z
nat_abs_neg (pos zero) = refl
nat_abs_neg (pos (suc n)) = refl
nat_abs_neg (negsuc n) = refl

pub nat_abs_mul : (z w : ℤ) → nat_abs (z *ℤ w) ≡ nat_abs z * nat_abs w
nat_abs_mul (pos m) (pos n) = refl
nat_abs_mul (pos m) (negsuc n) = nat_abs_neg (pos (m * suc n))
nat_abs_mul (negsuc m) (pos n) = nat_abs_neg (pos (suc m * n))
nat_abs_mul (negsuc m) (negsuc n) = refl

-- adding x keeps the remainder by m exactly when m divides x
mod_more : (m a x : ℕ) → x % m ≡ 0 → (a + x) % m ≡ a % m
mod_more m a x e = sym (add-mod-mod a x m) ∙ ap (λ y. (a + y) % m) e ∙ ap (λ y. y % m) (add-zero a)

mod_less : (m a x : ℕ) → (a + x) % m ≡ a % m → x % m ≡ 0
mod_less m a x e = ap (λ y. y % m) quotients ∙ mul-mod_right m ((a + x) / m - a / m)
  where
    quotients : x ≡ m * ((a + x) / m - a / m)
    quotients = omega (arith, mul-sub m ((a + x) / m) (a / m), mod-add-div (a + x) m, mod-add-div a m)

-- m divides a − b exactly when a and b leave the same remainder
pub divides_sub : (m a b : ℕ) → (nat_abs (sub_ℕ a b) % m ≡ 0) ↔ (a % m ≡ b % m)
divides_sub m a b = rw nat_abs_sub (go (dec_le a b))
  where
    apart : ℕ
    apart = (a - b) + (b - a)

    go : Dec (a ≤ b) → (apart % m ≡ 0) ↔ (a % m ≡ b % m)
    go (yes h) =
        let above : a + apart ≡ b = omega arith in (
          (λ e. sym (mod_more m a apart e) ∙ ap (λ y. y % m) above),
          (λ e. mod_less m a apart (ap (λ y. y % m) above ∙ sym e)),
        )
    go (no h) =
        let above : b + apart ≡ a = omega arith in (
          (λ e. ap (λ y. y % m) (sym above) ∙ mod_more m b apart e),
          (λ e. mod_less m b apart (ap (λ y. y % m) above ∙ e)),
        )

-- z is a multiple of m exactly when m divides its absolute value
pub multiple_divides : (m : ℕ) (z : ℤ) → Multiple m z ↔ (nat_abs z % m ≡ 0)
multiple_divides m z = (
  (λ d. ap (λ y. nat_abs y % m) d.1
      ∙ ap (λ y. y % m) (nat_abs_mul d.0 (pos m))
      ∙ mul-mod_left (nat_abs d.0) m),
  back z,
)
  where
    back : (z : ℤ) → nat_abs z % m ≡ 0 → Multiple m z
    back (pos n) e = (pos (n / m), ap pos (omega (arith, mod-add-div' n m)))
    back (negsuc n) e =
        let q : ℕ = suc n / m in (
          sub_ℕ 0 q,
          sym (sub_of (negsuc n))
              ∙ sub_eq 0 (suc n) (0 * m + q * 0) (0 * 0 + q * m) (omega (arith, mod-add-div' (suc n) m))
              ∙ sym (sub_mul 0 q m 0)
              ∙ ap (λ y. sub_ℕ 0 q *ℤ y) (sub_zero m),
        )

-- so a − b is a multiple of m exactly when a and b leave the same remainder
pub multiple_sub : (m a b : ℕ) → Multiple m (sub_ℕ a b) ↔ (a % m ≡ b % m)
multiple_sub m a b = (
  (λ d. (divides_sub m a b).0 ((multiple_divides m (sub_ℕ a b)).0 d)),
  (λ e. (multiple_divides m (sub_ℕ a b)).1 ((divides_sub m a b).1 e)),
)
