-- The triples between points: which settings fail at the triple between two points of one class, and the points that a failing
-- triple sets apart.
use Prim.Native.Nat.{ℕ, suc, ◌+◌, ◌-◌, ◌*◌, ◌%◌, ◌<◌, ◌≤◌}
use mathlib.Core.Bool.{true, false, true≢false}
use mathlib.Core.Logic.{◌⊎◌, inl, inr, ⊎_elim}
use mathlib.Core.Path.{◌≡◌, refl, sym, ◌∙◌, ap, ap₂}
use native.Mathlib.Nat.{lt_of_not-le}
use native.Mathlib.Decide.{dec_le, dec_lt}
use native.Mathlib.Omega.{arith}
use borrow.Author.Tests.{eq-eqb, eqb-true}
use lib.IntN.{ℤ, pos, sub_ℕ, nat_abs, ◌-ℤ◌, ◌*ℤ◌, +ℤ_idr, +ℤ_invr}
use Rattle.lattice.specs.declared.settings.Settings.{Settings}
use Rattle.lattice.specs.declared.distance.Triple.{Triple}
use Rattle.lattice.specs.Cluster.{apart}
use Rattle.lattice.specs.Endless.{Point, HasClass, Apart, point_distance}
use Rattle.lattice.specs.Order.{triple, Leading, Less, magnitude}
use Rattle.lattice.specs.DistanceTest.{fails_at}
use Rattle.lattice.proofs.theory.Integers.{up, down, sub_is, divides_sub}
use Rattle.lattice.proofs.theory.Residue.{residue, residue_sub, same_class, mod_class, gained, lost}
use Rattle.lattice.proofs.theory.Points.{coordinate_eq, coordinate_apart, difference, point_eq}

-- the triple from one point to another
abbrev between : Point → Point → Triple
between x y = triple (y.row -ℤ x.row) (y.plane -ℤ x.plane) (y.column -ℤ x.column)

-- two integers are one, or one of their two differences is positive
compared : (z w : ℤ) → (z ≡ w) ⊎ (Less (pos 0) (w -ℤ z) ⊎ Less (pos 0) (z -ℤ w))
compared z w = go (dec_lt (up z + down w) (up w + down z)) (dec_lt (up w + down z) (up z + down w))
  where
    positive : (u v : ℤ) → up u + down v < up v + down u → Less (pos 0) (v -ℤ u)
    positive u v l = (
      up v + down u - suc (up u + down v),
      +ℤ_idr (v -ℤ u)
          ∙ difference u v
          ∙ sub_is (up v + down u) (down v + up u) (pos (suc (up v + down u - suc (up u + down v))))
          (omega arith),
    )

    go : Dec (up z + down w < up w + down z)
        → Dec (up w + down z < up z + down w)
        → (z ≡ w) ⊎ (Less (pos 0) (w -ℤ z) ⊎ Less (pos 0) (z -ℤ w))
    go (yes l) d = inr (inl (positive z w l))
    go (no h) (yes l) = inr (inr (positive w z l))
    go (no h) (no l) = inl (coordinate_eq z w (omega arith))

no_difference : (z w : ℤ) → z ≡ w → w -ℤ z ≡ pos 0
no_difference z w e = ap (λ (v : ℤ). w -ℤ v) e ∙ +ℤ_invr w

-- two points are one, or the triple from one of them to the other is led by a positive number
led : (x y : Point) → (x ≡ y) ⊎ (Leading (between x y) ⊎ Leading (between y x))
unfolding Leading
led x y = by_row (compared x.row y.row) (compared x.plane y.plane) (compared x.column y.column)
  where
    Sides : ℤ → ℤ → Type 0
    Sides z w = (z ≡ w) ⊎ (Less (pos 0) (w -ℤ z) ⊎ Less (pos 0) (z -ℤ w))

    Answer : Type 0
    Answer = (x ≡ y) ⊎ (Leading (between x y) ⊎ Leading (between y x))

    zero_row : x.row ≡ y.row → (y.row -ℤ x.row ≡ pos 0) × (x.row -ℤ y.row ≡ pos 0)
    zero_row e = (no_difference x.row y.row e, no_difference y.row x.row (sym e))

    zero_plane : x.plane ≡ y.plane → (y.plane -ℤ x.plane ≡ pos 0) × (x.plane -ℤ y.plane ≡ pos 0)
    zero_plane e = (no_difference x.plane y.plane e, no_difference y.plane x.plane (sym e))

    by_column : x.row ≡ y.row → x.plane ≡ y.plane → Sides x.column y.column → Answer
    by_column r p (inl c) = inl (point_eq x y r p c)
    by_column r p (inr (inl l)) = inr (inl (inr (inr ((zero_row r).0, (zero_plane p).0, l))))
    by_column r p (inr (inr l)) = inr (inr (inr (inr ((zero_row r).1, (zero_plane p).1, l))))

    by_plane : x.row ≡ y.row → Sides x.plane y.plane → Sides x.column y.column → Answer
    by_plane r (inl p) c = by_column r p c
    by_plane r (inr (inl l)) c = inr (inl (inr (inl ((zero_row r).0, l))))
    by_plane r (inr (inr l)) c = inr (inr (inr (inl ((zero_row r).1, l))))

    by_row : Sides x.row y.row → Sides x.plane y.plane → Sides x.column y.column → Answer
    by_row (inl r) p c = by_plane r p c
    by_row (inr (inl l)) p c = inr (inl (inl l))
    by_row (inr (inr l)) p c = inr (inr (inl l))

-- the settings fail at the triple between two points of one class
fails_between : (k : Settings) (x y : Point) (r : ℕ) → HasClass k x r → HasClass k y r → fails_at k (between x y) ≡ true
unfolding fails_at
fails_between k x y r hx hy = eq-eqb _ 0 (ap (λ (z : ℤ). nat_abs z % k.m) whole ∙ (divides_sub k.m high low).1 same)
  where
    high : ℕ
    high = up y.column + down x.column + k.b * (down y.row + up x.row) + k.c * (down y.plane + up x.plane)

    low : ℕ
    low = down y.column + up x.column + k.b * (up y.row + down x.row) + k.c * (up y.plane + down x.plane)

    whole : (y.column -ℤ x.column) -ℤ pos k.b *ℤ (y.row -ℤ x.row) -ℤ pos k.c *ℤ (y.plane -ℤ x.plane) ≡ sub_ℕ high low
    whole =
        ap₂ (λ (u v : ℤ). u -ℤ pos k.c *ℤ v)
        (ap₂ (λ (u v : ℤ). u -ℤ pos k.b *ℤ v) (difference x.column y.column)
        (difference x.row y.row))
        (difference x.plane y.plane)
        ∙ residue_sub k (up y.row + down x.row) (down y.row + up x.row)
        (up y.plane + down x.plane) (down y.plane + up x.plane)
        (up y.column + down x.column) (down y.column + up x.column)

    same : high % k.m ≡ low % k.m
    same =
        ap (λ (n : ℕ). n % k.m) (omega arith)
        ∙ same_class k y x r hy hx
        ∙ ap (λ (n : ℕ). n % k.m) (omega arith)

magnitude_between : (x y : Point) → magnitude (between x y) ≡ point_distance x y
unfolding magnitude point_distance
magnitude_between x y = refl

distance_sym : (x y : Point) → point_distance x y ≡ point_distance y x
unfolding point_distance apart
distance_sym x y = ap₂ ◌+◌ (ap₂ ◌+◌ (one x.row y.row) (one x.plane y.plane)) (one x.column y.column)
  where
    one : (z w : ℤ) → nat_abs (w -ℤ z) ≡ nat_abs (z -ℤ w)
    one z w = coordinate_apart z w ∙ omega arith ∙ sym (coordinate_apart w z)

-- where no short triple fails, different points of one class are at least t apart
pub apart_of_none : (k : Settings) (t : ℕ) → ((x : Triple) → Leading x → magnitude x < t → fails_at k x ≡ false) → Apart k t
apart_of_none k t none x y r hx hy other = go (dec_le t (point_distance x y))
  where
    clash : (u v : Point) → HasClass k u r → HasClass k v r → point_distance u v < t → Leading (between u v) → ⊥
    clash u v hu hv near lead =
        true≢false (sym (fails_between k u v r hu hv) ∙ none (between u v) lead (rw magnitude_between near))

    go : Dec (t ≤ point_distance x y) → t ≤ point_distance x y
    go (yes far) = far
    go (no close) =
        absurd
        (⊎_elim other
        (⊎_elim (clash x y hx hy (lt_of_not-le close)) (clash y x hy hx (omega (arith, distance_sym x y, lt_of_not-le close))))
        (led x y))

-- a short triple that fails is the difference of two points of one class that are too close
abbrev corner : Point
corner = record { row = pos 0; plane = pos 0; column = pos 0 }

abbrev end : Triple → Point
end x = record { row = x.row; plane = x.plane; column = x.column }

not_zero : (z : ℤ) → Less (pos 0) z → pos 0 ≡ z → ⊥
not_zero z l e = omega (arith, ap nat_abs (ap (λ (v : ℤ). v -ℤ pos 0) e ∙ l.1))

not_corner : (x : Triple) → Leading x → corner ≡ end x → ⊥
unfolding Leading
not_corner x (inl l) e = not_zero x.row l (ap (λ (p : Point). p.row) e)
not_corner x (inr (inl l)) e = not_zero x.plane l.1 (ap (λ (p : Point). p.plane) e)
not_corner x (inr (inr l)) e = not_zero x.column l.2 (ap (λ (p : Point). p.column) e)

from_corner : (x : Triple) → point_distance corner (end x) ≡ magnitude x
unfolding point_distance magnitude
from_corner x = ap₂ ◌+◌ (ap₂ ◌+◌ (ap nat_abs (+ℤ_idr x.row)) (ap nat_abs (+ℤ_idr x.plane))) (ap nat_abs (+ℤ_idr x.column))

corner_class : (k : Settings) → 0 < k.m → HasClass k corner 0
corner_class k some = mod_class k corner 0 some (ap (λ (n : ℕ). n % k.m) (omega arith))

end_class : (k : Settings) → 0 < k.m → (x : Triple) → fails_at k x ≡ true → HasClass k (end x) 0
unfolding fails_at
end_class k some x f =
    mod_class k (end x) 0 some
    ((divides_sub k.m (gained k (end x)) (lost k (end x))).0
    (ap (λ (z : ℤ). nat_abs z % k.m) (sym (residue k x.row x.plane x.column)) ∙ eqb-true _ 0 f)
    ∙ ap (λ (n : ℕ). n % k.m) (omega arith))

pub close_of_fails : (k : Settings) (t : ℕ)
    → 0 < k.m
    → (x : Triple)
    → Leading x
    → magnitude x < t
    → fails_at k x ≡ true
    → Apart k t
    → ⊥
close_of_fails k t some x lead short f far =
    omega (arith, far corner (end x) 0 (corner_class k some) (end_class k some x f) (not_corner x lead), from_corner x)
