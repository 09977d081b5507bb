-- The order lists exactly the triples of absolute sum below t whose first number that is not 0 is positive, each once, and
-- rising.
use Prim.Native.Nat.{ℕ, ◌-◌, ◌<◌, ◌≤◌}
use mathlib.Core.List.Memᴰ
use mathlib.Core.List.{◌++◌, Memᴰ}
use mathlib.Core.Logic.{inl, inr, ⊎_elim}
use mathlib.Core.Path.{◌≡◌, refl, sym, ◌∙◌, ap}
use native.Mathlib.Omega.{arith}
use lib.IntN.{ℤ, pos, nat_abs, ◌+ℤ◌, +ℤ_idr, +ℤ_invr}
use Rattle.lattice.specs.declared.distance.Triple.{Triple}
use Rattle.lattice.specs.Order.{columns_at, first_columns, first_planes, all_rows, order, magnitude, Less, Leading, Before}
use Rattle.lattice.proofs.theory.Sorted.{Sorted, sorted_append}
use Rattle.lattice.proofs.theory.Blocks.{from_blocks, in_blocks}
use Rattle.lattice.proofs.theory.OrderMembers.{triple_eq, column_block, from_planes, to_planes, from_rows, to_rows}
use Rattle.lattice.proofs.theory.OrderMembers.{sorted_columns, sorted_planes, sorted_rows}

-- the positive integers are those that a run from 1 reaches
above_zero : (z : ℤ) (i : ℕ) → z ≡ pos 1 +ℤ pos i → Less (pos 0) z
above_zero z i e = (i, +ℤ_idr z ∙ e ∙ ap pos (omega arith))

reached : (z : ℤ) → Less (pos 0) z → (i : ℕ) × (z ≡ pos 1 +ℤ pos i)
reached z l = (l.0, sym (+ℤ_idr z) ∙ l.1 ∙ ap pos (omega arith))

-- the triples of row 0 and plane 0
from_columns : (x : Triple) (n : ℕ) → Memᴰ x (first_columns n)
    → (i : ℕ) × (i < n) × (x.row ≡ pos 0) × (x.plane ≡ pos 0) × (x.column ≡ pos 1 +ℤ pos i)
from_columns x n m =
    let b = from_blocks (columns_at (pos 0) (pos 0)) refl (column_block (pos 0) (pos 0)) (λ z zs. refl) x (pos 1) n m in
    let e = Memᴰ.eq_of_singleton b.2 in
    (b.0, b.1, ap (λ (x : Triple). x.row) e, ap (λ (x : Triple). x.plane) e, ap (λ (x : Triple). x.column) e)

to_columns : (x : Triple) (n i : ℕ) → i < n → x.row ≡ pos 0 → x.plane ≡ pos 0 → x.column ≡ pos 1 +ℤ pos i
    → Memᴰ x (first_columns n)
to_columns x n i h e f g =
    in_blocks (columns_at (pos 0) (pos 0)) refl (column_block (pos 0) (pos 0)) (λ z zs. refl) x (pos 1) n i h
    (Memᴰ.head (triple_eq x (pos 0) (pos 0) (pos 1 +ℤ pos i) e f g))

-- what a member of the order is
abbrev Listed : ℕ → Triple → Type 0
Listed t x = Leading x × (1 ≤ magnitude x) × (magnitude x < t)

pub from_order : (t : ℕ) (x : Triple) → Memᴰ x (order t) → Listed t x
unfolding order Leading magnitude
from_order t x m =
    ⊎_elim columns (λ k. ⊎_elim planes rows (Memᴰ.append_cases (first_planes n) k))
    (Memᴰ.append_cases (first_columns n) m)
  where
    n : ℕ
    n = t - 1

    columns : Memᴰ x (first_columns n) → Listed t x
    columns k =
        let f = from_columns x n k in (
          inr (inr (f.2, f.3, above_zero x.column f.0 f.4)),
          omega (arith, ap nat_abs f.4),
          omega (arith, f.1, ap nat_abs f.2, ap nat_abs f.3, ap nat_abs f.4),
        )

    planes : Memᴰ x (first_planes n) → Listed t x
    planes k =
        let f = from_planes x (pos 0) (pos 1) n n k in (
          inr (inl (f.2, above_zero x.plane f.0 f.3)),
          omega (arith, ap nat_abs f.3),
          omega (arith, f.1, ap nat_abs f.2, ap nat_abs f.3, f.4),
        )

    rows : Memᴰ x (all_rows n) → Listed t x
    rows k =
        let f = from_rows x (pos 1) n n k in (
          inl (above_zero x.row f.0 f.2),
          omega (arith, ap nat_abs f.2),
          omega (arith, f.1, ap nat_abs f.2, f.3),
        )

pub to_order : (t : ℕ) (x : Triple) → Leading x → magnitude x < t → Memᴰ x (order t)
unfolding order Leading magnitude
to_order t x (inl l) h =
    let r = reached x.row l in
    Memᴰ.append_right (first_columns (t - 1))
    (Memᴰ.append_right (first_planes (t - 1))
    (to_rows x (pos 1) (t - 1) (t - 1) r.0 (omega (arith, ap nat_abs r.1)) r.1 (omega arith)))
to_order t x (inr (inl l)) h =
    let r = reached x.plane l.1 in
    Memᴰ.append_right (first_columns (t - 1))
    (Memᴰ.append_left (all_rows (t - 1))
    (to_planes x (pos 0) (pos 1) (t - 1) (t - 1) r.0 (omega (arith, ap nat_abs r.1)) l.0 r.1 (omega arith)))
to_order t x (inr (inr l)) h =
    let r = reached x.column l.2 in
    Memᴰ.append_left (first_planes (t - 1) ++ all_rows (t - 1))
    (to_columns x (t - 1) r.0 (omega (arith, ap nat_abs r.1)) l.0 l.1 r.1)

-- the order is sorted
pub sorted_order : (t : ℕ) → Sorted Before (order t)
unfolding order Before
sorted_order t =
    sorted_append Before (first_columns n) (first_planes n ++ all_rows n) (sorted_columns (pos 0) (pos 0) (pos 1) n)
    (sorted_append Before (first_planes n) (all_rows n) (sorted_planes (pos 0) (pos 1) n n) (sorted_rows (pos 1) n n)
    (λ x y i j.
    let f = from_planes x (pos 0) (pos 1) n n i in
    from_row_zero x y f.2 j))
    (λ x y i j.
    let f = from_columns x n i in
    ⊎_elim
    (λ k.
    let g = from_planes y (pos 0) (pos 1) n n k in
    inr (inl (f.2 ∙ sym g.2, rw f.3 (above_zero y.plane g.0 g.3))))
    (from_row_zero x y f.2)
    (Memᴰ.append_cases (first_planes n) j))
  where
    n : ℕ
    n = t - 1

    from_row_zero : (x y : Triple) → x.row ≡ pos 0 → Memᴰ y (all_rows n) → Before x y
    from_row_zero x y e j =
        let g = from_rows y (pos 1) n n j in
        inl (rw e (above_zero y.row g.0 g.2))

-- no triple comes before itself
not_less : (z : ℤ) → Less z z → ⊥
not_less z l = omega (arith, ap nat_abs (sym (+ℤ_invr z) ∙ l.1))

pub not_before : (x : Triple) → Before x x → ⊥
unfolding Before
not_before x (inl l) = not_less x.row l
not_before x (inr (inl l)) = not_less x.plane l.1
not_before x (inr (inr l)) = not_less x.column l.2
