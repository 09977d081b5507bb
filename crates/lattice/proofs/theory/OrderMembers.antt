-- The members of the parts of the order, and that each part is sorted.
use Prim.Native.Nat.{ℕ, ◌+◌, ◌-◌, ◌<◌, ◌≤◌}
use mathlib.Core.List.Memᴰ
use mathlib.Core.List.{List, [], ◌∷◌, Memᴰ}
use mathlib.Core.Logic.{inl, inr}
use mathlib.Core.Path.{◌≡◌, refl, sym, ◌∙◌, ap, ap₂}
use native.Mathlib.Omega.{arith}
use lib.IntN.{ℤ, pos, negsuc, neg_ℤ, nat_abs, sub_ℕ, ◌+ℤ◌}
use Rattle.lattice.specs.declared.distance.Triple.{Triple}
use Rattle.lattice.specs.Order.{triple, run, span, columns_at, planes_at, rows_at, Before}
use Rattle.lattice.proofs.theory.Integers.{up, down, sub_is, sub_neg, sub_zero, sub_add, nat_abs_sub}
use Rattle.lattice.proofs.theory.Sorted.{Sorted}
use Rattle.lattice.proofs.theory.Blocks.{from_blocks, in_blocks, sorted_blocks}
use Rattle.lattice.proofs.theory.ScanLoops.{plane_block, row_block}

-- a triple is given by its three numbers
pub triple_eq : (x : Triple) (r p c : ℤ) → x.row ≡ r → x.plane ≡ p → x.column ≡ c → x ≡ triple r p c
triple_eq x r p c e f g = ap₂ (λ (r p : ℤ). triple r p x.column) e f ∙ ap (triple r p) g

-- the integers from −w to w are those of absolute value at most w
from_end : (w i : ℕ) → neg_ℤ (pos w) +ℤ pos i ≡ sub_ℕ i w
from_end w i =
    ap₂ ◌+ℤ◌ (ap neg_ℤ (sym (sub_zero w)) ∙ sub_neg w 0) (sym (sub_zero i))
    ∙ sub_add 0 w i 0
    ∙ ap₂ sub_ℕ (let e : 0 + i ≡ i = omega arith in e) (let e : w + 0 ≡ w = omega arith in e)

span_within : (w i : ℕ) → i < w + w + 1 → nat_abs (neg_ℤ (pos w) +ℤ pos i) ≤ w
span_within w i h = omega (arith, ap nat_abs (from_end w i), nat_abs_sub i w)

span_reaches : (w : ℕ) (z : ℤ) → nat_abs z ≤ w → (i : ℕ) × (i < w + w + 1) × (neg_ℤ (pos w) +ℤ pos i ≡ z)
span_reaches w z h = (
  w + up z - down z,
  omega (arith, sizes z),
  from_end w (w + up z - down z) ∙ sub_is (w + up z - down z) w z (omega (arith, sizes z)),
)
  where
    sizes : (z : ℤ) → nat_abs z ≡ up z + down z
    sizes (pos n) = omega arith
    sizes (negsuc n) = omega arith

-- the columns of a plane, as blocks of one triple each
abbrev pub column_block : ℤ → ℤ → ℤ → List Triple
column_block r p z = triple r p z ∷ []

-- the triples of one plane: its columns run from −w to w
from_plane : (x : Triple) (r p : ℤ) (w : ℕ) → Memᴰ x (columns_at r p (span w))
    → (x.row ≡ r) × (x.plane ≡ p) × (nat_abs x.column ≤ w)
from_plane x r p w m =
    let b = from_blocks (columns_at r p) refl (column_block r p) (λ z zs. refl) x (neg_ℤ (pos w)) (w + w + 1) m in
    let e = Memᴰ.eq_of_singleton b.2 in (
      ap (λ (x : Triple). x.row) e,
      ap (λ (x : Triple). x.plane) e,
      omega (arith, ap (λ (x : Triple). nat_abs x.column) e, span_within w b.0 b.1),
    )

to_plane : (x : Triple) (r p : ℤ) (w : ℕ)
    → x.row ≡ r
    → x.plane ≡ p
    → nat_abs x.column ≤ w
    → Memᴰ x (columns_at r p (span w))
to_plane x r p w e f h =
    let b = span_reaches w x.column h in
    in_blocks (columns_at r p) refl (column_block r p) (λ z zs. refl) x (neg_ℤ (pos w)) (w + w + 1) b.0 b.1
    (Memᴰ.head (triple_eq x r p (neg_ℤ (pos w) +ℤ pos b.0) e f (sym b.2)))

-- the triples of a run of planes
pub from_planes : (x : Triple) (r low : ℤ) (n m : ℕ) → Memᴰ x (planes_at r n (run low m))
    → (i : ℕ) × (i < m) × (x.row ≡ r) × (x.plane ≡ low +ℤ pos i) × (nat_abs x.column ≤ n - nat_abs x.plane)
from_planes x r low n m k =
    let b = from_blocks (planes_at r n) refl (plane_block r n) (λ z zs. refl) x low m k in
    let f = from_plane x r (low +ℤ pos b.0) (n - nat_abs (low +ℤ pos b.0)) b.2 in
    (b.0, b.1, f.0, f.1, omega (arith, f.2, ap nat_abs f.1))

pub to_planes : (x : Triple) (r low : ℤ) (n m i : ℕ) → i < m → x.row ≡ r → x.plane ≡ low +ℤ pos i
    → nat_abs x.column ≤ n - nat_abs x.plane → Memᴰ x (planes_at r n (run low m))
to_planes x r low n m i h e f g =
    in_blocks (planes_at r n) refl (plane_block r n) (λ z zs. refl) x low m i h
    (to_plane x r (low +ℤ pos i) (n - nat_abs (low +ℤ pos i)) e f (omega (arith, g, ap nat_abs f)))

-- the triples of one row: plane and column have an absolute sum of at most w
from_row : (x : Triple) (r : ℤ) (w : ℕ)
    → Memᴰ x (planes_at r w (span w))
    → (x.row ≡ r) × (nat_abs x.plane + nat_abs x.column ≤ w)
from_row x r w k =
    let b = from_planes x r (neg_ℤ (pos w)) w (w + w + 1) k in
    (b.2, omega (arith, b.4, ap nat_abs b.3, span_within w b.0 b.1))

to_row : (x : Triple) (r : ℤ) (w : ℕ)
    → x.row ≡ r
    → nat_abs x.plane + nat_abs x.column ≤ w
    → Memᴰ x (planes_at r w (span w))
to_row x r w e h =
    let b = span_reaches w x.plane (omega arith) in
    to_planes x r (neg_ℤ (pos w)) w (w + w + 1) b.0 b.1 e (sym b.2) (omega arith)

-- the triples of a run of rows
pub from_rows : (x : Triple) (low : ℤ) (n m : ℕ) → Memᴰ x (rows_at n (run low m))
    → (i : ℕ) × (i < m) × (x.row ≡ low +ℤ pos i) × (nat_abs x.plane + nat_abs x.column ≤ n - nat_abs x.row)
from_rows x low n m k =
    let b = from_blocks (rows_at n) refl (row_block n) (λ z zs. refl) x low m k in
    let f = from_row x (low +ℤ pos b.0) (n - nat_abs (low +ℤ pos b.0)) b.2 in
    (b.0, b.1, f.0, omega (arith, f.1, ap nat_abs f.0))

pub to_rows : (x : Triple) (low : ℤ) (n m i : ℕ) → i < m → x.row ≡ low +ℤ pos i
    → nat_abs x.plane + nat_abs x.column ≤ n - nat_abs x.row → Memᴰ x (rows_at n (run low m))
to_rows x low n m i h e g =
    in_blocks (rows_at n) refl (row_block n) (λ z zs. refl) x low m i h
    (to_row x (low +ℤ pos i) (n - nat_abs (low +ℤ pos i)) e (omega (arith, g, ap nat_abs e)))

-- the parts are sorted: by column, by plane and by row
pub sorted_columns : (r p low : ℤ) (n : ℕ) → Sorted Before (columns_at r p (run low n))
unfolding Before
sorted_columns r p low n =
    sorted_blocks (columns_at r p) refl (column_block r p) (λ z zs. refl) (λ z. ((λ y m. absurd (Memᴰ.not-nil m)), tt))
    (λ z w x y l m k.
    let e = Memᴰ.eq_of_singleton m in
    let f = Memᴰ.eq_of_singleton k in
    rw (e, f) (inr (inr (refl, refl, l))))
    low
    n

pub sorted_planes : (r low : ℤ) (n m : ℕ) → Sorted Before (planes_at r n (run low m))
unfolding Before
sorted_planes r low n m =
    sorted_blocks (planes_at r n) refl (plane_block r n) (λ z zs. refl)
    (λ z. sorted_columns r z (neg_ℤ (pos (n - nat_abs z))) ((n - nat_abs z) + (n - nat_abs z) + 1))
    (λ z w x y l i j.
    let f = from_plane x r z (n - nat_abs z) i in
    let g = from_plane y r w (n - nat_abs w) j in
    inr (inl (f.0 ∙ sym g.0, rw (f.1, g.1) l)))
    low
    m

pub sorted_rows : (low : ℤ) (n m : ℕ) → Sorted Before (rows_at n (run low m))
unfolding Before
sorted_rows low n m =
    sorted_blocks (rows_at n) refl (row_block n) (λ z zs. refl)
    (λ z. sorted_planes z (neg_ℤ (pos (n - nat_abs z))) (n - nat_abs z) ((n - nat_abs z) + (n - nat_abs z) + 1))
    (λ z w x y l i j.
    let f = from_row x z (n - nat_abs z) i in
    let g = from_row y w (n - nat_abs w) j in
    inl (rw (f.0, g.0) l))
    low
    m
