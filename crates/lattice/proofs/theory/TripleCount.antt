-- How many triples the order has: (t − 1)(2t² − t + 3)/3, for every t.
use Prim.Native.Nat.{ℕ, zero, suc, ◌+◌, ◌-◌, ◌*◌, ◌/◌, ◌≤◌}
use mathlib.Core.List.{List, ◌∷◌, ◌++◌}
use mathlib.Core.Path.{◌≡◌, refl, ◌∙◌, ap}
use native.Mathlib.Nat.{zero-add, suc-add}
use native.Mathlib.Omega.{arith}
use lib.IntN.{ℤ, pos, negsuc, neg_ℤ, nat_abs, suc_ℤ}
use lib.ListN.{length, length-append, length-map}
use Rattle.lattice.specs.Order.{triple, run, span, columns_at, planes_at, rows_at, first_columns, first_planes, all_rows}

length_run : (z : ℤ) (n : ℕ) → length (run z n) ≡ n
length_run z zero = refl
length_run z (suc n) = ap suc (length_run (suc_ℤ z) n)

-- a plane has the columns from −w to w, where w is what it leaves of n
count_plane : (r p : ℤ) (w : ℕ) → length (columns_at r p (span w)) ≡ 2 * w + 1
count_plane r p w = length-map (span w) (triple r p) ∙ length_run (neg_ℤ (pos w)) (w + w + 1) ∙ omega arith

-- so the planes of a row are counted one after the other
count_planes_step : (r p : ℤ) (n : ℕ) (ps : List ℤ)
    → length (planes_at r n (p ∷ ps)) ≡ 2 * (n - nat_abs p) + 1 + length (planes_at r n ps)
count_planes_step r p n ps =
    length-append (columns_at r p (span (n - nat_abs p))) (planes_at r n ps)
    ∙ ap (λ i. i + length (planes_at r n ps)) (count_plane r p (n - nat_abs p))

-- the last j of the planes 1 to n of a row have j² triples
count_above : (r : ℤ) (n i j : ℕ) → i + j ≡ n → length (planes_at r n (run (pos (suc i)) j)) ≡ j * j
count_above r n i zero e = omega arith
count_above r n i (suc j) e =
    omega (
      arith,
      count_planes_step r (pos (suc i)) n (run (pos (suc (suc i))) j),
      count_above r n (suc i) j (omega arith),
    )

-- the planes from −k to −1 have 2nk − k² triples
suc_minus : (k : ℕ) → suc_ℤ (negsuc k) ≡ neg_ℤ (pos k)
suc_minus zero = refl
suc_minus (suc k) = refl

count_below : (r : ℤ) (n k j : ℕ) → k ≤ n
    → length (planes_at r n (run (neg_ℤ (pos k)) (k + j))) + k * k ≡ 2 * (n * k) + length (planes_at r n (run (pos 0) j))
count_below r n zero j h = rw (zero-add j) (omega arith)
count_below r n (suc k) j h =
    omega (
      arith,
      ap (λ i. length (planes_at r n (run (negsuc k) i))) (suc-add k j),
      count_planes_step r (negsuc k) n (run (suc_ℤ (negsuc k)) (k + j)),
      ap (λ z. length (planes_at r n (run z (k + j)))) (suc_minus k),
      count_below r n k j (omega arith),
    )

-- the planes of a row, from −n to n, have n² triples below 0 and (n + 1)² from 0 on
count_row : (r : ℤ) (n : ℕ) → length (planes_at r n (span n)) ≡ 2 * (n * n) + 2 * n + 1
count_row r n =
    omega (
      arith,
      ap (λ i. length (planes_at r n (run (neg_ℤ (pos n)) i))) whole,
      count_below r n n (suc n) (omega arith),
      count_planes_step r (pos 0) n (run (pos 1) n),
      count_above r n 0 n (omega arith),
    )
  where
    whole : n + n + 1 ≡ n + suc n
    whole = omega arith

-- three times the last j of the rows 1 to n
count_rows : (n i j : ℕ) → i + j ≡ n → 3 * length (rows_at n (run (pos (suc i)) j)) ≡ j * (2 * (j * j) + 1)
count_rows n i zero e = omega arith
count_rows n i (suc j) e =
    omega (
      arith,
      length-append (planes_at (pos (suc i)) (n - suc i) (span (n - suc i))) (rows_at n (run (pos (suc (suc i))) j)),
      ap (λ w. length (planes_at (pos (suc i)) w (span w))) width,
      count_row (pos (suc i)) j,
      count_rows n (suc i) j (omega arith),
    )
  where
    width : n - suc i ≡ j
    width = omega arith

-- three times all of them, for strength n + 1
pub count_parts : (n : ℕ) → 3 * length (first_columns n ++ (first_planes n ++ all_rows n)) ≡ n * (2 * (n * n) + 3 * n + 4)
count_parts n =
    omega (
      arith,
      length-append (first_columns n) (first_planes n ++ all_rows n),
      length-append (first_planes n) (all_rows n),
      length-map (run (pos 1) n) (triple (pos 0) (pos 0)),
      length_run (pos 1) n,
      count_above (pos 0) n 0 n (omega arith),
      count_rows n 0 n (omega arith),
    )

pub third : (x y : ℕ) → 3 * x ≡ y → x ≡ y / 3
third x y e = omega arith
