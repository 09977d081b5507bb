-- The slices of a field: the lines of a slice are `slices` lines apart, and no other line has their classes.
use Prim.Native.Nat.{ℕ, zero, suc, ◌+◌, ◌-◌, ◌*◌, ◌/◌, ◌%◌, ◌<◌, ◌≤◌, zero-le}
use mathlib.Core.Path.{◌≡◌, sym, ap, ◌∙◌}
use native.Mathlib.Decide.{ℕ_discrete}
use native.Mathlib.Nat.{mod-lt, mod-eq_of_lt, div-add-mod', div-lt_iff_lt-mul, le-div_iff_mul-le, div-eq_of_lt-le}
use native.Mathlib.Nat.{mul-le-mul, le_refl}
use native.Mathlib.Omega.{arith}
use lib.Arith.{digits_div}
use lib.Dec.{eqb}
use borrow.Author.Tests.{eq-eqb, ne_eqb}
use Rattle.lattice.specs.declared.shape.Shape.{Shape}
use Rattle.lattice.specs.Shape.{Accepted, cells_of}
use Rattle.lattice.specs.Class.{class_at, layout_of}
use Rattle.lattice.specs.Position.{Layout, size_to, size}
use Rattle.lattice.specs.Lines.{remainder_table, table_of, slices_of, offset_of, line_start, among}
use Rattle.lattice.proofs.theory.Among.{count_from, among_none, among_step}
use Rattle.lattice.proofs.theory.Counting.{bit, count_none}
use Rattle.lattice.proofs.theory.Limits.{legal}
use Rattle.lattice.proofs.theory.LineSizes.{line_size}
use Rattle.lattice.proofs.theory.Placements.{slices_some, period_some}
use Rattle.lattice.proofs.theory.Positions.{size_none}
use Rattle.lattice.proofs.theory.Remainder.{near_remainder}
use Rattle.lattice.proofs.theory.Starts.{slices_start, line_class, remainder_period}

-- a class tells its slice
module _ (m y z j k : ℕ) (some : 0 < m) (e : y % m + j * m ≡ z % m + k * m) where
  turned : j * m + y % m ≡ k * m + z % m
  turned = omega (arith, e)

  slice_only : j ≡ k
  slice_only = sym (digits_div j (mod-lt y some)) ∙ ap (λ (n : ℕ). n / m) turned ∙ digits_div k (mod-lt z some)

-- where none of the cells from a to b − 1 is of a class, its size stays
size_still : (L : Layout) (c a b : ℕ) → a ≤ b → ((i : ℕ) → a ≤ i → i < b → L.class i ≡ c → ⊥) → size_to L c b ≡ size_to L c a
unfolding size_to
size_still L c a b l none =
    let far : a + (b - a) ≡ b = omega arith in
    omega (
      arith,
      ap (λ (n : ℕ). size_to L c n) far,
      count_from (λ i. eqb (L.class i) c) a (b - a),
      count_none (λ x. eqb (L.class (a + x)) c) (b - a)
          (λ x r. ne_eqb (L.class (a + x)) c (none (a + x) (omega arith) (omega arith))),
    )

module _ (s : Shape) (a : Accepted s) where
  wide : 0 < s.columns
  wide = (legal s a).width_low

  -- the line of a cell has the slice of the cell's class
  cell_slice : (i y j : ℕ) → i < cells_of s → class_at s i ≡ y % (table_of s).m + j * (table_of s).m
      → i / s.columns % slices_of s ≡ j
  cell_slice i y j p e =
      let l = i / s.columns in
      let x = i % s.columns in
      let inside : i / s.columns < s.rows * s.planes = (div-lt_iff_lt-mul wide).1 (omega arith) in
      slice_only (table_of s).m (line_start (table_of s) s.rows l + x) y (l % slices_of s) j (period_some s a)
      (sym (line_class s a l x inside (mod-lt i wide)) ∙ ap (class_at s) (div-add-mod' i s.columns) ∙ e)

  -- none of the cells between line l and the next of its slice is of the slice
  module _ (l y : ℕ) where
    pub skipped : (i : ℕ) → l * s.columns + s.columns ≤ i → i < (l + slices_of s) * s.columns → i < cells_of s
        → class_at s i ≡ y % (table_of s).m + offset_of s l → ⊥
    skipped i low high p e =
        let above : l < i / s.columns = (le-div_iff_mul-le wide).1 (omega arith) in
        let below : i / s.columns < l + slices_of s = (div-lt_iff_lt-mul wide).1 high in
        omega (
          arith,
          near_remainder l (i / s.columns) (slices_of s) (omega arith) below (sym (cell_slice i y (l % slices_of s) p e)),
        )

    -- nor of those behind the slice's last line
    pub skipped_last : (i : ℕ) → s.rows * s.planes ≤ l + slices_of s → l * s.columns + s.columns ≤ i → i < cells_of s
        → class_at s i ≡ y % (table_of s).m + offset_of s l → ⊥
    skipped_last i last low p =
        skipped i low
        (omega (
          arith,
          mul-le-mul {n₁ = s.rows * s.planes} {m₁ = s.columns} {n₂ = l + slices_of s} {m₂ = s.columns} last (le_refl _),
        ))
        p

    pub size_skipped : l + slices_of s ≤ s.rows * s.planes
        → size_to (layout_of s) (y % (table_of s).m + offset_of s l) ((l + slices_of s) * s.columns)
        ≡ size_to (layout_of s) (y % (table_of s).m + offset_of s l) (l * s.columns + s.columns)
    size_skipped room =
        size_still (layout_of s) (y % (table_of s).m + offset_of s l) (l * s.columns + s.columns)
        ((l + slices_of s) * s.columns)
        (omega (
          arith,
          mul-le-mul {n₁ = 1} {m₁ = s.columns} {n₂ = slices_of s} {m₂ = s.columns} (slices_some s a) (le_refl _),
        ))
        (λ i low high. skipped i low high (omega (
          arith,
          mul-le-mul {n₁ = l + slices_of s} {m₁ = s.columns} {n₂ = s.rows * s.planes} {m₂ = s.columns} room (le_refl _),
        )))

    pub size_last : l < s.rows * s.planes → s.rows * s.planes ≤ l + slices_of s
        → size (layout_of s) (y % (table_of s).m + offset_of s l)
        ≡ size_to (layout_of s) (y % (table_of s).m + offset_of s l) (l * s.columns + s.columns)
    size_last inside last =
        size_still (layout_of s) (y % (table_of s).m + offset_of s l) (l * s.columns + s.columns) (cells_of s)
        (omega (
          arith,
          mul-le-mul {n₁ = l + 1} {m₁ = s.columns} {n₂ = s.rows * s.planes} {m₂ = s.columns} (omega arith) (le_refl _),
        ))
        (λ i low p. skipped_last i last low p)

  -- none of the cells before the first line of slice j is of it
  module _ (j y : ℕ) (slice : j < slices_of s) where
    pub skipped_first : (i : ℕ) → i < j * s.columns → i < cells_of s → class_at s i ≡ y % (table_of s).m + j * (table_of s).m → ⊥
    skipped_first i low p e =
        let line : i / s.columns < j = (div-lt_iff_lt-mul wide).1 low in
        let own : i / s.columns % slices_of s ≡ i / s.columns = mod-eq_of_lt (omega arith) in
        omega (arith, cell_slice i y j p e)

    -- so a slice with no line has no cell
    pub skipped_all : (i : ℕ) → s.rows * s.planes ≤ j → i < cells_of s → class_at s i ≡ y % (table_of s).m + j * (table_of s).m
        → ⊥
    skipped_all i none p =
        skipped_first i
        (omega (
          arith,
          mul-le-mul {n₁ = s.rows * s.planes} {m₁ = s.columns} {n₂ = j} {m₂ = s.columns} none (le_refl _),
        ))
        p

    pub size_first : j ≤ s.rows * s.planes → size_to (layout_of s) (y % (table_of s).m + j * (table_of s).m) (j * s.columns) ≡ 0
    size_first room =
        size_still (layout_of s) (y % (table_of s).m + j * (table_of s).m) 0 (j * s.columns) zero-le
        (λ i low high. skipped_first i high (omega (
          arith,
          mul-le-mul {n₁ = j} {m₁ = s.columns} {n₂ = s.rows * s.planes} {m₂ = s.columns} room (le_refl _),
        )))
        ∙ size_none (layout_of s) _

    pub size_all : s.rows * s.planes ≤ j → size (layout_of s) (y % (table_of s).m + j * (table_of s).m) ≡ 0
    size_all none =
        size_still (layout_of s) (y % (table_of s).m + j * (table_of s).m) 0 (cells_of s) zero-le (λ i low p. skipped_all i none
        p)
        ∙ size_none (layout_of s) _

  -- a line of another slice adds nothing
  module _ (y j l : ℕ) (inside : l < s.rows * s.planes) where
    pub other_line : (l % slices_of s ≡ j → ⊥)
        → size_to (layout_of s) (y % (table_of s).m + j * (table_of s).m) (l * s.columns + s.columns)
        ≡ size_to (layout_of s) (y % (table_of s).m + j * (table_of s).m) (l * s.columns)
    other_line other =
        size_still (layout_of s) (y % (table_of s).m + j * (table_of s).m) (l * s.columns) (l * s.columns + s.columns)
        (omega arith)
        (λ i low high e.
        let here : i / s.columns ≡ l = div-eq_of_lt-le s.columns low (omega arith) in
        let room : i < cells_of s = omega (
          arith,
          mul-le-mul {n₁ = l + 1} {m₁ = s.columns} {n₂ = s.rows * s.planes} {m₂ = s.columns} (omega arith) (le_refl _),
        ) in
        other (sym (ap (λ (n : ℕ). n % slices_of s) here) ∙ cell_slice i y j room e))

    -- and one of its own what its stretch of the table gives
    pub own_line : l % slices_of s ≡ j
        → size_to (layout_of s) (y % (table_of s).m + j * (table_of s).m) (l * s.columns + s.columns)
        + among (table_of s).m y (line_start (table_of s) s.rows l)
        ≡ size_to (layout_of s) (y % (table_of s).m + j * (table_of s).m) (l * s.columns)
        + among (table_of s).m y (line_start (table_of s) s.rows l + s.columns)
    own_line own =
        line_size (layout_of s) (table_of s).m (remainder_table (table_of s).m) (remainder_period (table_of s).m
        (period_some s a)) (line_start (table_of s) s.rows l) (j * (table_of s).m) (l * s.columns) s.columns
        (λ x p. line_class s a l x inside p
        ∙ ap (λ (n : ℕ). (line_start (table_of s) s.rows l + x) % (table_of s).m + n * (table_of s).m) own)
        y s.columns (le_refl _)

  -- Theorem. With two slices or more a class of slice j has in the first n lines, for each of the slice, what a line gives.
  module _ (two : 2 ≤ slices_of s) (y j : ℕ) (slice : j < slices_of s) where
    pub sizes_by_slices : (n : ℕ) → n ≤ s.rows * s.planes
        → size_to (layout_of s) (y % (table_of s).m + j * (table_of s).m) (n * s.columns)
        ≡ among (slices_of s) j n * among (table_of s).m y s.columns
    sizes_by_slices zero p =
        let none : 0 * s.columns ≡ 0 = omega arith in
        omega (
          arith,
          ap (size_to (layout_of s) (y % (table_of s).m + j * (table_of s).m)) none,
          size_none (layout_of s) (y % (table_of s).m + j * (table_of s).m),
          ap (λ (k : ℕ). k * among (table_of s).m y s.columns) (among_none (slices_of s) j),
        )
    sizes_by_slices (suc n) p = go (ℕ_discrete (n % slices_of s) j) (sizes_by_slices n (omega arith))
      where
        more : suc n * s.columns ≡ n * s.columns + s.columns
        more = omega arith

        one : suc n ≡ n + 1
        one = omega arith

        low : j % slices_of s ≡ j
        low = mod-eq_of_lt slice

        step : (k : ℕ) → bit (eqb (n % slices_of s) (j % slices_of s)) ≡ k
            → among (slices_of s) j (suc n) * among (table_of s).m y s.columns
            ≡ (k + among (slices_of s) j n) * among (table_of s).m y s.columns
        step k e =
            ap (λ (i : ℕ). among (slices_of s) j i * among (table_of s).m y s.columns) one
            ∙ ap (λ (i : ℕ). i * among (table_of s).m y s.columns) (among_step (slices_of s) j n)
            ∙ ap (λ (i : ℕ). (i + among (slices_of s) j n) * among (table_of s).m y s.columns) e

        go : Dec (n % slices_of s ≡ j)
            → size_to (layout_of s) (y % (table_of s).m + j * (table_of s).m) (n * s.columns)
            ≡ among (slices_of s) j n * among (table_of s).m y s.columns
            → size_to (layout_of s) (y % (table_of s).m + j * (table_of s).m) (suc n * s.columns)
            ≡ among (slices_of s) j (suc n) * among (table_of s).m y s.columns
        go (yes e) before =
            let none : 0 + s.columns ≡ s.columns = omega arith in
            omega (
              arith,
              ap (size_to (layout_of s) (y % (table_of s).m + j * (table_of s).m)) more,
              own_line y j n p e,
              ap (among (table_of s).m y) (slices_start s a two n),
              ap (λ (k : ℕ). among (table_of s).m y (k + s.columns)) (slices_start s a two n),
              among_none (table_of s).m y,
              ap (among (table_of s).m y) none,
              step 1 (ap bit (eq-eqb (n % slices_of s) (j % slices_of s) (e ∙ sym low))),
              before,
            )
        go (no e) before =
            omega (
              arith,
              ap (size_to (layout_of s) (y % (table_of s).m + j * (table_of s).m)) more,
              other_line y j n p e,
              step 0 (ap bit (ne_eqb (n % slices_of s) (j % slices_of s) (λ q. e (q ∙ low)))),
              before,
            )
