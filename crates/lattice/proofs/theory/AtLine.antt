-- A pass over the lines of an accepted shape: the first line, the class and the position of a cell, and the step to the next
-- line of a slice.
use Prim.Native.Nat.{ℕ, zero, suc, ◌+◌, ◌-◌, ◌*◌, ◌/◌, ◌%◌, ◌<◌, ◌≤◌}
use mathlib.Core.List.{List}
use mathlib.Core.Path.{◌≡◌, ap, ◌∙◌}
use native.Mathlib.Decide.{ℕ_discrete, dec_lt}
use native.Mathlib.Nat.{mod-lt, add-mod_right, add-div_right, div-add-mod', mul-le-mul, le_refl}
use native.Mathlib.Omega.{arith}
use lib.ListN.{length, get_or}
use Rattle.lattice.specs.declared.line.Line.{Line}
use Rattle.lattice.specs.declared.shape.Shape.{Shape}
use Rattle.lattice.specs.Shape.{max_side, max_planes, Accepted, cells_of}
use Rattle.lattice.specs.Class.{minus_mod, classes_of, class_at, layout_of}
use Rattle.lattice.specs.Position.{Layout, size_to, position}
use Rattle.lattice.specs.Lines.{remainder_table, table_of, slices_of, offset_of, line_start, IsLine, among, Positions, Gains}
use Rattle.lattice.specs.Lines.{round, Advanced, CanAdvance, AtLine}
use Rattle.lattice.proofs.theory.Limits.{legal}
use Rattle.lattice.proofs.theory.LineSizes.{line_position}
use Rattle.lattice.proofs.theory.Placements.{slices_some, period_some, classes_placed}
use Rattle.lattice.proofs.theory.PositionLists.{round_most, among_most, among_few, stretch_most, step_positions}
use Rattle.lattice.proofs.theory.PositionLists.{can_advance}
use Rattle.lattice.proofs.theory.Positions.{size_none}
use Rattle.lattice.proofs.theory.Slices.{size_skipped, other_line, own_line, sizes_by_slices}
use Rattle.lattice.proofs.theory.Starts.{start_below, start_slice, line_class, remainder_period}

-- with two classes or more no class has more than 61,000 cells
module _ (s : Shape) (a : Accepted s) where
  -- a class of slice j, as the table has it
  abbrev class : ℕ → ℕ → ℕ
  class y j = y % (table_of s).m + j * (table_of s).m

  -- where a slice has two classes or more, a line of w cells adds at most w / 2 + 1 to each
  module _ (two : 2 ≤ (table_of s).m) (y j : ℕ) where
    line_adds : (l : ℕ) → l < s.rows * s.planes
        → size_to (layout_of s) (class y j) (l * s.columns + s.columns)
        ≤ size_to (layout_of s) (class y j) (l * s.columns) + (s.columns / 2 + 1)
    line_adds l p = go (ℕ_discrete (l % slices_of s) j)
      where
        go : Dec (l % slices_of s ≡ j)
            → size_to (layout_of s) (class y j) (l * s.columns + s.columns)
            ≤ size_to (layout_of s) (class y j) (l * s.columns) + (s.columns / 2 + 1)
        go (yes e) =
            omega (
              arith,
              own_line s a y j l p e,
              stretch_most (table_of s).m (line_start (table_of s) s.rows l) s.columns y two
                  (start_below (table_of s) s.rows (period_some s a) l),
            )
        go (no e) = omega (arith, other_line s a y j l p e)

    lines_add : (n : ℕ) → n ≤ s.rows * s.planes
        → size_to (layout_of s) (class y j) (n * s.columns) ≤ n * (s.columns / 2 + 1)
    lines_add zero p =
        let none : 0 * s.columns ≡ 0 = omega arith in
        omega (arith, ap (size_to (layout_of s) (class y j)) none, size_none (layout_of s) (class y j))
    lines_add (suc n) p =
        let more : suc n * s.columns ≡ n * s.columns + s.columns = omega arith in
        omega (arith, ap (size_to (layout_of s) (class y j)) more, line_adds n p, lines_add n (omega arith))

    few_by_lines : (n : ℕ) → n ≤ s.rows * s.planes → size_to (layout_of s) (class y j) (n * s.columns) ≤ 61000
    few_by_lines n p =
        let g = legal s a in
        omega (
          arith,
          lines_add n p,
          g.product,
          mul-le-mul {n₁ = n} {m₁ = s.columns / 2 * 2} {n₂ = s.rows * s.planes} {m₂ = s.columns} p (omega arith),
          mul-le-mul {n₁ = s.rows} {m₁ = s.planes} {n₂ = max_side} {m₂ = max_planes} g.height_high g.planes_high,
        )

  -- where there are two slices or more, at most half the rows and one are a slice's
  module _ (two : 2 ≤ slices_of s) (y j : ℕ) where
    few_by_slices : (n : ℕ) → j < slices_of s → n ≤ s.rows * s.planes
        → size_to (layout_of s) (class y j) (n * s.columns) ≤ 61000
    few_by_slices n slice p =
        let g = legal s a in
        omega (
          arith,
          sizes_by_slices s a two y j slice n p,
          mul-le-mul {n₁ = among (slices_of s) j n} {m₁ = among (table_of s).m y s.columns} {n₂ = n / slices_of s + 1} {m₂ =
              s.columns} (among_few (slices_of s) j n (slices_some s a)) (among_most (table_of s).m y s.columns),
          mul-le-mul {n₁ = n / slices_of s * 2} {m₁ = s.columns} {n₂ = s.rows * s.planes} {m₂ = s.columns}
              (omega (
                arith,
                div-add-mod' n (slices_of s),
                mul-le-mul {n₁ = n / slices_of s} {m₁ = 2} {n₂ = n / slices_of s} {m₂ = slices_of s} (le_refl _) two,
              )) (le_refl _),
          g.product,
          g.width_high,
        )

  few_cells : 2 ≤ classes_of s → (y l : ℕ) → l < s.rows * s.planes
      → size_to (layout_of s) (y % (table_of s).m + offset_of s l) (l * s.columns + s.columns) ≤ 61000
  few_cells two y l p = go (dec_lt 1 (table_of s).m)
    where
      more : l * s.columns + s.columns ≡ (l + 1) * s.columns
      more = omega arith

      go : Dec (1 < (table_of s).m) → size_to (layout_of s) (class y (l % slices_of s)) (l * s.columns + s.columns) ≤ 61000
      go (yes wide) =
          omega (
            arith,
            ap (size_to (layout_of s) (class y (l % slices_of s))) more,
            few_by_lines wide y (l % slices_of s) (l + 1) (omega arith),
          )
      go (no narrow) =
          let one : (table_of s).m ≡ 1 = omega (arith, period_some s a) in
          omega (
            arith,
            ap (size_to (layout_of s) (class y (l % slices_of s))) more,
            few_by_slices (omega (arith, classes_placed s, ap (λ (n : ℕ). slices_of s * n) one)) y (l % slices_of s) (l + 1)
                (mod-lt l (slices_some s a)) (omega arith),
          )

-- the cells of line l lie in the field
pub line_room : (s : Shape) (l : ℕ) → l < s.rows * s.planes → l * s.columns + s.columns ≤ cells_of s
line_room s l p =
    omega (
      arith,
      mul-le-mul {n₁ =
          l + 1} {m₁ = s.columns} {n₂ = s.rows * s.planes} {m₂ = s.columns} (omega arith) (le_refl _),
    )

-- the list serves at another cell too where the sizes of the classes are the same
pub positions_still : (L : Layout) (m : ℕ) (table : ℕ → ℕ) (start off n k wide : ℕ) (e : List ℕ)
    → ((y : ℕ) → size_to L (table y + off) k ≡ size_to L (table y + off) n)
    → Positions L m table start off n wide e → Positions L m table start off k wide e
unfolding Positions
positions_still L m table start off n k wide e same held y l = omega (arith, same y, held y l)

-- what is stored in 16 bits is the sum, where it stays there
within_bits : (v r : ℕ) → r ≤ v → v < 65536 → r ≤ 1 → (v + (65536 - r)) % 65536 + r ≡ v
within_bits v r low high one = omega arith

module _ (s : Shape) (a : Accepted s) (l : ℕ) (x : Line) (e : List ℕ) (at : AtLine s l x e) where
  some : 0 < (table_of s).m
  some = period_some s a

  at_start : x.start ≡ line_start (table_of s) s.rows l
  at_start = at.line.start ∙ start_slice s a l

  at_below : x.start < (table_of s).m
  at_below = rw at_start (start_below (table_of s) s.rows some l)

  pub at_room : x.start + s.columns ≤ length e
  at_room = omega (arith, at.wide, at_below)

  module _ (inside : l < s.rows * s.planes) where
    -- the class of the cell in column j
    pub at_class : (j : ℕ) → j < s.columns → class_at s (l * s.columns + j) ≡ (x.start + j) % (table_of s).m + offset_of s l
    at_class j p = rw at_start (line_class s a l j inside p)

    -- and its position
    pub at_position : (j : ℕ) → j < s.columns → position (layout_of s) (l * s.columns + j) ≡ get_or e (x.start + j) 0
    at_position j p =
        line_position (layout_of s) (table_of s).m (remainder_table (table_of s).m) (remainder_period (table_of s).m some)
        x.start (offset_of s l) (l * s.columns) s.columns at_class (length e) e at.held j p
        (omega (arith, at.wide, at_below))

    -- a step of `step` places back
    module _ (step : ℕ) (p f : List ℕ) (gain : Gains (table_of s).m (s.columns + step) (length p) p)
        (less : step < (table_of s).m)
        (reach : length e + (table_of s).m ≤ length p) (two : 2 ≤ classes_of s)
        (short : length e ≤ 4096)
        (stored : (y : ℕ) → y < length e
        → get_or f y 0 ≡ (get_or e y 0 + get_or p (y + ((table_of s).m - minus_mod x.start step (table_of s).m)) 0 +
        (65536 - round x.start step)) % 65536) where
      can : CanAdvance (table_of s).m x.start step (length e) e p
      can =
          can_advance (layout_of s) (table_of s).m (remainder_table (table_of s).m) (remainder_period (table_of s).m some)
          x.start step (offset_of s l) (l * s.columns) s.columns (length e) (length p) at_class e p at.held gain
          at_below less reach (λ y. few_cells s a two y l inside) short

      moved : Advanced (table_of s).m x.start step (length e) e p f
      unfolding Advanced
      moved y b =
          ap (λ (v : ℕ). v + round x.start step) (stored y b)
          ∙ within_bits (get_or e y 0 + get_or p (y + ((table_of s).m - minus_mod x.start step (table_of s).m)) 0)
          (round x.start step) (can.low y b) (can.high y b) (round_most x.start step)

      behind : Positions (layout_of s) (table_of s).m (remainder_table (table_of s).m) (minus_mod x.start step (table_of s).m)
          (offset_of s l) (l * s.columns + s.columns) (length e) f
      behind =
          step_positions (layout_of s) (table_of s).m (remainder_table (table_of s).m) (remainder_period (table_of s).m some)
          x.start step (offset_of s l) (l * s.columns) s.columns (length e) (length p) at_class e p at.held gain
          at_below less reach f moved

      -- to the next line of the slice: none between them has a class of it
      pub at_step : (next : Line) → length f ≡ length e → l + slices_of s ≤ s.rows * s.planes
          → IsLine (table_of s) s.rows (l / slices_of s + 1) next
          → next.start ≡ minus_mod x.start step (table_of s).m → AtLine s (l + slices_of s) next f
      at_step next long on is begins =
          record { line = rw (add-div_right l (slices_some s a)) is; wide = omega (arith, long, at.wide); held = held }
        where
          same : offset_of s (l + slices_of s) ≡ offset_of s l
          same = ap (λ (n : ℕ). n * (table_of s).m) (add-mod_right l (slices_of s))

          held : Positions (layout_of s) (table_of s).m (remainder_table (table_of s).m) next.start
              (offset_of s (l + slices_of s)) ((l + slices_of s) * s.columns) (length f) f
          held =
              rw (long, begins, same)
              (positions_still (layout_of s) (table_of s).m (remainder_table (table_of s).m)
              (minus_mod x.start step (table_of s).m) (offset_of s l) (l * s.columns + s.columns)
              ((l + slices_of s) * s.columns) (length e) f (λ y. size_skipped s a l y on) behind)
