-- The sizes of an accepted shape's classes, from the sums over the beginnings of its lines.
use Prim.Native.Nat.{ℕ, zero, suc, ◌+◌, ◌-◌, ◌*◌, ◌/◌, ◌%◌, ◌<◌, ◌≤◌}
use mathlib.Core.List.{List}
use mathlib.Core.Path.{◌≡◌, sym, ap, ap₂, ◌∙◌}
use native.Mathlib.Decide.{dec_lt}
use native.Mathlib.Nat.{mod-lt, mod-one, mod-mod, mod-eq_of_lt, div-add-mod', div-lt_iff_lt-mul, div-le_self}
use native.Mathlib.Nat.{mul-le-mul, le_refl}
use native.Mathlib.Numerals.{add-one}
use native.Mathlib.Omega.{arith}
use lib.Dec.{eqb}
use lib.ListN.{get_or}
use borrow.Author.Tests.{ne_eqb}
use Rattle.lattice.specs.declared.line.Pass.{Pass}
use Rattle.lattice.specs.declared.shape.Shape.{Shape}
use Rattle.lattice.specs.Cell.{cell_at}
use Rattle.lattice.specs.Shape.{max_cells, max_classes, Accepted, cells_of}
use Rattle.lattice.specs.Class.{classes_of, class_at, layout_of}
use Rattle.lattice.specs.Position.{size_to, size}
use Rattle.lattice.specs.Lines.{ByLines, remainder_table, table_of, slices_of, line_start, pass_with, pass_of, among, starts_at}
use Rattle.lattice.specs.Lines.{Sums, heads}
use Rattle.lattice.proofs.theory.ClassBelow.{class_below}
use Rattle.lattice.proofs.theory.Counting.{count_none}
use Rattle.lattice.proofs.theory.Heads.{heads_none, heads_next, sizes_by_lines}
use Rattle.lattice.proofs.theory.Limits.{legal}
use Rattle.lattice.proofs.theory.Placements.{classes_placed, slices_some, period_some, classes_some, classes_limit}
use Rattle.lattice.proofs.theory.Positions.{size_most}
use Rattle.lattice.proofs.theory.Slices.{sizes_by_slices}
use Rattle.lattice.proofs.theory.Starts.{start_below, by_lines, remainder_period}

-- the sums that are listed
heads_listed : (m : ℕ) (start : ℕ → ℕ) (n : ℕ) (S H : List ℕ) → 0 < m → ((l : ℕ) → start l < m)
    → ((a : ℕ) → get_or S a 0 ≡ starts_at start a n) → Sums (λ y. get_or S (y % m) 0) (2 * m) H
    → (y : ℕ) → y ≤ 2 * m → get_or H y 0 ≡ heads m start n y
heads_listed m start n S H some below counted sums zero l = sums.first ∙ sym (heads_none m start n)
heads_listed m start n S H some below counted sums (suc y) l =
    let one : y + 1 ≡ suc y = add-one y in
    omega (
      arith,
      ap (λ (k : ℕ). get_or H k 0) one,
      ap (λ (k : ℕ). heads m start n k) one,
      sums.next y (omega arith),
      counted (y % m),
      heads_next m start below n y,
      heads_listed m start n S H some below counted sums y (omega arith),
    )

module _ (s : Shape) (accepted : Accepted s) (pass : Pass) (same : pass ≡ pass_of s) where
  -- the numbers of the pass
  pub classes_are : pass.classes ≡ classes_of s
  unfolding pass_with
  classes_are = ap (λ (p : Pass). p.classes) same ∙ classes_placed s

  pub slices_are : pass.slices ≡ slices_of s
  unfolding pass_with
  slices_are = ap (λ (p : Pass). p.slices) same

  pub period_is : pass.period ≡ (table_of s).m
  unfolding pass_with
  period_is = ap (λ (p : Pass). p.period) same

  pub columns_are : pass.columns ≡ s.columns
  unfolding pass_with
  columns_are = ap (λ (p : Pass). p.columns) same

  pub lines_are : pass.lines ≡ s.rows * s.planes
  unfolding pass_with
  lines_are = ap (λ (p : Pass). p.lines) same

  pub cells_are : pass.cells ≡ cells_of s
  unfolding pass_with
  cells_are = ap (λ (p : Pass). p.cells) same

  -- there is a class, and not too many of them
  pub some : 0 < pass.classes
  some = omega (arith, classes_are, classes_some s accepted)

  pub most : pass.classes ≤ max_classes
  most = omega (arith, classes_are, classes_limit s accepted)

  -- and so for the slices and the classes of each
  pub all_slices : pass.classes ≡ pass.slices * pass.period
  all_slices = omega (arith, classes_are, classes_placed s, ap₂ ◌*◌ slices_are period_is)

  pub slices_least : 0 < pass.slices
  slices_least = omega (arith, slices_are, slices_some s accepted)

  pub period_least : 0 < pass.period
  period_least = omega (arith, period_is, period_some s accepted)

  pub slices_most : pass.slices ≤ max_classes
  slices_most = omega (arith, most, all_slices, mul-le-mul (le_refl pass.slices) period_least)

  pub period_most : pass.period ≤ max_classes
  period_most = omega (arith, most, all_slices, mul-le-mul slices_least (le_refl pass.period))

  -- the classes of a slice are among all of them, and a class is of a slice
  pub slice_room : (j : ℕ) → j < pass.slices → j * pass.period + pass.period ≤ pass.classes
  slice_room j l =
      omega (
        arith,
        all_slices,
        mul-le-mul {n₁ = j + 1} {m₁ = pass.period} {n₂ = pass.slices} {m₂ = pass.period} (omega arith) (le_refl _),
      )

  pub slice_below : (c : ℕ) → c < pass.classes → c / pass.period < pass.slices
  slice_below c l = (div-lt_iff_lt-mul period_least).1 (omega (arith, all_slices))

  abbrev starts : ℕ → ℕ
  starts l = line_start (table_of s) s.rows l

  pub starts_below : (l : ℕ) → starts l < pass.period
  starts_below l = rw period_is (start_below (table_of s) s.rows (period_some s accepted) l)

  -- the number of lines is in its limits, and so is the number of whole rounds of the table in all of them
  pub lines_most_lem : pass.lines ≤ max_cells
  lines_most_lem =
      let g = legal s accepted in
      omega (
        arith,
        lines_are,
        g.product,
        mul-le-mul {n₁ =
            s.rows * s.planes} {m₁ = 1} {n₂ = s.rows * s.planes} {m₂ = s.columns} (le_refl _) g.width_low,
      )

  pub base_most : pass.lines * (pass.columns / pass.period) ≤ max_cells
  base_most =
      let g = legal s accepted in
      let less : pass.columns / pass.period ≤ s.columns = omega (
        arith,
        columns_are,
        div-le_self pass.columns
            pass.period,
      ) in
      omega (
        arith,
        g.product,
        mul-le-mul {n₁ = pass.lines} {m₁ = pass.columns / pass.period} {n₂ = s.rows * s.planes} {m₂ = s.columns} (omega
            (arith, lines_are)) less,
      )

  all_cells : pass.lines * pass.columns ≡ cells_of s
  all_cells = rw (lines_are, columns_are) (omega arith)

  -- no cell is of another class
  size_above : (c : ℕ) → pass.classes ≤ c → size (layout_of s) c ≡ 0
  unfolding size_to
  size_above c l =
      count_none (λ i. eqb (class_at s i) c) (cells_of s) (λ i r. ne_eqb (class_at s i) c (λ (q : class_at s i ≡ c). omega
      (arith, below i)))
    where
      below : (i : ℕ) → class_at s i < pass.classes
      below i = rw classes_are (class_below s accepted (cell_at s i))

  -- with two slices or more a class has, for each line of its slice, what a line gives
  module _ (two : 2 ≤ pass.slices) where
    abbrev share : ℕ → ℕ
    share c = among pass.slices (c / pass.period) pass.lines * among pass.period (c % pass.period) pass.columns

    share_right : (c : ℕ) → c < pass.classes → share c ≡ size (layout_of s) c
    share_right c l =
        let slice : c / pass.period < pass.slices = slice_below c l in
        rw (slices_are, period_is, lines_are, columns_are)
        (sym (sizes_by_slices s accepted (rw slices_are at two) (c % (table_of s).m) (c / (table_of s).m)
        (rw (slices_are, period_is) at slice) (s.rows * s.planes) (le_refl _))
        ∙ ap₂ (size_to (layout_of s)) (own c) all)
      where
        own : (c : ℕ) → c % (table_of s).m % (table_of s).m + c / (table_of s).m * (table_of s).m ≡ c
        own c = omega (arith, mod-mod c (table_of s).m, div-add-mod' c (table_of s).m)

        all : s.rows * s.planes * s.columns ≡ cells_of s
        all = omega arith

    pub share_most : (c : ℕ) → c < pass.classes → share c ≤ max_cells
    share_most c l =
        omega (arith, share_right c l, size_most (layout_of s) c (cells_of s), (legal s accepted).product)

    -- so the list of these numbers holds the sizes
    pub shares_right : (before after : List ℕ) → ((c : ℕ) → get_or before c 0 ≡ 0)
        → ((c : ℕ) → c < pass.classes → get_or after c 0 ≡ share c)
        → ((c : ℕ) → pass.classes ≤ c → get_or after c 0 ≡ get_or before c 0) → (c : ℕ) → get_or after c 0 ≡ size (layout_of s) c
    shares_right before after none own others c = go (dec_lt c pass.classes)
      where
        go : Dec (c < pass.classes) → get_or after c 0 ≡ size (layout_of s) c
        go (yes p) = own c p ∙ share_right c p
        go (no p) = omega (arith, others c (omega arith), none c, size_above c (omega arith))

  -- with one slice no line has an offset
  module _ (one : pass.slices ≡ 1) where
    alone : pass.classes ≡ pass.period
    alone = omega (arith, all_slices, ap (λ (n : ℕ). n * pass.period) one)

    placed : ByLines (layout_of s) pass.columns pass.lines (remainder_table pass.period) starts (λ l. 0)
    placed =
        record {
          class = λ l x p q.
              let none : l % slices_of s ≡ 0 = ap (λ (n : ℕ). l % n) (sym slices_are ∙ one) ∙ mod-one l in
              omega (
                arith,
                ap (λ (n : ℕ). class_at s (l * n + x)) columns_are,
                (by_lines s accepted).class l x (omega (arith, lines_are)) (omega (arith, columns_are)),
                ap (λ (n : ℕ). (starts l + x) % n) period_is,
                ap (λ (n : ℕ). n * (table_of s).m) none,
              );
        }

    -- the size of a class below m
    size_sums : (c : ℕ) → c < pass.period
        → size (layout_of s) c + heads pass.period starts pass.lines (c + 1 + pass.period - pass.columns % pass.period)
        ≡ pass.lines * (pass.columns / pass.period) + heads pass.period starts pass.lines (c + 1 + pass.period)
    size_sums c l =
        let m = pass.period in
        let w = pass.columns in
        let own : c % m ≡ c = mod-eq_of_lt l in
        let less : w % m < m = mod-lt w period_least in
        omega (
          arith,
          ap (λ (n : ℕ). size_to (layout_of s) n (cells_of s)) own,
          ap (λ (n : ℕ). size_to (layout_of s) (c % m) n) all_cells,
          by_all c,
        )
      where
        by_all : (c : ℕ)
            → size_to (layout_of s) (c % pass.period) (pass.lines * pass.columns)
            + heads pass.period starts pass.lines (c + 1 + pass.period - pass.columns % pass.period)
            ≡ pass.lines * (pass.columns / pass.period) + heads pass.period starts pass.lines (c + 1 + pass.period)
        by_all c =
            let m = pass.period in
            let w = pass.columns in
            let less : w % m < m = mod-lt w period_least in
            sizes_by_lines (layout_of s) m (remainder_table m) starts (remainder_period m period_least) w (w / m) (w % m)
            pass.lines (sym (div-add-mod' w m)) (omega arith) placed c pass.lines (le_refl _)

    -- the sums are in order, and the list that they give holds the sizes
    module _ (S H : List ℕ) (counted : (a : ℕ) → get_or S a 0 ≡ starts_at starts a pass.lines)
        (sums : Sums (λ y. get_or S (y % pass.period) 0) (2 * pass.period) H) where
      held : (y : ℕ) → y ≤ 2 * pass.period → get_or H y 0 ≡ heads pass.period starts pass.lines y
      held = heads_listed pass.period starts pass.lines S H period_least starts_below counted sums

      pub sums_less : (c : ℕ) → c < pass.period
          → get_or H (c + 1 + pass.period - pass.columns % pass.period) 0
          ≤ pass.lines * (pass.columns / pass.period) + get_or H (c + 1 + pass.period) 0
      sums_less c l =
          omega (
            arith,
            size_sums c l,
            held (c + 1 + pass.period - pass.columns % pass.period) (omega arith),
            held (c + 1 + pass.period) (omega arith),
          )

      pub sizes_right : (before after : List ℕ) → ((c : ℕ) → get_or before c 0 ≡ 0)
          → ((c : ℕ) → c < pass.period
          → get_or after c 0 + get_or H (c + 1 + pass.period - pass.columns % pass.period) 0
          ≡ pass.lines * (pass.columns / pass.period) + get_or H (c + 1 + pass.period) 0)
          → ((c : ℕ) → pass.period ≤ c → get_or after c 0 ≡ get_or before c 0) → (c : ℕ) → get_or after c 0 ≡ size (layout_of s) c
      sizes_right before after none own others c = go (dec_lt c pass.period)
        where
          go : Dec (c < pass.period) → get_or after c 0 ≡ size (layout_of s) c
          go (yes p) =
              omega (
                arith,
                own c p,
                size_sums c p,
                held (c + 1 + pass.period - pass.columns % pass.period) (omega arith),
                held (c + 1 + pass.period) (omega arith),
              )
          go (no p) = omega (arith, others c (omega arith), none c, size_above c (omega (arith, alone)))
