-- The lines of a field: where each begins in the table y mod m, and the class of a cell from it.
use Prim.Native.Nat.{ℕ, ◌+◌, ◌-◌, ◌*◌, ◌/◌, ◌%◌, ◌<◌, ◌≤◌}
use mathlib.Core.Path.{◌≡◌, refl, sym, ap, ◌∙◌}
use native.Mathlib.Nat.{add-mod_right, mod-lt, mod-mod, mod-one, mod-eq_of_lt, zero-mod, zero-div, div-one, mod-add-mod}
use native.Mathlib.Nat.{div-add-mod'}
use native.Mathlib.Omega.{arith}
use lib.Arith.{digits_div, digits_mod}
use Rattle.lattice.specs.declared.class.Placement.{Placement}
use Rattle.lattice.specs.declared.settings.Settings.{Settings}
use Rattle.lattice.specs.declared.shape.Shape.{Shape}
use Rattle.lattice.specs.Shape.{Accepted}
use Rattle.lattice.specs.Cell.{Cell, cell, cell_at}
use Rattle.lattice.specs.Class.{minus_mod, class_with, class_at, layout_of, placement_of, class_by}
use Rattle.lattice.specs.Settings.{settings}
use Rattle.lattice.specs.Lines.{ByLines, HasPeriod, remainder_table, table_of, slices_of, offset_of, line_start}
use Rattle.lattice.proofs.theory.Limits.{window_legal}
use Rattle.lattice.proofs.theory.Placements.{placed_window, placed_strength, either, class_placed, period_some}
use Rattle.lattice.proofs.theory.Remainder.{add_same, minus_below, minus_adds, minus_only}

abbrev over : ℕ → ℕ → ℕ
over m n = n % m

module _ (m : ℕ) (some : 0 < m) where
  -- a difference in two steps
  minus_again : (a y z : ℕ) → minus_mod (minus_mod a y m) z m ≡ minus_mod a (y + z) m
  minus_again a y z =
      minus_only m some a (y + z) _ (minus_below m some (minus_mod a y m) z)
      (ap (over m) whole ∙ add_same (minus_mod (minus_mod a y m) z m + z) (minus_mod a y m) y y m (minus_adds m some
      (minus_mod a y m) z) refl ∙ minus_adds m some a y)
    where
      whole : minus_mod (minus_mod a y m) z m + (y + z) ≡ minus_mod (minus_mod a y m) z m + z + y
      whole = omega arith

  -- a difference from x is x steps after the difference from 0
  minus_from : (x z : ℕ) → minus_mod x z m ≡ (minus_mod 0 z m + x) % m
  minus_from x z =
      sym (minus_only m some x z _ (mod-lt (minus_mod 0 z m + x) some)
      (mod-add-mod (minus_mod 0 z m + x) m z ∙ ap (over m) whole ∙ add_same (minus_mod 0 z m + z) 0 x x m
      (minus_adds m some 0 z) refl ∙ ap (over m) none))
    where
      whole : minus_mod 0 z m + x + z ≡ minus_mod 0 z m + z + x
      whole = omega arith

      none : 0 + x ≡ x
      none = omega arith

  -- the difference of two numbers below m, with no division
  pub back_above : (a z : ℕ) → a < m → z ≤ a → a - z ≡ minus_mod a z m
  back_above a z l p = minus_only m some a z (a - z) (omega arith) (ap (over m) whole)
    where
      whole : a - z + z ≡ a
      whole = omega arith

  pub back_below : (a z : ℕ) → a < z → z < m → a + m - z ≡ minus_mod a z m
  back_below a z l p = minus_only m some a z (a + m - z) (omega arith) (ap (over m) whole ∙ add-mod_right a m)
    where
      whole : a + m - z + z ≡ a + m
      whole = omega arith

-- what is taken away matters only by its remainder
pub minus_mod_lem : (m a z : ℕ) → minus_mod a (z % m) m ≡ minus_mod a z m
unfolding minus_mod
minus_mod_lem m a z = ap (λ (n : ℕ). (a + (m - n)) % m) (mod-mod z m)

minus_none : (m a : ℕ) → 0 < m → a < m → minus_mod a 0 m ≡ a
minus_none m a some l = sym (back_above m some a 0 l (omega arith)) ∙ omega arith

-- the next number in a plane of h rows: the next row, or row 0 of the next plane
module _ (h l : ℕ) where
  here : l / h * h + l % h ≡ l
  here = div-add-mod' l h

  module _ (p : l % h + 1 < h) where
    next_row : l + 1 ≡ l / h * h + (l % h + 1)
    next_row = omega (arith, here)

    pub row_next : (l + 1) % h ≡ l % h + 1
    row_next = ap (over h) next_row ∙ digits_mod (l / h) p

    pub row_plane : (l + 1) / h ≡ l / h
    row_plane = ap (λ (n : ℕ). n / h) next_row ∙ digits_div (l / h) p

  module _ (some : 0 < h) (p : l % h + 1 ≡ h) where
    next_plane : l + 1 ≡ (l / h + 1) * h + 0
    next_plane = omega (arith, here)

    pub plane_row : (l + 1) % h ≡ 0
    plane_row = ap (over h) next_plane ∙ digits_mod (l / h + 1) some

    pub plane_next : (l + 1) / h ≡ l / h + 1
    plane_next = ap (λ (n : ℕ). n / h) next_plane ∙ digits_div (l / h + 1) some

-- the starts from line to line
module _ (k : Settings) (h : ℕ) (some : 0 < k.m) where
  pub start_below : (l : ℕ) → line_start k h l < k.m
  unfolding line_start
  start_below l = minus_below k.m some 0 (k.b * (l % h) + k.c * (l / h))

  -- a plane's first line begins where the plane does
  start_plane : (l : ℕ) → l % h ≡ 0 → line_start k h l ≡ minus_mod 0 (k.c * (l / h)) k.m
  unfolding line_start
  start_plane l e =
      ap (λ (n : ℕ). minus_mod 0 (k.b * n + k.c * (l / h)) k.m) e ∙ ap (λ (n : ℕ). minus_mod 0 n k.m) none
    where
      none : k.b * 0 + k.c * (l / h) ≡ k.c * (l / h)
      none = omega arith

  pub start_first : line_start k h 0 ≡ 0
  start_first =
      start_plane 0 (zero-mod h)
      ∙ ap (λ (n : ℕ). minus_mod 0 (k.c * n) k.m) (zero-div h)
      ∙ ap (λ (n : ℕ). minus_mod 0 n k.m) none
      ∙ minus_none k.m 0 some some
    where
      none : k.c * 0 ≡ 0
      none = omega arith

  -- to the next row: −b, mod m
  pub start_row : (l : ℕ) → l % h + 1 < h → line_start k h (l + 1) ≡ minus_mod (line_start k h l) k.b k.m
  unfolding line_start
  start_row l p =
      ap (λ (n : ℕ). minus_mod 0 (k.b * n + k.c * ((l + 1) / h)) k.m) (row_next h l p)
      ∙ ap (λ (n : ℕ). minus_mod 0 (k.b * (l % h + 1) + k.c * n) k.m) (row_plane h l p)
      ∙ ap (λ (n : ℕ). minus_mod 0 n k.m) whole
      ∙ sym (minus_again k.m some 0 (k.b * (l % h) + k.c * (l / h)) k.b)
    where
      whole : k.b * (l % h + 1) + k.c * (l / h) ≡ k.b * (l % h) + k.c * (l / h) + k.b
      whole = omega arith

  -- from the last row of a plane to the next plane: a step that is one for all planes
  pub start_turns : (l : ℕ) → 0 < h → l % h + 1 ≡ h
      → line_start k h (l + 1) ≡ minus_mod (line_start k h l) (minus_mod k.c (k.b * (h - 1)) k.m) k.m
  unfolding line_start
  start_turns l q p =
      start_plane (l + 1) (plane_row h l q p)
      ∙ ap (λ (n : ℕ). minus_mod 0 (k.c * n) k.m) (plane_next h l q p)
      ∙ sym (minus_mod_lem k.m 0 (k.c * (l / h + 1)))
      ∙ ap (λ (n : ℕ). minus_mod 0 n k.m) (sym both)
      ∙ minus_mod_lem k.m 0 (k.b * (l % h) + k.c * (l / h) + turn)
      ∙ sym (minus_again k.m some 0 (k.b * (l % h) + k.c * (l / h)) turn)
    where
      turn : ℕ
      turn = minus_mod k.c (k.b * (h - 1)) k.m

      last : l % h ≡ h - 1
      last = omega arith

      front : k.b * (l % h) + k.c * (l / h) + turn ≡ turn + k.b * (h - 1) + k.c * (l / h)
      front = omega (arith, ap (λ (n : ℕ). k.b * n) last)

      back : k.c + k.c * (l / h) ≡ k.c * (l / h + 1)
      back = omega arith

      both : (k.b * (l % h) + k.c * (l / h) + turn) % k.m ≡ (k.c * (l / h + 1)) % k.m
      both =
          ap (over k.m) front
          ∙ add_same (turn + k.b * (h - 1)) k.c (k.c * (l / h)) (k.c * (l / h)) k.m
          (minus_adds k.m some k.c (k.b * (h - 1))) refl
          ∙ ap (over k.m) back

-- the cell in column x of line l
line_cell : (s : Shape) (l x : ℕ) → x < s.columns → cell_at s (l * s.columns + x) ≡ cell (l % s.rows) (l / s.rows) x
unfolding cell_at
line_cell s l x p i =
    cell
    (digits_div l p i % s.rows)
    (digits_div l p i / s.rows)
    (digits_mod l p i)

-- by a window every line begins at the table's first place
start_window : (q h l : ℕ) → 0 < q → line_start (settings q 0 0) h l ≡ 0
unfolding line_start
start_window q h l some =
    let none : 0 * (l % h) + 0 * (l / h) ≡ 0 = omega arith in
    ap (λ (n : ℕ). minus_mod 0 n q) none ∙ minus_none q 0 some some

-- the lines of an accepted shape, by window or by strength
module _ (s : Shape) (a : Accepted s) where
  abbrev starts : ℕ → ℕ
  starts l = line_start (table_of s) s.rows l

  window_starts : s.strength ≡ 0 → (l : ℕ) → starts l ≡ 0
  window_starts z l =
      ap (λ (p : Placement). line_start p.settings s.rows l) (placed_window s z)
      ∙ start_window s.window.columns s.rows l (window_legal s a z).columns

  one_slice : 1 ≤ s.strength → slices_of s ≡ 1
  one_slice some = ap (λ (p : Placement). p.slices) (placed_strength s some)

  -- where there are two slices or more, every line begins at the table's first place
  pub slices_start : 2 ≤ slices_of s → (l : ℕ) → starts l ≡ 0
  slices_start two = either s window_starts (λ some. absurd (omega (arith, one_slice some)))

  -- a line begins where the line does whose number is that of the lines before it in its slice
  pub start_slice : (l : ℕ) → starts (l / slices_of s) ≡ starts l
  start_slice l =
      either s
      (λ z. window_starts z (l / slices_of s) ∙ sym (window_starts z l))
      (λ some. ap starts (ap (λ (n : ℕ). l / n) (one_slice some) ∙ div-one l))

  -- its row has the slice of its number
  row_slice : (l : ℕ) → l < s.rows * s.planes → l % s.rows % slices_of s ≡ l % slices_of s
  row_slice l p = either s window strength
    where
      window : s.strength ≡ 0 → l % s.rows % slices_of s ≡ l % slices_of s
      window z =
          let low : l < s.rows = omega (arith, ap (λ (n : ℕ). s.rows * n) (window_legal s a z).flat) in
          ap (λ (n : ℕ). n % slices_of s) (mod-eq_of_lt low)

      strength : 1 ≤ s.strength → l % s.rows % slices_of s ≡ l % slices_of s
      strength some =
          ap (λ (n : ℕ). l % s.rows % n) (one_slice some)
          ∙ mod-one (l % s.rows)
          ∙ sym (ap (λ (n : ℕ). l % n) (one_slice some) ∙ mod-one l)

  -- the class of the cell in column x of line l
  pub line_class : (l x : ℕ) → l < s.rows * s.planes → x < s.columns
      → class_at s (l * s.columns + x) ≡ (starts l + x) % (table_of s).m + offset_of s l
  unfolding class_by class_with line_start
  line_class l x p q =
      let k = table_of s in
      let m = (table_of s).m in
      sym (class_placed s (cell_at s (l * s.columns + x)))
      ∙ ap (λ (c : Cell). class_by (placement_of s) c) (line_cell s l x q)
      ∙ omega (
        arith,
        ap (λ (n : ℕ). n * m) (row_slice l p),
        minus_from m (period_some s a) x (k.b * (l % s.rows) + k.c * (l / s.rows)),
      )

  -- Theorem. The classes of a field go by lines.
  pub by_lines : ByLines (layout_of s) s.columns (s.rows * s.planes) (remainder_table (table_of s).m) starts (offset_of s)
  by_lines = record { class = line_class }

-- the table y mod m has the period m
pub remainder_period : (m : ℕ) → 0 < m → HasPeriod m (remainder_table m)
remainder_period m some = record { some = some; same = λ y z e. e; only = λ y z e. e }
