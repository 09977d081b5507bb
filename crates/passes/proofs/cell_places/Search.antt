-- The search for the cell of a class that has a given position, from line to line of a slice of an accepted shape.
use Prim.Native.Nat.{ℕ, ◌+◌, ◌-◌, ◌*◌, ◌/◌, ◌%◌, ◌<◌, ◌≤◌}
use mathlib.Core.Bool.{cond}
use mathlib.Core.Path.{◌≡◌, sym, ap, subst, ◌∙◌}
use native.Mathlib.Nat.{add_assoc, add_comm, mod-lt, mod-mod, mod-eq_of_lt, div-eq_of_lt, add-div_right, add-mod_right}
use native.Mathlib.Nat.{div-add-mod', le_refl, mul-le-mul}
use native.Mathlib.Omega.{arith}
use lib.Dec.{ltb}
use Rattle.std.specs.Int.{div_ceil}
use Rattle.std.proofs.lemmas.Grind.{div_ceil_times}
use Rattle.lattice.specs.declared.line.Line.{Line}
use Rattle.lattice.specs.declared.line.Pass.{Pass}
use Rattle.lattice.specs.declared.shape.Shape.{Shape}
use Rattle.lattice.specs.Shape.{max_cells, Accepted}
use Rattle.lattice.specs.Class.{minus_mod, class_at, layout_of}
use Rattle.lattice.specs.Position.{size, size_to}
use Rattle.lattice.specs.Lines.{table_of, slices_of, offset_of, line_start, pass_of, IsLine, among}
use Rattle.lattice.specs.Listing.{IsCellAt}
use Rattle.lattice.proofs.theory.AtLine.{line_room}
use Rattle.lattice.proofs.theory.Limits.{legal}
use Rattle.passes.proofs.cell_places.LineCells.{among_row, line_adds, cell_place_lem}
use Rattle.lattice.proofs.theory.NextLine.{pass_first}
use Rattle.lattice.proofs.theory.Placements.{slices_some, period_some}
use Rattle.lattice.proofs.theory.Positions.{size_most}
use Rattle.lattice.proofs.theory.Remainder.{minus_below, minus_adds}
use Rattle.lattice.proofs.theory.SizesByLines.{slices_are, period_is, columns_are, lines_are, slice_below}
use Rattle.lattice.proofs.theory.Slices.{size_skipped, size_last, size_first, size_all}
use Rattle.lattice.proofs.theory.Starts.{start_below, start_slice, line_class}

-- the lines of a slice, `first` and on in steps: so many are the field's, and the next is none
module _ (lines first step : ℕ) (some : 0 < step) where
  pub line_below : (k : ℕ) → k < div_ceil (lines - first) step → first + k * step < lines
  line_below k low =
      let more : k + 1 ≤ div_ceil (lines - first) step = omega (arith, low) in
      grind (arith, mul-le-mul more (le_refl step), (div_ceil_times (lines - first) step some).1)

  pub line_past : lines ≤ first + div_ceil (lines - first) step * step
  line_past = omega (arith, (div_ceil_times (lines - first) step some).0)

-- line l is next in a search for a cell of class a, along the slice of the class: `before` of the class stand before the line,
-- and behind the last line these are all
pub record Searched (s : Shape) (a l : ℕ) (x : Line) (before : ℕ) : Type 0 where
  pub line : IsLine (table_of s) s.rows (l / slices_of s) x
  pub slice : l % slices_of s ≡ a / (table_of s).m
  pub passed : l < s.rows * s.planes → before ≡ size_to (layout_of s) a (l * s.columns)
  pub over : s.rows * s.planes ≤ l → before ≡ size (layout_of s) a

-- what a line of the search gives, where the class's first column in it is `column` and `here` are its cells in it
pub record SearchedLine (s : Shape) (pass : Pass) (a l before column here : ℕ) : Type 0 where
  pub inside : l * pass.columns + pass.columns ≤ max_cells
  pub least : before ≤ l * pass.columns
  pub next : (y : Line) → IsLine (table_of s) s.rows (l / slices_of s + 1) y
      → Searched s a (l + pass.slices) y (before + here)
  pub found : (p : ℕ) → before < p → p ≤ before + here
      → IsCellAt (layout_of s) a p (l * pass.columns + column + (p - before - 1) * pass.period)
  pub small : (p : ℕ) → before < p → p ≤ before + here
      → l * pass.columns + column + (p - before - 1) * pass.period < max_cells

module _ (s : Shape) (accepted : Accepted s) (pass : Pass) (same : pass ≡ pass_of s) (a : ℕ) where
  -- the class from its place in the table and a line of its slice
  own : (l : ℕ) → l % slices_of s ≡ a / (table_of s).m → a % (table_of s).m + offset_of s l ≡ a
  own l e = omega (arith, ap (λ (n : ℕ). n * (table_of s).m) e, div-add-mod' a (table_of s).m)

  -- the search begins with the first line of the slice
  pub search_first : a < pass.classes → Searched s a (a / pass.period) (record { left = pass.last; start = 0 }) 0
  search_first low =
      let j = a / (table_of s).m in
      let slice : a / (table_of s).m < slices_of s = rw (slices_are s accepted pass same, period_is s accepted pass same) at
      (slice_below s accepted pass same a low) in
      let itself : a % (table_of s).m + a / (table_of s).m * (table_of s).m ≡ a = omega (arith, div-add-mod' a (table_of s).m) in
      rw (period_is s accepted pass same)
      (record {
        line = rw (div-eq_of_lt slice) (pass_first s accepted pass same);
        slice = mod-eq_of_lt slice;
        passed = λ inside.
            omega (
              arith,
              ap (λ (c : ℕ). size_to (layout_of s) c (j * s.columns)) itself,
              size_first s accepted j a slice (omega arith),
            );
        over = λ none. omega (arith, ap (size (layout_of s)) itself, size_all s accepted j a slice none);
      })

  -- a line of the search, the first column of the class in it, and the class's cells in it
  module _ (l : ℕ) (x : Line) (before column here : ℕ) (at : Searched s a l x before) (inside : l < pass.lines)
      (back : a % pass.period < pass.period → x.start < pass.period
      → column ≡ minus_mod (a % pass.period) x.start pass.period)
      (amount : here ≡ pass.columns / pass.period + cond (ltb column (pass.columns % pass.period)) 1 0) where
    some : 0 < (table_of s).m
    some = period_some s accepted

    line_inside : l < s.rows * s.planes
    line_inside = omega (arith, lines_are s accepted pass same)

    class : a % (table_of s).m + offset_of s l ≡ a
    class = own l at.slice

    starts : x.start ≡ line_start (table_of s) s.rows l
    starts = at.line.start ∙ start_slice s accepted l

    -- the column is below m, and has the class
    is_back : column ≡ minus_mod (a % (table_of s).m) x.start (table_of s).m
    is_back =
        (rw (period_is s accepted pass same) at back) (mod-lt a some)
        (omega (arith, starts, start_below (table_of s) s.rows some l))

    near : column < (table_of s).m
    near = omega (arith, is_back, minus_below (table_of s).m some (a % (table_of s).m) x.start)

    begins : (x.start + column) % (table_of s).m ≡ a % (table_of s).m
    begins =
        ap (λ (k : ℕ). k % (table_of s).m) (add_comm x.start column ∙ ap (λ (k : ℕ). k + x.start) is_back)
        ∙ minus_adds (table_of s).m some (a % (table_of s).m) x.start
        ∙ mod-mod a (table_of s).m

    -- the classes of the line's cells
    line : (z : ℕ) → z < s.columns → class_at s (l * s.columns + z) ≡ (x.start + z) % (table_of s).m + offset_of s l
    line z p = rw starts (line_class s accepted l z line_inside p)

    -- the number of the class's cells in the line
    row : here ≡ among (table_of s).m column s.columns
    row =
        (rw (columns_are s accepted pass same, period_is s accepted pass same) at amount)
        ∙ sym (among_row (table_of s).m column s.columns near)

    -- those before the next line of the slice
    passed : before + here ≡ size_to (layout_of s) (a % (table_of s).m + offset_of s l) (l * s.columns + s.columns)
    passed =
        omega (
          arith,
          at.passed line_inside,
          ap (λ (c : ℕ). size_to (layout_of s) c (l * s.columns)) class,
          row,
          line_adds (layout_of s) (table_of s).m x.start (offset_of s l) (l * s.columns) s.columns a column line near begins
              s.columns (le_refl _),
        )

    -- to the next line
    more : (y : Line) → IsLine (table_of s) s.rows (l / slices_of s + 1) y
        → Searched s a (l + slices_of s) y (before + here)
    more y is =
        record {
          line = rw (add-div_right l (slices_some s accepted)) is;
          slice = add-mod_right l (slices_of s) ∙ at.slice;
          passed = λ on.
              passed
              ∙ sym (size_skipped s accepted l a (omega arith))
              ∙ ap (λ (c : ℕ). size_to (layout_of s) c ((l + slices_of s) * s.columns)) class;
          over = λ last. passed ∙ sym (size_last s accepted l a line_inside last) ∙ ap (size (layout_of s)) class;
        }

    -- the cell is in this line
    found : (p : ℕ) → before < p → p ≤ before + here
        → IsCellAt (layout_of s) a p (l * s.columns + column + (p - before - 1) * (table_of s).m)
    found p low high =
        rw (add_assoc (l * s.columns) column)
        (subst (λ (c : ℕ). IsCellAt (layout_of s) c p (l * s.columns + (column + (p - before - 1) * (table_of s).m))) class
        (cell_place_lem (layout_of s) (table_of s).m x.start (offset_of s l) (l * s.columns) s.columns a column line near begins
        (p - before - 1) (omega (arith, row)) p
        (omega (arith, at.passed line_inside, ap (λ (c : ℕ). size_to (layout_of s) c (l * s.columns)) class))
        (line_room s l line_inside)))

    -- Theorem. The turn of the search at a line.
    pub search_line : SearchedLine s pass a l before column here
    search_line =
        record {
          inside =
              rw (columns_are s accepted pass same) (omega (arith, line_room s l line_inside, (legal s accepted).product));
          least =
              rw (columns_are s accepted pass same)
              (omega (arith, at.passed line_inside, size_most (layout_of s) a (l * s.columns)));
          next = rw (slices_are s accepted pass same) more;
          found = rw (columns_are s accepted pass same, period_is s accepted pass same) found;
          small =
              rw (columns_are s accepted pass same, period_is s accepted pass same)
              (λ p low high. omega (arith, (found p low high).below, (legal s accepted).product));
        }
