-- The cells of a tour: the first, the one after a cell, and the class of a cell from its slice and its place in the table.
use Prim.Native.Nat.{ℕ, ◌+◌, ◌-◌, ◌*◌, ◌/◌, ◌%◌, ◌<◌, ◌≤◌}
use mathlib.Core.Path.{◌≡◌, sym, ap, ◌∙◌}
use native.Mathlib.Nat.{mod-lt, mod-eq_of_lt, zero-mod, zero-div, div-add-mod', div-lt_iff_lt-mul}
use native.Mathlib.Omega.{arith}
use Rattle.lattice.specs.declared.line.Line.{Line}
use Rattle.lattice.specs.declared.line.Pass.{Pass}
use Rattle.lattice.specs.declared.shape.Shape.{Shape}
use Rattle.lattice.specs.Shape.{Accepted, cells_of}
use Rattle.lattice.specs.Class.{class_at}
use Rattle.lattice.specs.Lines.{table_of, slices_of, line_start, pass_of, pass_given, IsLine}
use Rattle.lattice.proofs.theory.Limits.{legal}
use Rattle.lattice.proofs.theory.LineCounts.{place_next}
use Rattle.lattice.proofs.theory.NextLine.{pass_first, pass_accepted}
use Rattle.lattice.proofs.theory.Placements.{period_some}
use Rattle.lattice.proofs.theory.SizesByLines.{slices_are, period_is, columns_are, slices_least}
use Rattle.lattice.proofs.theory.Starts.{row_next, row_plane, plane_row, plane_next, start_below, start_first, line_class}
use Rattle.levels.specs.declared.tour.Tour.{Tour}
use Rattle.levels.specs.Working.{AtTour}

module _ (s : Shape) (accepted : Accepted s) where
  abbrev starts : ℕ → ℕ
  starts l = line_start (table_of s) s.rows l

  abbrev m : ℕ
  m = (table_of s).m

  wide : 0 < s.columns
  wide = (legal s accepted).width_low

  -- the first cell
  module _ (pass : Pass) (given : pass ≡ pass_given s) where
    own : pass ≡ pass_of s
    own = given ∙ pass_accepted s accepted

    pub tour_first :
        AtTour s 0
        (record { pass = pass; left = pass.columns; place = 0; slice = 0; line = record { left = pass.last; start = 0 } })
    tour_first =
        let w = s.columns in
        let first = start_first (table_of s) s.rows (period_some s accepted) in
        record {
          pass = given;
          left = omega (arith, columns_are s accepted pass own, zero-mod w);
          line = rw (zero-div w) (pass_first s accepted pass own);
          slice = sym (ap (λ (n : ℕ). n % slices_of s) (zero-div w) ∙ zero-mod (slices_of s));
          place = sym (rw (zero-div w, zero-mod w, first) (zero-mod m));
        }

  module _ (i : ℕ) (x : Tour) (at : AtTour s i x) where
    its : x.pass ≡ pass_of s
    its = own x.pass at.pass

    period : x.pass.period ≡ m
    period = period_is s accepted x.pass its

    slices : x.pass.slices ≡ slices_of s
    slices = slices_are s accepted x.pass its

    -- the class of the cell
    pub tour_class : i < cells_of s → x.slice * x.pass.period + x.place ≡ class_at s i
    tour_class below =
        let inside : i / s.columns < s.rows * s.planes = (div-lt_iff_lt-mul wide).1 (omega arith) in
        rw (at.slice, at.place, period)
        (omega (arith, line_class s accepted (i / s.columns) (i % s.columns) inside (mod-lt i wide)))
        ∙ ap (class_at s) (div-add-mod' i s.columns)

    place_low : x.place < x.pass.period
    place_low = rw (at.place, period) (mod-lt _ (period_some s accepted))

    slice_low : x.slice < x.pass.slices
    slice_low = rw at.slice (rw (← slices) (mod-lt (i / s.columns) (slices_least s accepted x.pass its)))

    -- the next of its line
    pub tour_on : 1 < x.left → (r : ℕ) → (x.place < x.pass.period → r ≡ (x.place + 1) % x.pass.period)
        → AtTour s (i + 1) (record { pass = x.pass; left = x.left - 1; place = r; slice = x.slice; line = x.line })
    tour_on more r next =
        let w = s.columns in
        let in-line : i % s.columns + 1 < s.columns = omega (arith, at.left) in
        let same = row_plane w i in-line in
        let column = row_next w i in-line in
        let one : starts (i / s.columns) + i % s.columns + 1 ≡ starts ((i + 1) / s.columns) + (i + 1) % s.columns =
        omega (arith, column, ap starts same) in
        record {
          pass = at.pass;
          left = omega (arith, at.left, column);
          line = rw same at.line;
          slice = rw same at.slice;
          place =
              place_next x.place (starts (i / w) + i % w) m r at.place (rw period at (next place_low))
              ∙ ap (λ (n : ℕ). n % m) one;
        }

    -- the first of the next line
    pub tour_over : x.left ≤ 1 → (y : Line)
        → (IsLine (table_of s) s.rows (i / s.columns) x.line → IsLine (table_of s) s.rows (i / s.columns + 1) y)
        → (r : ℕ) → (x.slice < x.pass.slices → r ≡ (x.slice + 1) % x.pass.slices)
        → AtTour s (i + 1) (record { pass = x.pass; left = x.pass.columns; place = y.start; slice = r; line = y })
    tour_over none y line r next =
        let w = s.columns in
        let last : i % s.columns + 1 ≡ s.columns = omega (arith, at.left, mod-lt i wide, none) in
        let over = plane_next w i wide last in
        let column = plane_row w i wide last in
        let is = line at.line in
        let start : starts (i / s.columns + 1) ≡ starts ((i + 1) / s.columns) + (i + 1) % s.columns =
        omega (arith, column, ap starts over) in
        record {
          pass = at.pass;
          left = omega (arith, columns_are s accepted x.pass its, column);
          line = rw over is;
          slice = rw over (place_next x.slice (i / w) (slices_of s) r at.slice (rw slices at (next slice_low)));
          place =
              is.start
              ∙ sym (mod-eq_of_lt (start_below (table_of s) s.rows (period_some s accepted) (i / w + 1)))
              ∙ ap (λ (n : ℕ). n % m) start;
        }
