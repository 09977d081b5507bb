-- The byte numbers of a field's cells: below the number of cells, each number exactly one cell's.
use Prim.Native.Nat.{ℕ, zero, suc, ◌+◌, ◌*◌, ◌/◌, ◌%◌, ◌<◌}
use mathlib.Core.Path.{◌≡◌, ap, ◌∙◌, sym}
use native.Mathlib.Nat.{div-add-mod', div-lt_iff_lt-mul, mod-lt}
use native.Mathlib.Omega.{arith}
use lib.Arith.{digits_lt, digits_div, digits_mod}
use Rattle.lattice.specs.declared.shape.Shape.{Shape}
use Rattle.lattice.specs.Shape.{cells_of}
use Rattle.lattice.specs.Cell.{Cell, InField, cell_number, cell_at}

-- a factor of a product that is above some number is above 0
positive : (a b i : ℕ) → i < a * b → zero < a
positive zero b i h = omega arith
positive (suc a) b i h = omega arith

module _ (s : Shape) where
  -- a cell's byte number is below the number of cells
  pub below : (x : Cell) → InField s x → cell_number s x < cells_of s
  unfolding cell_number
  below x h =
      let n : (x.plane * s.rows + x.row) * s.columns + x.column < s.planes * s.rows * s.columns =
      digits_lt (digits_lt h.plane h.row) h.column in
      omega arith

  -- the cell with a cell's byte number is that cell
  pub at_number : (x : Cell) → InField s x → cell_at s (cell_number s x) ≡ x
  unfolding cell_number cell_at
  at_number x h =
      let line : ((x.plane * s.rows + x.row) * s.columns + x.column) / s.columns ≡ x.plane * s.rows + x.row =
      digits_div (x.plane * s.rows + x.row) h.column in
      let row = ap (λ (n : ℕ). n % s.rows) line ∙ digits_mod x.plane h.row in
      let plane = ap (λ (n : ℕ). n / s.rows) line ∙ digits_div x.plane h.row in
      let column = digits_mod (x.plane * s.rows + x.row) h.column in
      λ i. record { row = row i; plane = plane i; column = column i }

  -- a number below the number of cells is the byte number of its cell, which lies in the field
  pub number_at_lem : (i : ℕ) → i < cells_of s → InField s (cell_at s i) × (cell_number s (cell_at s i) ≡ i)
  unfolding cell_number cell_at
  number_at_lem i h =
      let columns : zero < s.columns = positive s.columns (s.rows * s.planes) i (omega arith) in
      let rows : zero < s.rows = positive s.rows (s.columns * s.planes) i (omega arith) in
      let line : i / s.columns < s.planes * s.rows = (div-lt_iff_lt-mul columns).1 (omega arith) in (
        record {
          row = mod-lt (i / s.columns) rows;
          plane = (div-lt_iff_lt-mul rows).1 line;
          column = mod-lt i columns;
        },
        ap (λ (n : ℕ). n * s.columns + i % s.columns) (div-add-mod' (i / s.columns) s.rows) ∙ div-add-mod' i s.columns,
      )

  -- cells of the field with one byte number are one cell
  pub same_cell : (x y : Cell) → InField s x → InField s y → cell_number s x ≡ cell_number s y → x ≡ y
  same_cell x y hx hy e = sym (at_number x hx) ∙ ap (cell_at s) e ∙ at_number y hy
