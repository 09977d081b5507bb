-- The lines of an accepted shape in a pass that lists its check cells.
use Prim.Native.Nat.{ℕ, ◌+◌, ◌-◌, ◌*◌, ◌/◌, ◌%◌, ◌<◌, ◌≤◌}
use mathlib.Core.List.{List}
use mathlib.Core.Logic.{◌⊎◌}
use mathlib.Core.Path.{◌≡◌, refl, sym, ap, ap₂, subst, ◌∙◌}
use native.Mathlib.Nat.{mod-lt}
use native.Mathlib.Omega.{arith}
use lib.ListN.{get_or}
use Rattle.lattice.specs.declared.line.Line.{Line}
use Rattle.lattice.specs.declared.line.Pass.{Pass}
use Rattle.lattice.specs.declared.shape.Shape.{Shape}
use Rattle.lattice.specs.Shape.{max_cells, Accepted, cells_of}
use Rattle.lattice.specs.Class.{class_at, layout_of}
use Rattle.lattice.specs.Lines.{table_of, slices_of, pass_of, IsLine, Gains}
use Rattle.lattice.specs.Listing.{max_checks, checks_to, ListsChecks, HoldsPlaces}
use Rattle.passes.specs.CheckList.{ListedTo, NoPowerNear}
use Rattle.lattice.specs.Sizes.{HoldsSizes}
use Rattle.lattice.proofs.theory.AtLine.{line_room}
use Rattle.passes.proofs.check_cells.Few.{checks_few}
use Rattle.passes.proofs.check_cells.FreeLine.{line_listed}
use Rattle.lattice.proofs.theory.Limits.{legal}
use Rattle.lattice.proofs.theory.Positions.{size_none}
use Rattle.lattice.proofs.theory.Sizes.{sizes_most}
use Rattle.lattice.proofs.theory.SizesByLines.{columns_are, lines_are, most, slices_are, period_is, slices_least, slice_room}
use Rattle.lattice.proofs.theory.SizesByLines.{period_least, starts_below}
use Rattle.lattice.proofs.theory.Starts.{line_class}

-- nothing is listed of no cells
pub listed_none : (s : Shape) (sizes counts cells places : List ℕ) → ((a : ℕ) → get_or counts a 0 ≡ 0)
    → ListedTo (layout_of s) (0 * s.columns) 0 sizes counts cells places
unfolding checks_to
listed_none s sizes counts cells places zeros =
    let none : 0 ≡ 0 * s.columns = omega arith in
    subst (λ (n : ℕ). ListedTo (layout_of s) n 0 sizes counts cells places) none
    (record {
      few = omega arith;
      counted = record { at = λ a l. zeros a ∙ sym (size_none (layout_of s) a) };
      listed = λ right. record { all = refl; at = λ k l. absurd (omega arith) };
      placed = λ right. record { at = λ k l. absurd (omega arith) };
    })

module _ (s : Shape) (ok : Accepted s) (pass : Pass) (same : pass ≡ pass_of s) where
  -- the list after every line is that of the field
  pub listed_all : (amount : ℕ) (sizes counts cells places : List ℕ)
      → ListedTo (layout_of s) (pass.lines * s.columns) amount sizes counts cells places
      → HoldsSizes (layout_of s) sizes (cells_of s)
      → ListsChecks (layout_of s) (cells_of s) amount cells × HoldsPlaces (layout_of s) amount cells places
  listed_all amount sizes counts cells places held right =
      let lines = lines_are s ok pass same in
      let all : pass.lines * s.columns ≡ cells_of s = ap (λ (k : ℕ). k * s.columns) lines ∙ omega arith in (
        subst (λ (n : ℕ). ListsChecks (layout_of s) n amount cells) all (held.listed right),
        held.placed right,
      )

  module _ (l : ℕ) (inside : l < pass.lines) where
    -- the line's first cell
    begins : l * s.columns ≡ l * pass.columns
    begins = ap (λ (w : ℕ). l * w) (sym (columns_are s ok pass same))

    -- the cells of the line are the field's
    line_inside : l * pass.columns + pass.columns ≤ cells_of s
    line_inside =
        omega (arith, begins, columns_are s ok pass same, line_room s l (omega (arith, lines_are s ok pass same)))

    -- so their numbers are within the limit, and so is the number of the cells before
    pub line_within : l * pass.columns + pass.columns ≤ max_cells
    line_within = omega (arith, line_inside, (legal s ok).product)

    pub line_before : l * s.columns ≤ max_cells
    line_before = omega (arith, begins, line_within)

    module _ (amount : ℕ) (sizes counts cells places : List ℕ) where
      -- from the cells before the line to its first cell, from cell to cell, and on to the next line
      pub line_begins : ListedTo (layout_of s) (l * s.columns) amount sizes counts cells places
          → ListedTo (layout_of s) (l * pass.columns + 0) amount sizes counts cells places
      line_begins held =
          let e : l * s.columns ≡ l * pass.columns + 0 = omega (arith, begins) in
          subst (λ (n : ℕ). ListedTo (layout_of s) n amount sizes counts cells places) e held

      pub line_goes : (x : ℕ) → ListedTo (layout_of s) (l * pass.columns + x + 1) amount sizes counts cells places
          → ListedTo (layout_of s) (l * pass.columns + (x + 1)) amount sizes counts cells places
      line_goes x held =
          let e : l * pass.columns + x + 1 ≡ l * pass.columns + (x + 1) = omega arith in
          subst (λ (n : ℕ). ListedTo (layout_of s) n amount sizes counts cells places) e held

      pub line_ends : (x : ℕ) → x ≡ pass.columns
          → ListedTo (layout_of s) (l * pass.columns + x) amount sizes counts cells places
          → ListedTo (layout_of s) ((l + 1) * s.columns) amount sizes counts cells places
      line_ends x whole held =
          let e : l * pass.columns + x ≡ (l + 1) * s.columns = omega (arith, begins, columns_are s ok pass same) in
          subst (λ (n : ℕ). ListedTo (layout_of s) n amount sizes counts cells places) e held

      -- no count is above the number of cells before
      pub line_few : (n : ℕ) → ListedTo (layout_of s) n amount sizes counts cells places → (a : ℕ) → a < pass.classes
          → get_or counts a 0 ≤ n
      line_few n held a p =
          sizes_most (layout_of s) counts n a held.counted (omega (arith, most s ok pass same))

    -- the checks up to a cell of the line have room
    pub line_checks : (x : ℕ) → x < pass.columns → checks_to (layout_of s) (l * pass.columns + x + 1) ≤ max_checks
    line_checks x p = checks_few s ok (l * pass.columns + x + 1) (omega (arith, line_inside))

    -- the classes of its slice, whose first is l % slices × m, are classes
    pub line_slice : l % pass.slices * pass.period + pass.period ≤ pass.classes
    line_slice = slice_room s ok pass same (l % pass.slices) (mod-lt l (slices_least s ok pass same))

    module _ (line : Line) (is : IsLine (table_of s) s.rows l line) where
      -- where the line begins, and the classes of its cells
      pub line_starts : line.start < pass.period
      line_starts = omega (arith, is.start, starts_below s ok pass same l)

      pub cell_class_lem : (x : ℕ) → x < pass.columns
          → class_at s (l * pass.columns + x) ≡ (line.start + x) % pass.period + l % pass.slices * pass.period
      cell_class_lem x p =
          let period = period_is s ok pass same in
          let slices = slices_are s ok pass same in
          ap (λ (n : ℕ). class_at s (n + x)) (sym begins)
          ∙ line_class s ok l x (omega (arith, lines_are s ok pass same)) (omega (arith, columns_are s ok pass same))
          ∙ ap (λ (n : ℕ). (n + x) % (table_of s).m + l % slices_of s * (table_of s).m) (sym is.start)
          ∙ ap₂ (λ (n m : ℕ). (line.start + x) % m + l % n * m) (sym slices) (sym period)

      -- a line with no power of two near the counts is passed by its gains
      pub line_passed : (amount : ℕ) (sizes gains counts cells places counts' : List ℕ)
          → Gains pass.period pass.columns (2 * pass.period) gains
          → NoPowerNear pass.classes (pass.columns / pass.period + 1) counts
          → ((a : ℕ) → a < pass.period
          → get_or counts' (l % pass.slices * pass.period + a) 0
          ≡ get_or counts (l % pass.slices * pass.period + a) 0 + get_or gains (a + (pass.period - line.start)) 0)
          → ((a : ℕ) → (a < l % pass.slices * pass.period) ⊎ (l % pass.slices * pass.period + pass.period ≤ a)
          → get_or counts' a 0 ≡ get_or counts a 0)
          → ListedTo (layout_of s) (l * s.columns) amount sizes counts cells places
          → ListedTo (layout_of s) ((l + 1) * s.columns) amount sizes counts' cells places
      line_passed amount sizes gains counts cells places counts' gain none own others held =
          line_ends amount sizes counts' cells places pass.columns refl
          (line_listed (layout_of s) pass.period (l % pass.slices * pass.period) line.start (l * pass.columns)
          pass.columns (period_least s ok pass same) line_starts cell_class_lem pass.classes amount sizes gains counts cells
          places counts' line_slice (most s ok pass same) gain none own others
          (subst (λ (n : ℕ). ListedTo (layout_of s) n amount sizes counts cells places) begins held))
