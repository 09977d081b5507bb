-- `find_cell` meets its contract. The loop's invariant: line k of the slice is next in the search, and the lines before it do not
-- reach the position.
use Prim.Native.Nat.{ℕ, ◌+◌, ◌-◌, ◌*◌, ◌/◌, ◌<◌, ◌≤◌}
use mathlib.Core.Logic.{inr}
use mathlib.Core.Path.{◌≡◌, ap, subst, ◌∙◌}
use native.Mathlib.Nat.{div-le_self}
use native.Mathlib.Omega.{arith}
use Rattle.std.specs.Int.{div_ceil}
use Rattle.lattice.specs.declared.line.Pass.{Pass}
use Rattle.lattice.specs.declared.shape.Shape.{Shape}
use Rattle.lattice.specs.Shape.{max_side, max_cells, max_classes, Accepted}
use Rattle.lattice.specs.Class.{layout_of}
use Rattle.lattice.specs.Lines.{pass_of, OfShape}
use Rattle.passes.proofs.cell_places.Search.{Searched, SearchedLine, search_first, search_line, line_below, line_past}
use Rattle.passes.proofs.cell_places.Given.{given_cell, given_none}
use Rattle.lattice.proofs.theory.PassRoom.{pass_narrow}
use Rattle.lattice.proofs.theory.SizesByLines.{lines_are, slices_least, slices_most, period_least, lines_most_lem}
use Rattle.passes.proofs.cell_places.find_cell.Goals.{After-raised-here, Start, Then-position-before}
use Rattle.passes.proofs.cell_places.find_cell.Goals as goal

-- there is a class in a slice
some : (e : Start) → 0 < e.args.pass.period
some e = let p = e.requires.0 in period_least p.shape p.accepted _ p.same

-- the step from line to line
stride : (e : Start)
    → (0 < e.args.pass.slices) × (e.args.pass.slices ≤ max_classes) × (e.args.pass.lines ≤ max_cells)
stride e =
    let p = e.requires.0 in (
      slices_least p.shape p.accepted _ p.same,
      slices_most p.shape p.accepted _ p.same,
      lines_most_lem p.shape p.accepted _ p.same,
    )

-- line k of the slice
abbrev at_line : After-raised-here → ℕ
at_line c = c.args.class / c.args.pass.period + c.loop-k.k * c.args.pass.slices

inside : {pass : Pass} {left lines k : ℕ} (class : ℕ) → OfShape pass → left ≡ pass.lines - class / pass.period
    → lines ≡ div_ceil left pass.slices → k < lines → class / pass.period + k * pass.slices < pass.lines
inside {pass = pass} {k = k} class p e f low =
    line_below pass.lines (class / pass.period) pass.slices (slices_least p.shape p.accepted _ p.same) k
    (omega (arith, low, f, ap (λ (n : ℕ). div_ceil n pass.slices) e))

-- what the turn's line gives, for a shape of the pass
abbrev Turn : (c : After-raised-here) → Shape → Type 0
Turn c s =
    SearchedLine s c.args.pass c.args.class (at_line c) c.loop-k.before c.next_start-x.result
    c.raised-here.result

turn : (c : After-raised-here) (s : Shape) → Accepted s → c.args.pass ≡ pass_of s → Turn c s
turn c s accepted same =
    search_line s accepted _ same _ _ _ _ _ _ (c.loop-k.invariant.1 s accepted same)
    (inside _ c.requires.0 c.saturating_sub.ensures c.div_ceil-lines.ensures c.loop-k-test.true) c.next_start-x.ensures
    c.raised-here.ensures

-- and for the shape that is there
own : (c : After-raised-here) → Turn c c.requires.0.shape
own c = turn c _ c.requires.0.accepted c.requires.0.same

-- the cell that is found
cell : (c : Then-position-before)
    → (c.args.class / c.args.pass.period + c.loop-k.k * c.args.pass.slices) * c.args.pass.columns + c.next_start-x.result
    + (c.args.position - c.loop-k.before - 1) * c.args.pass.period
    < max_cells
cell c =
    let p = c.requires.0 in
    let line = search_line p.shape p.accepted _ p.same _ _ _ _ _ _ (c.loop-k.invariant.1 _ p.accepted p.same)
    (inside _ p c.saturating_sub.ensures c.div_ceil-lines.ensures c.loop-k-test.true) c.next_start-x.ensures
    c.raised-here.ensures in
    line.small _ c.loop-k.invariant.0 c.if-position-before.true

-- the whole rounds of the table in a line
rounds : (e : Start) → e.args.pass.columns / e.args.pass.period ≤ max_side
rounds e =
    let p = e.requires.0 in
    omega (
      arith,
      div-le_self e.args.pass.columns e.args.pass.period,
      pass_narrow p.shape p.accepted _ p.same,
    )

pub nonzero_rem-y : goal.nonzero_rem-y
nonzero_rem-y c = omega (arith, some c)

pub nonzero_div-whole : goal.nonzero_div-whole
nonzero_div-whole c = omega (arith, some (goal.at.nonzero_div-whole c).Start)

pub overflow_cast-whole : goal.overflow_cast-whole
overflow_cast-whole c = omega (arith, rounds (goal.at.overflow_cast-whole c).Start)

pub nonzero_rem-rest : goal.nonzero_rem-rest
nonzero_rem-rest c = omega (arith, some (goal.at.nonzero_rem-rest c).Start)

pub nonzero_div-first : goal.nonzero_div-first
nonzero_div-first c = omega (arith, some (goal.at.nonzero_div-first c).Start)

pub div_ceil-lines-requires : goal.div_ceil-lines-requires
div_ceil-lines-requires c = (stride (goal.at.div_ceil-lines-requires c).Start).0

pub loop-k-init : goal.loop-k-init
loop-k-init c = (
  omega arith,
  λ s accepted same.
      subst (λ (l : ℕ). Searched s c.args.class l (record { left = c.args.pass.last; start = 0 }) 0) (omega arith)
      (search_first s accepted _ same _ c.requires.1),
)

pub raised-here-requires : goal.raised-here-requires
raised-here-requires c = omega (arith, rounds (goal.at.raised-here-requires c).Start)

pub overflow_add-before : goal.overflow_add-before
overflow_add-before c = omega (arith, (own c).least, (own c).inside)

pub overflow_mul-result : goal.overflow_mul-result
overflow_mul-result c = omega (arith, cell (goal.at.overflow_mul-result c).Then-position-before)

pub overflow_add-result : goal.overflow_add-result
overflow_add-result c = omega (arith, cell (goal.at.overflow_add-result c).Then-position-before)

pub overflow_add-result-then-position-before : goal.overflow_add-result-then-position-before
overflow_add-result-then-position-before c = omega (
  arith,
  cell (goal.at.overflow_add-result-then-position-before
      c).Then-position-before,
)

pub overflow_cast-result : goal.overflow_cast-result
overflow_cast-result c = omega (arith, cell (goal.at.overflow_cast-result c).Then-position-before)

pub returns-then-position-before : goal.returns-then-position-before
returns-then-position-before c =
    λ s accepted same.
    given_cell (layout_of s) _ _ _ c.requires.2
    ((turn (goal.at.returns-then-position-before c).After-raised-here s accepted same).found _ c.loop-k.invariant.0
    c.if-position-before.true)

pub loop-k-preserved : goal.loop-k-preserved
loop-k-preserved c =
    let at = (goal.at.loop-k-preserved c).After-raised-here in (
      omega arith,
      λ s accepted same.
          let is = (c.loop-k.invariant.1 s accepted same).line in
          subst (λ (l : ℕ). Searched s c.args.class l c.next_line-line.result (c.loop-k.before + c.raised-here.result))
          (grind arith)
          ((turn at s accepted same).next _ (c.next_line-line.ensures s accepted same _ is)),
    )

pub returns : goal.returns
returns c =
    let turn = c.loop-k in
    λ s accepted same.
    let past = line_past c.args.pass.lines (c.args.class / c.args.pass.period) c.args.pass.slices
    (stride (goal.at.returns c).Start).0 in
    let all : turn.k ≡ c.div_ceil-lines.result = omega arith in
    let taken = ap (λ (n : ℕ). n * c.args.pass.slices)
    (all ∙ c.div_ceil-lines.ensures ∙ ap (λ (n : ℕ). div_ceil n c.args.pass.slices) c.saturating_sub.ensures) in
    let whole = (turn.invariant.1 s accepted same).over (omega (arith, lines_are s accepted _ same, past, taken)) in
    given_none (layout_of s) _ _ (inr (omega (arith, whole)))
