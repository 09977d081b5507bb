-- `list_line` meets its contract. The loop's invariant: a is the place in the table of column x, and the cells
-- before it are listed.
use Prim.Native.Nat.{ℕ, ◌+◌, ◌*◌, ◌%◌, ◌<◌, ◌≤◌, zero-le}
use mathlib.Core.Path.{◌≡◌, sym, ap, ◌∙◌}
use native.Mathlib.Nat.{mod-lt, mod-eq_of_lt}
use native.Mathlib.Omega.{arith}
use lib.ListN.{get_or}
use Rattle.lattice.specs.Shape.{max_cells, max_classes}
use Rattle.lattice.specs.Class.{layout_of}
use Rattle.passes.proofs.check_cells.Lines.{line_within, line_begins, line_goes, line_ends, line_few, line_checks}
use Rattle.passes.proofs.check_cells.Lines.{line_slice, line_starts, cell_class_lem}
use Rattle.lattice.proofs.theory.LineCounts.{place_next}
use Rattle.lattice.proofs.theory.SizesByLines.{most, period_least}
use Rattle.passes.proofs.check_cells.list_line.Goals.{In-loop-x, Start}
use Rattle.passes.proofs.check_cells.list_line.Goals as goal

-- the classes of the line's slice are in their limits
slice : (e : Start)
    → e.args.l % e.args.pass.slices * e.args.pass.period + e.args.pass.period ≤ max_classes
slice e =
    let p = e.requires.of_shape.0 in
    omega (
      arith,
      line_slice p.shape p.accepted _ p.same e.args.l e.requires.of_shape.1,
      most p.shape p.accepted _ p.same,
    )

-- the cell of a turn, its place in the table, its class and the count of that class
module _ (c : In-loop-x) where
  abbrev first : ℕ
  first = c.first_class-first.result

  first_is : first ≡ c.args.l % c.args.pass.slices * c.args.pass.period
  first_is = c.first_class-first.ensures

  inside : c.args.l * c.args.pass.columns + c.loop-x.x < max_cells
  inside =
      let p = c.requires.of_shape.0 in
      omega (arith, line_within p.shape p.accepted _ p.same c.args.l c.requires.of_shape.1)

  below : c.loop-x.a < c.args.pass.period
  below =
      let p = c.requires.of_shape.0 in
      let turn = c.loop-x in
      let low = period_least p.shape p.accepted _ p.same in
      omega (arith, turn.invariant.1, mod-lt (c.args.line.start + turn.x) low)

  abbrev class : ℕ
  class = first + c.loop-x.a

  count : get_or c.loop-x.counts class 0 < max_cells
  count =
      let p = c.requires.of_shape.0 in
      let turn = c.loop-x in
      let held = turn.invariant.2 p.shape p.accepted p.same in
      omega (
        arith,
        inside,
        line_few p.shape p.accepted _ p.same _ c.requires.of_shape.1 _ _ turn.counts _ _
            (c.args.l * c.args.pass.columns + turn.x) held class
            (omega (arith, below, first_is, line_slice p.shape p.accepted _ p.same c.args.l c.requires.of_shape.1)),
      )

pub overflow_mul-cell : goal.overflow_mul-cell
overflow_mul-cell c =
    let p = c.requires.of_shape.0 in
    omega (arith, line_within p.shape p.accepted _ p.same c.args.l c.requires.of_shape.1)

pub loop-x-init : goal.loop-x-init
loop-x-init c =
    let p = c.requires.of_shape.0 in
    let inside = c.requires.of_shape.1 in
    let low = line_starts p.shape p.accepted _ p.same _ inside _ (c.requires.of_shape.2 p.shape p.accepted p.same) in
    let own : c.args.line.start + 0 ≡ c.args.line.start = omega arith in (
      zero-le,
      sym (ap (λ (n : ℕ). n % c.args.pass.period) own ∙ mod-eq_of_lt low),
      λ s ok same. line_begins s ok _ same _ inside _ _ _ _ _ (c.requires.lines_listed s ok same),
    )

pub overflow_add-cell : goal.overflow_add-cell
overflow_add-cell c = omega (arith, inside (goal.at.overflow_add-cell c).In-loop-x)

pub overflow_add-first : goal.overflow_add-first
overflow_add-first c =
    omega (
      arith,
      below (goal.at.overflow_add-first c).In-loop-x,
      first_is (goal.at.overflow_add-first c).In-loop-x,
      slice
          (goal.at.overflow_add-first c).Start,
    )

pub list_cell-n-requires : goal.list_cell-n-requires
list_cell-n-requires c = (
  omega (
    arith,
    below (goal.at.list_cell-n-requires c).In-loop-x,
    first_is (goal.at.list_cell-n-requires c).In-loop-x,
    slice
        (goal.at.list_cell-n-requires c).Start,
  ),
  omega (arith, inside (goal.at.list_cell-n-requires c).In-loop-x),
  omega (arith, count (goal.at.list_cell-n-requires c).In-loop-x),
)

pub loop-x-preserved : goal.loop-x-preserved
loop-x-preserved c =
    let turn = c.loop-x in
    let cell = c.list_cell-n in
    let low = c.loop-x-test.true in
    let more : c.args.line.start + turn.x + 1 ≡ c.args.line.start + (turn.x + 1) = omega arith in (
      omega arith,
      place_next _ (c.args.line.start + turn.x) _ _ turn.invariant.1
          (c.next_place-a.ensures (below (goal.at.loop-x-preserved c).In-loop-x))
          ∙ ap (λ (n : ℕ). n % c.args.pass.period) more,
      λ s ok same.
          let within = c.requires.of_shape.1 in
          let own = cell_class_lem s ok _ same _ within _ (c.requires.of_shape.2 s ok same) turn.x low in
          let room = line_checks s ok _ same _ within turn.x low in
          line_goes s ok _ same _ within _ _ _ _ _ turn.x
          (cell.ensures (layout_of s) (omega (arith, own, first_is (goal.at.loop-x-preserved c).In-loop-x, turn.invariant.1))
          room (turn.invariant.2 s ok same)),
    )

pub returns : goal.returns
returns c =
    let turn = c.loop-x in
    λ s ok same.
    line_ends s ok _ same _ c.requires.of_shape.1 _ _ _ _ _ turn.x (omega arith) (turn.invariant.2 s ok same)
