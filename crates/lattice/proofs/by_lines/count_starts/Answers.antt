-- `count_starts` meets its contract. The loop's invariant: `line` is line l, and each entry is the number of lines before it that
-- begin there.
use Prim.Native.Nat.{◌<◌, ◌≤◌, zero-le}
use mathlib.Core.Path.{refl}
use native.Mathlib.Omega.{arith}
use lib.ListN.{get_or, length-set}
use Rattle.lattice.specs.Shape.{max_cells, max_classes}
use Rattle.lattice.specs.Lines.{table_of, line_start}
use Rattle.lattice.proofs.theory.LineCounts.{counted_none, counted_more, starts_most}
use Rattle.lattice.proofs.theory.NextLine.{pass_first}
use Rattle.lattice.proofs.theory.SizesByLines.{period_most, starts_below, lines_most_lem}
use Rattle.lattice.proofs.by_lines.count_starts.Goals.{In-loop-l}
use Rattle.lattice.proofs.by_lines.count_starts.Goals as goal

-- the place of a turn, and its entry
module _ (c : In-loop-l) where
  place : c.loop-l.line.start < max_classes
  place =
      let turn = c.loop-l in
      omega (
        arith,
        (turn.invariant.2 _ c.requires.of_shape.0.accepted c.requires.of_shape.0.same).0.start,
        starts_below _ c.requires.of_shape.0.accepted _ c.requires.of_shape.0.same turn.l,
        period_most _ c.requires.of_shape.0.accepted _ c.requires.of_shape.0.same,
      )

  entry :
      let turn = c.loop-l in
      get_or turn.starts turn.line.start 0 ≤ max_cells
  entry =
      let turn = c.loop-l in
      omega (
        arith,
        (turn.invariant.2 _ c.requires.of_shape.0.accepted c.requires.of_shape.0.same).1 turn.line.start,
        starts_most (line_start (table_of c.requires.of_shape.0.shape) c.requires.of_shape.0.shape.rows) turn.line.start
            turn.l,
        lines_most_lem _ c.requires.of_shape.0.accepted _ c.requires.of_shape.0.same,
      )

pub loop-l-init : goal.loop-l-init
loop-l-init c = (
  zero-le,
  refl,
  λ s accepted same. (pass_first s accepted _ same, counted_none _ c.args.starts.now c.requires.by_index),
)

pub offset_bounds-starts-a : goal.offset_bounds-starts-a
offset_bounds-starts-a c = omega (arith, place c)

pub bounds-starts-a : goal.bounds-starts-a
bounds-starts-a c = omega (arith, place (goal.at.bounds-starts-a c).In-loop-l)

pub overflow_add-starts : goal.overflow_add-starts
overflow_add-starts c = omega (arith, entry (goal.at.overflow_add-starts c).In-loop-l)

pub bounds-starts-a-in-loop-l : goal.bounds-starts-a-in-loop-l
bounds-starts-a-in-loop-l c = omega (arith, place (goal.at.bounds-starts-a-in-loop-l c).In-loop-l)

pub loop-l-preserved : goal.loop-l-preserved
loop-l-preserved c =
    let turn = c.loop-l in (
      omega arith,
      simp length-set turn.invariant.1,
      λ s accepted same.
          let is = turn.invariant.2 s accepted same in (
            c.next_line-line.ensures s accepted same turn.l is.0,
            counted_more _ turn.starts turn.l turn.line.start is.1 is.0.start
                (omega (arith, place (goal.at.loop-l-preserved c).In-loop-l)),
          ),
    )
