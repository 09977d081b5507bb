-- `list_or_count` meets its contract.
use Prim.Native.Nat.{ℕ, ◌+◌, ◌*◌, ◌/◌, ◌%◌, ◌<◌, ◌≤◌}
use native.Mathlib.Omega.{arith}
use lib.ListN.{get_or}
use Rattle.lattice.specs.Shape.{max_side, max_cells, max_classes}
use Rattle.passes.proofs.check_cells.Lines.{line_before, line_slice, line_few, line_starts, line_passed}
use Rattle.passes.proofs.check_cells.FreeLine.{ahead_first, ahead_after}
use Rattle.lattice.proofs.theory.PassRoom.{pass_narrow}
use Rattle.lattice.proofs.theory.PositionParts.{quotient_most}
use Rattle.lattice.proofs.theory.SizesByLines.{some, most, period_least}
use Rattle.passes.proofs.check_cells.list_or_count.Goals.{Start}
use Rattle.passes.proofs.check_cells.list_or_count.Goals as goal

-- the numbers of the pass, those of the line's slice, and the counts before the line
module _ (e : Start) where
  few : (0 < e.args.pass.period) × (e.args.pass.classes ≤ max_classes)
      × (e.args.pass.columns / e.args.pass.period ≤ max_side)
  few =
      let p = e.requires.of_shape.0 in (
        period_least p.shape p.accepted _ p.same,
        most p.shape p.accepted _ p.same,
        omega (
          arith,
          quotient_most e.args.pass.columns e.args.pass.period,
          pass_narrow p.shape p.accepted _ p.same,
        ),
      )

  slice : e.args.l % e.args.pass.slices * e.args.pass.period + e.args.pass.period ≤ e.args.pass.classes
  slice =
      let p = e.requires.of_shape.0 in
      line_slice p.shape p.accepted _ p.same e.args.l e.requires.of_shape.1

  counts : (a : ℕ) → a < e.args.pass.classes → get_or e.args.counts.now a 0 ≤ max_cells
  counts a l =
      let p = e.requires.of_shape.0 in
      omega (
        arith,
        line_few p.shape p.accepted _ p.same _ e.requires.of_shape.1 _ _ e.args.counts.now _ _ _
            (e.requires.lines_listed p.shape p.accepted p.same) a l,
        line_before p.shape p.accepted _ p.same _ e.requires.of_shape.1,
      )

pub nonzero_div-pass : goal.nonzero_div-pass
nonzero_div-pass c = (few (goal.at.nonzero_div-pass c).Start).0

pub overflow_cast-pass : goal.overflow_cast-pass
overflow_cast-pass c = omega (arith, few (goal.at.overflow_cast-pass c).Start)

pub overflow_add-pass : goal.overflow_add-pass
overflow_add-pass c = omega (arith, few (goal.at.overflow_add-pass c).Start)

pub look_ahead-free-requires : goal.look_ahead-free-requires
look_ahead-free-requires c =
    let p = c.requires.of_shape.0 in
    record {
      m_nonzero = (
        some p.shape p.accepted _ p.same,
        omega (arith, (few (goal.at.look_ahead-free-requires c).Start).1),
        omega
            arith,
      );
      no_power_near = c.requires.free_ahead;
    }

pub overflow_sub-m : goal.overflow_sub-m
overflow_sub-m c =
    let p = c.requires.of_shape.0 in
    let line = c.requires.of_shape.2 p.shape p.accepted p.same in
    omega (arith, line_starts p.shape p.accepted _ p.same _ c.requires.of_shape.1 _ line)

pub count_line-requires : goal.count_line-requires
count_line-requires c =
    record {
      m_in_bounds = (
        omega (arith, (few (goal.at.count_line-requires c).Start).1, slice (goal.at.count_line-requires c).Start),
        omega arith,
      );
      by_index = λ a l. counts (goal.at.count_line-requires c).Start _
          (omega (arith, slice (goal.at.count_line-requires c).Start));
    }

pub returns-then-free-gt0 : goal.returns-then-free-gt0
returns-then-free-gt0 c =
    let old = c.args.counts.now in
    let gains = c.args.gains.now in
    let gained = rw c.first_class-first.ensures at c.count_line.ensures.by_index_2 in
    let kept = rw c.first_class-first.ensures at c.count_line.ensures.by_index_3 in
    let ahead = c.look_ahead-free.ensures in
    let some = c.if-free-gt0.true in
    record {
      lines_listed_2 = (λ s ok same.
          line_passed s ok _ same _ c.requires.of_shape.1 _ (c.requires.of_shape.2 s ok same) _ _ gains old _ _ _
          c.requires.period_in_bounds.1 (ahead_first old _ _ _ some ahead) gained kept (c.requires.lines_listed s ok same));
      free_ahead_2 = ahead_after _ _ _ _ gains old c.count_line.new.counts (few (goal.at.returns-then-free-gt0 c).Start).0
          c.requires.period_in_bounds.1 gained kept _ _ some ahead;
    }
