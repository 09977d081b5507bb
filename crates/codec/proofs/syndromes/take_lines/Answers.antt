-- `take_lines` meets its contract. The loop's invariant: line l is next in the slice, and the slice's lines before it are
-- taken in.
use Prim.Native.Nat.{◌+◌}
use native.Mathlib.Omega.{arith}
use mathlib.Core.Path.{◌≡◌}
use lib.ListN.{length}
use Rattle.lattice.specs.declared.shape.Shape.{Shape}
use Rattle.codec.specs.Field.{field_of, having}
use Rattle.lattice.specs.Shape.{Accepted}
use Rattle.lattice.specs.Lines.{pass_of, Ready}
use Rattle.lattice.proofs.theory.SizesByLines.{slices_are, lines_are}
use Rattle.codec.proofs.theory.CellValues.{having_cells}
use Rattle.codec.proofs.syndromes.LinesTaken.{TakenTo, taken_first, pass_cells, pass_room, pass_wide, pass_next, pass_over}
use Rattle.codec.proofs.syndromes.take_lines.Goals.{Start, After-next_positions-line}
use Rattle.codec.proofs.syndromes.take_lines.Goals as goal

pub loop-l-init : goal.loop-l-init
loop-l-init c =
    λ s ok same.
    taken_first s ok _ _ _ c.args.e.now c.args.t.now (omega (arith, slices_are s ok _ same))
    (omega (arith, lines_are s ok _ same)) (c.requires.at_line s ok same) c.requires.by_index

pub overflow_mul-l : goal.overflow_mul-l
overflow_mul-l c =
    let p = c.requires.of_shape.0 in
    omega (
      arith,
      pass_room p.shape p.accepted _ p.same _ c.loop-l-test.true,
      pass_cells p.shape p.accepted _ p.same,
    )

pub take_line-requires : goal.take_line-requires
take_line-requires c =
    let p = c.requires.of_shape.0 in
    let turn = c.loop-l in
    let inside = c.loop-l-test.true in
    let held = turn.invariant p.shape p.accepted p.same in
    let at = held.at (omega (arith, lines_are p.shape p.accepted _ p.same)) in
    let wide = pass_wide p.shape p.accepted _ p.same turn.l turn.line turn.e at in
    let room = pass_room p.shape p.accepted _ p.same turn.l inside in
    (omega (arith, wide), omega (arith, wide), omega (arith, room))

-- what the next line of the slice is, and what is taken in before it
next : (c : After-next_positions-line) (s : Shape) → Accepted s → c.args.pass ≡ pass_of s
    → TakenTo s c.args.j (having c.args.value (field_of c.args.field.now)) (c.loop-l.l + c.args.pass.slices)
    c.next_positions-line.result c.next_positions-line.new.e c.take_line.new.t
next c s ok same =
    let turn = c.loop-l in
    let line = c.take_line in
    let held = turn.invariant s ok same in
    let at = held.at (omega (arith, lines_are s ok _ same)) in
    let ready : Ready c.args.pass (length turn.e) c.args.p.now c.args.q.now = rw turn.auto.e c.requires.ready in
    pass_next s ok _ same _ _ turn.l turn.line turn.e turn.t held c.loop-l-test.true line.new.t (having_cells _ _ _)
    line.ensures (omega arith) line.auto.t _ _
    (λ on. c.next_positions-line.ensures s ok same c.requires.of_shape.1 ready turn.l on at)

pub loop-l-preserved : goal.loop-l-preserved
loop-l-preserved c = next (goal.at.loop-l-preserved c).After-next_positions-line

pub returns : goal.returns
returns c =
    let turn = c.loop-l in
    λ s ok same. pass_over s ok _ same _ _ _ _ _ _ (turn.invariant s ok same) (omega arith)

pub returns-2 : goal.returns-2
returns-2 c =
    let last = next (goal.at.returns-2 c).After-next_positions-line in
    λ s ok same. pass_over s ok _ same _ _ _ _ _ _ (last s ok same) (omega arith)
