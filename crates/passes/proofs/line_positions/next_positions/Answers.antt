-- `next_positions` meets its contract.
use Rattle.passes.proofs.line_positions.NextPass.{row_step, plane_step}
use Rattle.passes.proofs.line_positions.next_positions.Goals as goal

pub returns-then-line-gt0 : goal.returns-then-line-gt0
returns-then-line-gt0 c =
    let call = c.step in
    let line = c.next_line-next in
    λ s a same two ready l inside at.
    row_step s a _ same two l inside _ _ c.args.e.now call.new.e at (line.ensures s a same _ at.line)
    call.auto.e
    c.args.p.now c.args.q.now ready c.if-line-gt0.true call.ensures

pub returns-else-line-gt0 : goal.returns-else-line-gt0
returns-else-line-gt0 c =
    let call = c.step-else-line-gt0 in
    let line = c.next_line-next in
    λ s a same two ready l inside at.
    plane_step s a _ same two l inside _ _ c.args.e.now call.new.e at (line.ensures s a same _ at.line)
    call.auto.e
    c.args.p.now c.args.q.now ready c.if-line-gt0.false call.ensures
