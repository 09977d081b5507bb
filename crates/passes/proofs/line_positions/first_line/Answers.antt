-- `first_line` meets its contract.
use Rattle.lattice.proofs.theory.PassRoom.{filled_line, filled_ready}
use Rattle.passes.proofs.line_positions.first_line.Goals as goal

pub returns-then-has_room : goal.returns-then-has_room
returns-then-has_room c =
    let filled = c.fill_lists in
    λ s a same room. (
      filled_line s a _ same _ _ _ room filled.new.e filled.auto.e filled.ensures.positions,
      filled_ready s a _ same _ _ _ room filled.new.p filled.new.q filled.auto.p
          filled.auto.q filled.ensures.gains filled.ensures.gains_2,
    )
