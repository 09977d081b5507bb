-- `first_positions` meets its contract.
use native.Mathlib.Omega.{arith}
use Rattle.lattice.proofs.theory.PositionParts.{filled_first, repeats_less}
use Rattle.passes.proofs.line_positions.first_positions.Goals as goal

pub returns : goal.returns
returns c =
    let fill_low = c.fill_low in
    let repeat = c.repeat in
    filled_first _ _ (omega arith) fill_low.new.p repeat.new.p repeat.ensures.by_index_2 fill_low.ensures
    (repeats_less _ _ _ _ repeat.new.p (omega arith) repeat.ensures.repeats)
