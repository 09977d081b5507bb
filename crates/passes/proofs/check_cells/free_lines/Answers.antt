-- `free_lines` meets its contract.
use Rattle.passes.proofs.check_cells.FreeLine.{none_ahead}
use Rattle.passes.proofs.check_cells.free_lines.Goals as goal

pub returns : goal.returns
returns c =
    let all = c.least_and_most-all.ensures in
    none_ahead c.args.counts.now _ _ _ _ _ c.times_free.ensures all.by_index all.by_index_2
