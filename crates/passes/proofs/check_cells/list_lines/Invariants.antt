-- What the loop of `list_lines` keeps.
use Rattle.passes.specs.CheckList.{LinesListed, LineOf, FreeAhead}
use Rattle.passes.proofs.check_cells.list_lines.Given as goal

abbrev pub invariant-loop-l : goal.invariant-loop-l
invariant-loop-l l =
    LineOf l.pass l.l l.line × LinesListed l.pass l.l l.at.amount l.sizes l.counts l.cells l.places
    × FreeAhead l.pass l.at.free l.counts
