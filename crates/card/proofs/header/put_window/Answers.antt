-- `put_window` meets its contract: the lines that are given are written, and else nothing is.
use Rattle.card.proofs.header.Parts.{window_lines_lem}
use Rattle.card.proofs.header.put_window.Goals as goal

pub returns : goal.returns
returns c = rw (window_lines_lem _ _ c.in-Some.is) c.put_lines.ensures
