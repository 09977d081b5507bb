-- `put_header` meets its contract: the lines that every header has are written, and behind them those of the window.
use Rattle.card.proofs.header.Parts.{lines_room, window_room, header_printed}
use Rattle.card.proofs.header.put_header.Goals as goal

pub put_lines-next-requires-clause-has_room : goal.put_lines-next-requires-clause-has_room
put_lines-next-requires-clause-has_room c = lines_room c.args.header c.requires

pub put_window-requires : goal.put_window-requires
put_window-requires c = window_room c.args.header c.requires c.put_lines-next.ensures

pub returns : goal.returns
returns c = header_printed c.args.header c.requires c.put_lines-next.ensures c.put_window.ensures
