-- `put_row` meets its contract: the key, the digits and the line feed are written one behind the other.
use Rattle.card.specs.Text.{row_key, cells_text}
use Rattle.card.proofs.print.Lines.{key_room, value_room, feed_room, line_printed, row_parts}
use Rattle.card.proofs.print.put_row.Goals as goal

pub put_bytes-digits-requires : goal.put_bytes-digits-requires
put_bytes-digits-requires c =
    key_room row_key (cells_text c.args.cells.now) (row_parts c.args.cells.now) c.requires.has_room

pub put_cells-end-requires-clause-has_room : goal.put_cells-end-requires-clause-has_room
put_cells-end-requires-clause-has_room c =
    value_room _ _ (row_parts c.args.cells.now) c.requires.has_room c.put_bytes-digits.ensures

pub put_byte-requires : goal.put_byte-requires
put_byte-requires c =
    feed_room _ _ (row_parts c.args.cells.now) c.requires.has_room c.put_bytes-digits.ensures c.put_cells-end.ensures

pub returns : goal.returns
returns c =
    line_printed _ _ (row_parts c.args.cells.now) c.requires.has_room
    c.put_bytes-digits.ensures c.put_cells-end.ensures c.put_byte.ensures
