-- `put_head` meets its contract: the line is written behind the first lines.
use Rattle.card.proofs.theory.Replies.{header_room, line_room, head_printed}
use Rattle.card.proofs.reply.put_head.Goals as goal

pub put_header-next-requires : goal.put_header-next-requires
put_header-next-requires c = header_room _ _ _ c.requires

pub put_number_line-requires : goal.put_number_line-requires
put_number_line-requires c =
    line_room _ _ _ c.requires c.put_header-next.ensures

pub returns : goal.returns
returns c =
    head_printed _ _ _ c.requires
    c.put_header-next.ensures c.put_number_line.ensures
