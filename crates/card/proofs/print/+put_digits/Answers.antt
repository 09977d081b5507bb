-- `put_digits` meets its contract. The last digit is written behind the others.
use Rattle.card.proofs.print.Text.{last_room, digits_printed}
use Rattle.card.proofs.print.+put_digits.Goals as goal

pub put_byte-requires : goal.put_byte-requires
put_byte-requires t c = last_room _ _ c.requires c.if-k-eq0.false c.put_digits-next.ensures

pub returns : goal.returns
returns t c = digits_printed _ _ c.requires c.if-k-eq0.false c.put_digits-next.ensures c.put_byte.ensures
