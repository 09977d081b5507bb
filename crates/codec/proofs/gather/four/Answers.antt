-- `four` meets its contract.
use Rattle.codec.specs.Field.{field_of}
use Rattle.codec.proofs.gather.LowestBits.{packed_four}
use Rattle.codec.proofs.gather.four.Goals as goal

pub returns : goal.returns
returns c =
    rw c.packed-lowest.ensures (packed_four (field_of c.args.field.now) _ c.args.i c.requires.received c.requires.i_in_bounds)
