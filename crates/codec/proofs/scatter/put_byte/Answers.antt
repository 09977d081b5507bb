-- `put_byte` meets its contract.
use Rattle.codec.proofs.scatter.Scattered.{byte_put}
use Rattle.codec.proofs.scatter.put_byte.Goals as goal

pub returns : goal.returns
returns c =
    let first = c.put_four in
    byte_put _ _ _ _ _ first.ensures c.put_four-2.ensures
