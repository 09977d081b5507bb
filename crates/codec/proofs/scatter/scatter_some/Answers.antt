-- `scatter_some` meets its contract.
use native.Mathlib.Omega.{arith}
use Rattle.codec.proofs.scatter.Scattered.{values_byte}
use Rattle.codec.proofs.scatter.scatter_some.Goals as goal

pub returns-then-begins_byte : goal.returns-then-begins_byte
returns-then-begins_byte c =
    let begins = c.begins_byte.ensures c.if-begins_byte.true in
    record {
      lower_bound = (omega arith, omega (arith, begins.enough));
      values_put = values_byte _ _ _ _ _ _ _ c.requires.0 c.requires.1 begins c.put_byte.ensures;
    }
