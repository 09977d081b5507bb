-- `gather_some` meets its contract.
use native.Mathlib.Omega.{arith}
use Rattle.codec.proofs.theory.CellValues.{having_cells}
use Rattle.codec.proofs.theory.Gathered.{gathered_byte, gathered_cell}
use Rattle.codec.proofs.gather.gather_some.Goals as goal

pub returns-then-begins_byte : goal.returns-then-begins_byte
returns-then-begins_byte c =
    let begins = c.begins_byte.ensures c.if-begins_byte.true in
    record {
      lower_bound = (omega arith, omega (arith, begins.enough));
      holds_bytes = λ L run holds. rw c.eight.ensures (gathered_byte L _ _ _ holds _ _ run _ (having_cells 1 _ _)
          c.requires.k_le_i.2 begins);
    }

pub returns : goal.returns
returns c =
    let store_bit = c.store_bit in
    record {
      lower_bound = (omega arith, omega arith);
      holds_bytes = λ L run holds. gathered_cell L _ _ _ holds _ _ run _ c.requires.k_le_i.1 store_bit.auto.payload
          (rw c.one_at.ensures at store_bit.ensures);
    }
