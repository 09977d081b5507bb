-- Byte numbers: the term of the theorem.
use Rattle.lattice.specs.Cell.{cell_at}
use Rattle.lattice.specs.theorems.Numbering.{Numbering}
use Rattle.lattice.proofs.theory.ByteNumbers.{below, number_at_lem, same_cell}

-- Theorem. Each cell's byte number is below the number of cells, and each number below that is exactly one cell's.
pub numbering : Numbering
numbering =
    record {
      below = below;
      some = λ s i h. (cell_at s i, (number_at_lem s i h).0, (number_at_lem s i h).1);
      one = same_cell;
      at = number_at_lem;
    }
