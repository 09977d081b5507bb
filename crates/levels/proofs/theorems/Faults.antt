-- The faults of a word: the term of the theorem.
use Rattle.levels.specs.theorems.Faults.{FaultFound}
use Rattle.levels.proofs.theory.FaultLaws.{effect_below, found_fault, leaves_found, none_leaves}

-- Theorem. For each remainder from 1 to 24 there is one fault that leaves it, and it is found; no fault leaves 0.
pub fault_found : FaultFound
fault_found =
    record {
      is = found_fault;
      only = λ r k u is e. leaves_found r (rw (← e) (effect_below k u)) k u is e;
      nothing = none_leaves;
    }
