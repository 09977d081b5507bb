-- The theorem on the faults of a word.
use Rattle.std.specs.Prelude.{ℕ, ◌<◌, ◌≢◌, ◌≡◌}
use Rattle.levels.specs.Faults.{fault, IsFault, effect, fault_of}

-- Theorem. For each remainder from 1 to 24 there is one fault that leaves it, and it is found; no fault leaves 0.
pub record FaultFound : Type 0 where
  pub is : (r : ℕ) → r < 25 → r ≢ 0
      → IsFault (fault_of r).cell (fault_of r).up × (effect (fault_of r).cell (fault_of r).up ≡ r)
  pub only : (r k u : ℕ) → IsFault k u → effect k u ≡ r → fault_of r ≡ fault k u
  pub nothing : (k u : ℕ) → IsFault k u → effect k u ≢ 0
