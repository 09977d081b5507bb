-- The number of checks and the capacity: the terms of the theorems.
use Prim.Native.Nat.{ℕ, suc, ◌-◌, ◌^◌, ◌<◌, ◌≤◌}
use mathlib.Core.Path.{◌≡◌, refl, ◌∙◌}
use native.Mathlib.Omega.{arith}
use Rattle.lattice.specs.Check.{checks}
use Rattle.lattice.specs.Position.{size}
use Rattle.lattice.specs.theorems.Capacity.{ChecksAreBitLength, ClassCapacity, CapacitySum}
use Rattle.lattice.proofs.theory.BitLength.{top_of}
use Rattle.lattice.proofs.theory.Counting.{sum_same}
use Rattle.lattice.proofs.theory.CapacityByClass.{data_cells_lem, class_data, capacity_by_class}

pub checks_are_bit_length : ChecksAreBitLength
unfolding checks
checks_are_bit_length =
    record {
      none = refl;
      some = λ n p. bits n (checks n) (top_of n p).top (top_of n p).number (top_of n p).low (top_of n p).high;
    }
  where
    bits : (n k j : ℕ) → k ≡ suc j → 2 ^ j ≤ n → n < 2 ^ suc j → (1 ≤ k) × (2 ^ (k - 1) ≤ n) × (n < 2 ^ k)
    bits n k j e l u = let q : k - 1 ≡ j = omega arith in (omega arith, rw q l, rw e u)

pub class_capacity : ClassCapacity
class_capacity L a = class_data L a

pub capacity_sum : CapacitySum
capacity_sum L m p = capacity_by_class L m p ∙ sum_same _ _ m (λ a l. data_cells_lem (size L a))
