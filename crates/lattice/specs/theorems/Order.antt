-- The theorems on the order of triples.
use Rattle.std.specs.Prelude.{ℕ, ◌<◌, ◌≤◌, ◌+◌, ◌-◌, ◌*◌, ◌/◌, ◌≡◌, length, get_or}
use Rattle.lattice.specs.declared.distance.Triple.{Triple}
use Rattle.lattice.specs.Order.{origin, order, magnitude, Leading, Before}

-- Theorem. For every t the order lists exactly the triples of absolute sum 1 to t − 1 whose first number that is not 0 is
-- positive, each exactly once, and rising.
pub record OrderLists : Type 0 where
  pub listed : (t k : ℕ) → k < length (order t)
      → Leading (get_or (order t) k origin)
      × (1 ≤ magnitude (get_or (order t) k origin)) × (magnitude (get_or (order t) k origin) < t)
  pub complete : (t : ℕ) (x : Triple) → Leading x → magnitude x < t
      → (k : ℕ) × (k < length (order t)) × (get_or (order t) k origin ≡ x)
  pub once : (t j k : ℕ) → j < length (order t) → k < length (order t)
      → get_or (order t) j origin ≡ get_or (order t) k origin → j ≡ k
  pub rising : (t j k : ℕ) → j < k → k < length (order t) → Before (get_or (order t) j origin) (get_or (order t) k origin)

-- Theorem. For every t the order has (t − 1)(2t² − t + 3)/3 triples.
abbrev pub OrderLength : Type 0
OrderLength = (t : ℕ) → length (order t) ≡ (t - 1) * (2 * (t * t) - t + 3) / 3
