-- The theorems on the distance test. Each statement has one proof, of exactly this type, in proofs/.
use Rattle.std.specs.Prelude.{ℕ, ◌+◌, ◌-◌, ◌*◌, ◌/◌, ◌<◌, true, false, ◌↔◌, ◌≡◌, length, get_or}
use Rattle.lattice.specs.declared.settings.Settings.{Settings}
use Rattle.lattice.specs.declared.distance.Triple.{Triple}
use Rattle.lattice.specs.Settings.{settings}
use Rattle.lattice.specs.Endless.{Apart, point_at, HasClass}
use Rattle.lattice.specs.Order.{order, origin}
use Rattle.lattice.specs.DistanceTest.{fails_at, test_number, verdict, found_triple, triples_tried}

-- Theorem. At t = 1, where there is no triple to try, no settings are condemned: accepted ones hold with the counter 0.
abbrev pub TestAtOne : Type 0
TestAtOne =
    (m b c : ℕ) → test_number m b c 1 ≡ 0 → (verdict m b c 1 ≡ true) × (triples_tried m b c 1 ≡ 0)

-- Theorem. Where the numbers are accepted, the verdict is yes exactly when all different cells of one class in an endless stack
-- are at least t apart.
abbrev pub TestMeaning : Type 0
TestMeaning =
    (m b c t : ℕ) → test_number m b c t ≡ 0 → (verdict m b c t ≡ true) ↔ Apart (settings m b c) t

-- Theorem. Where the verdict is no, the triple given is the first of the order that fails, and the counter is its place, counted
-- from 1.
abbrev pub TestFinds : Type 0
TestFinds =
    (m b c t : ℕ) → test_number m b c t ≡ 0 → verdict m b c t ≡ false
    → (k : ℕ) × (k < length (order t)) × (triples_tried m b c t ≡ k + 1)
    × (found_triple m b c t ≡ get_or (order t) k origin)
    × (fails_at (settings m b c) (get_or (order t) k origin) ≡ true)
    × ((j : ℕ) → j < k → fails_at (settings m b c) (get_or (order t) j origin) ≡ false)

-- Theorem. Where the verdict is yes, no triple fails, the triple given is (0, 0, 0), and the counter is (t − 1)(2t² − t + 3)/3.
abbrev pub TestHolds : Type 0
TestHolds =
    (m b c t : ℕ) → test_number m b c t ≡ 0 → verdict m b c t ≡ true
    → (triples_tried m b c t ≡ (t - 1) * (2 * (t * t) - t + 3) / 3)
    × (found_triple m b c t ≡ origin)
    × ((k : ℕ) → k < length (order t) → fails_at (settings m b c) (get_or (order t) k origin) ≡ false)

-- Theorem. With m of at least 1, settings fail at a triple exactly when the point with those coordinates has class 0.
abbrev pub FailsMeans : Type 0
FailsMeans = (k : Settings) (x : Triple) → 0 < k.m → (fails_at k x ≡ true) ↔ HasClass k (point_at x) 0
