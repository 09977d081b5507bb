-- The lower bound on labels: the cells of the sphere lie pairwise in small clusters, so they have as many labels as cells.
use Prim.Native.Nat.{ℕ, ◌≤◌, ◌<◌}
use mathlib.Core.List.Memᴰ
use mathlib.Core.List.{List, map, Memᴰ}
use mathlib.Core.Path.{◌≡◌, ap, ◌∙◌, sym}
use lib.ListN.{length, length-map}
use Rattle.lattice.specs.declared.shape.Shape.{Shape}
use Rattle.lattice.specs.Shape.{cells_of}
use Rattle.lattice.specs.Cell.{Cell, InField, cell_number, cell_at}
use Rattle.lattice.specs.Cluster.{distance}
use Rattle.lattice.specs.Labelling.{labels, Separates}
use Rattle.lattice.specs.Distinct.{Distinct}
use Rattle.lattice.proofs.theory.ByteNumbers.{below, at_number}
use Rattle.lattice.proofs.theory.Distinct.{distinct_map}
use Rattle.lattice.proofs.theory.Pigeonhole.{ValueBelow, different_values_many}
use Rattle.lattice.proofs.theory.ClusterPaths.{near_together}

-- different cells of the field less than t apart have different labels
pub separates_near : (s : Shape) (t : ℕ) (L : Cell → ℕ)
    → Separates s t L
    → (x y : Cell)
    → InField s x
    → InField s y
    → distance x y < t
    → L x ≡ L y
    → x ≡ y
separates_near s t L sep x y hx hy h =
    let r = near_together s t x y hx hy h in
    sep r.set r.cluster r.small x y r.first r.second

-- different cells of the field with different labels are at most as many as the labels
pub labels_many : (s : Shape) (L : Cell → ℕ) (xs : List Cell) → Distinct xs → ((x : Cell) → Memᴰ x xs → InField s x)
    → ((x y : Cell) → Memᴰ x xs → Memᴰ y xs → L x ≡ L y → x ≡ y) → length xs ≤ labels s L
unfolding labels
labels_many s L xs d inside one =
    rw (← length-map xs L)
    (different_values_many (λ i. L (cell_at s i)) (cells_of s) (map L xs) (distinct_map L xs d one) used)
  where
    used : (v : ℕ) → Memᴰ v (map L xs) → ValueBelow (λ i. L (cell_at s i)) (cells_of s) v
    used v m =
        let r = Memᴰ.of_map L xs m in
        let h = inside r.0 r.1 in
        (cell_number s r.0, below s r.0 h, sym (ap L (at_number s r.0 h) ∙ r.2))
