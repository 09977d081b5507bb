-- Clusters: the terms of the theorems.
use mathlib.Core.Logic.{◌⊎◌, inl, inr}
use mathlib.Core.Path.{◌≡◌}
use native.Mathlib.Omega.{arith}
use Rattle.lattice.specs.theorems.Clusters.{ClusterDistance, ClusterClasses}
use Rattle.lattice.proofs.theory.ClusterPaths.{together_near, near_together}
use Rattle.lattice.proofs.theory.Distances.{Towards, towards, towards_other}
use Rattle.lattice.proofs.theorems.Distance.{class_distance}

-- Theorem. Two cells of the field lie in some cluster of at most t cells exactly when their distance is below t.
pub cluster_distance : ClusterDistance
cluster_distance s t x y hx hy = (together_near s t x y, near_together s t x y hx hy)

-- Theorem. The cells of one cluster of at most t cells lie in different classes: two of one class would be at least t apart.
pub cluster_classes : ClusterClasses
cluster_classes s a S cluster small x y hx hy e = go (towards x y)
  where
    go : (x ≡ y) ⊎ Towards x y → x ≡ y
    go (inl same) = same
    go (inr other) =
        absurd
        (omega (
          arith,
          class_distance s a x y (cluster.inside x hx) (cluster.inside y hy) e (towards_other other),
          together_near s s.strength x y (record { set = S; cluster = cluster; small = small; first = hx; second = hy }),
        ))
