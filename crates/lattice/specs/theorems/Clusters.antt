-- The theorems on clusters: their distances and their classes.
use Rattle.std.specs.Prelude.{ℕ, ◌<◌, ◌↔◌}
use Rattle.lattice.specs.declared.shape.Shape.{Shape}
use Rattle.lattice.specs.Cell.{Cell, InField}
use Rattle.lattice.specs.Cluster.{distance, Together}
use Rattle.lattice.specs.Shape.{Accepted}
use Rattle.lattice.specs.Labelling.{Separates}
use Rattle.lattice.specs.Class.{class_of}

-- Theorem. Two cells of the field lie in some cluster of at most t cells exactly when their distance is below t.
abbrev pub ClusterDistance : Type 1
ClusterDistance = (s : Shape) (t : ℕ) (x y : Cell) → InField s x → InField s y → Together s t x y ↔ (distance x y < t)

-- Theorem (the placing law). The cells of one cluster of at most t cells lie in different classes.
abbrev pub ClusterClasses : Type 1
ClusterClasses = (s : Shape) → Accepted s → Separates s s.strength (class_of s)
