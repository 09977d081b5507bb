-- The lower bound on labels: the terms of the theorems.
use Prim.Native.Nat.{ℕ}
use mathlib.Core.List.{Memᴰ}
use native.Mathlib.Omega.{arith}
use native.Mathlib.Nat.{le_antisymm}
use Rattle.lattice.specs.Cell.{Cell, InField}
use Rattle.lattice.specs.Class.{class_of}
use Rattle.lattice.specs.Labelling.{labels}
use Rattle.lattice.specs.theorems.Labels.{LabelsNeeded, BoundAttained}
use Rattle.lattice.proofs.theory.Placements.{classes_flat}
use Rattle.lattice.proofs.theory.Sphere.{sphere, sphere_length, sphere_distinct, sphere_near, sphere_inside}
use Rattle.lattice.proofs.theory.LabelsMany.{separates_near, labels_many}
use Rattle.lattice.proofs.theorems.Classes.{classes_below}
use Rattle.lattice.proofs.theorems.Clusters.{cluster_classes}

-- Theorem. On every flat field with t at least 1 and both sides at least t, every labelling in which no cluster of at most t
-- cells has one label twice has at least m labels.
pub labels_needed : LabelsNeeded
labels_needed s flat positive wide high L sep =
    rw (classes_flat s positive flat, ← sphere_length s.strength positive)
    (labels_many s L (sphere t) (sphere_distinct t positive) inside
    (λ x y mx my. separates_near s t L sep x y (inside x mx) (inside y my) (sphere_near t positive x y mx my)))
  where
    t : ℕ
    t = s.strength

    inside : (x : Cell) → Memᴰ x (sphere t) → InField s x
    inside = sphere_inside t positive s (omega arith) wide high

-- Theorem. Where t is at least 1 and both sides of a flat field are at least t, the classes are exactly m labels.
pub bound_attained : BoundAttained
unfolding labels
bound_attained s a flat positive wide high =
    le_antisymm (classes_below.most s a) (labels_needed s flat positive wide high (class_of s) (cluster_classes s a))
