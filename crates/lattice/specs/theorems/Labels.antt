-- Demand 3, the lower bound: how many labels every labelling needs.
use Rattle.std.specs.Prelude.{ℕ, ◌≤◌, ◌≡◌}
use Rattle.lattice.specs.declared.shape.Shape.{Shape}
use Rattle.lattice.specs.Shape.{Accepted}
use Rattle.lattice.specs.Cell.{Cell}
use Rattle.lattice.specs.Labelling.{labels, Separates}
use Rattle.lattice.specs.Class.{classes_of, class_of}

-- Theorem (demand 3, the lower bound). On every flat field with t at least 1 and both sides at least t, every labelling in which
-- no cluster of at most t cells has one label twice has at least m labels.
abbrev pub LabelsNeeded : Type 1
LabelsNeeded =
    (s : Shape) → s.planes ≡ 1 → 1 ≤ s.strength → s.strength ≤ s.columns → s.strength ≤ s.rows
    → (L : Cell → ℕ) → Separates s s.strength L → classes_of s ≤ labels s L

-- Theorem. The bound is attained: where t is at least 1 and both sides of a flat field are at least t, the classes are exactly m
-- labels.
abbrev pub BoundAttained : Type 0
BoundAttained =
    (s : Shape) → Accepted s → s.planes ≡ 1 → 1 ≤ s.strength → s.strength ≤ s.columns → s.strength ≤ s.rows
    → labels s (class_of s) ≡ classes_of s
