-- Demand 3: what was written, now or before, is read and corrected again after any damage to one cluster of at most t cells, and
-- the classes are no more than needed.
use Rattle.std.specs.Prelude.{ℕ, ◌≤◌, Bool, true, List, ◌≡◌, length}
use Rattle.lattice.specs.declared.shape.Shape.{Shape}
use Rattle.lattice.specs.Shape.{Accepted}
use Rattle.lattice.specs.Cell.{Cell, cell_at}
use Rattle.lattice.specs.Cluster.{Cluster, AtMost}
use Rattle.lattice.specs.Labelling.{labels, Separates}
use Rattle.lattice.specs.Class.{layout_of}
use Rattle.codec.specs.Payload.{Bytes}
use Rattle.codec.specs.Plan.{plan_classes, plan_bytes}
use Rattle.codec.specs.Encode.{WrittenFrom}
use Rattle.codec.specs.Damage.{damaged_field, Recovered, OneInEachClass}

-- Theorem. Recovery for any selection with at most one cell in each class.
abbrev pub RecoveryByClass : Type 0
RecoveryByClass =
    (s : Shape) → Accepted s
    → (p F : List ℕ) → length p ≡ plan_bytes s → Bytes p → WrittenFrom s p F
    → (selected : Cell → Bool) → OneInEachClass (layout_of s) (λ i. selected (cell_at s i))
    → (buffer : List ℕ) → length buffer ≡ plan_bytes s
    → let G = damaged_field s F selected in Recovered s p F G buffer

-- Theorem (demand 3). For every shape that the plan accepts, every payload of the plan's length, F the field written from it, now
-- or before, every cluster of the field of at most t cells and every selection of its cells, none and all included.
abbrev pub Recovery : Type 1
Recovery =
    (s : Shape) → Accepted s
    → (p F : List ℕ) → length p ≡ plan_bytes s → Bytes p → WrittenFrom s p F
    → (S : Cell → Type 0) → Cluster s S → AtMost s.strength S
    → (selected : Cell → Bool) → ((x : Cell) → selected x ≡ true → S x)
    → (buffer : List ℕ) → length buffer ≡ plan_bytes s
    → let G = damaged_field s F selected in Recovered s p F G buffer

-- Theorem (demand 3). On every flat field with t at least 1 and both sides at least t, every labelling in which no cluster of at
-- most t cells has one label twice has at least as many labels as the plan gives classes.
abbrev pub ClassesNeeded : Type 1
ClassesNeeded =
    (s : Shape) → s.planes ≡ 1 → 1 ≤ s.strength → s.strength ≤ s.columns → s.strength ≤ s.rows
    → (L : Cell → ℕ) → Separates s s.strength L → plan_classes s ≤ labels s L
