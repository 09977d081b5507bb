-- Demand 3 for fields of levels: what was written is read and corrected again after changes of −1 to +3 in the cells of one
-- cluster of at most t cells, or of one window.
use Rattle.std.specs.Prelude.{ℕ, List, ◌≡◌, ℤ, length}
use Rattle.lattice.specs.declared.shape.Shape.{Shape}
use Rattle.lattice.specs.Shape.{window}
use Rattle.lattice.specs.Cell.{Cell}
use Rattle.lattice.specs.Cluster.{Cluster, AtMost}
use Rattle.lattice.specs.Window.{InWindow, Patch}
use Rattle.codec.specs.Plan.{plan_digits}
use Rattle.levels.specs.Encode.{Writable, encoded_levels_field}
use Rattle.levels.specs.Damage.{ChangedIn, OneOfEachClass, LevelsRecovered}

-- the payload p and the field written from it come back from every field that is changed in cells of the set
abbrev pub LevelsUndone : Shape → List ℕ → (Cell → Type 0) → Type 0
LevelsUndone s p S =
    (G : List ℕ) → ChangedIn s S (encoded_levels_field s p) G
    → (buffer : List ℕ) → length buffer ≡ plan_digits s → LevelsRecovered s p (encoded_levels_field s p) G buffer

-- Theorem. Recovery from changes in any set with at most one cell of each class.
abbrev pub LevelsRecoveryByClass : Type 1
LevelsRecoveryByClass =
    (s : Shape) (p : List ℕ) → Writable s p → (S : Cell → Type 0) → OneOfEachClass s S → LevelsUndone s p S

-- Theorem (demand 3). For every shape that the plan accepts, every payload of its length and every cluster of the field of at
-- most t cells.
abbrev pub LevelsRecovery : Type 1
LevelsRecovery =
    (s : Shape) (p : List ℕ) → Writable s p → (S : Cell → Type 0) → Cluster s S → AtMost s.strength S → LevelsUndone s p S

-- Theorem. For every shape that the plan accepts at strength 0, every payload of its length and every place of the window, also
-- over the field's edge.
abbrev pub LevelsWindowRecovery : Type 0
LevelsWindowRecovery =
    (s : Shape) (p : List ℕ) → Writable s p → s.strength ≡ 0 → (r c : ℤ) → LevelsUndone s p (InWindow s.window r c)

-- Theorem. So it is where the window is t by t, for every patch of the field of at most t cells.
abbrev pub LevelsPatchRecovery : Type 1
LevelsPatchRecovery =
    (s : Shape) (p : List ℕ) → Writable s p → s.strength ≡ 0 → (t : ℕ) → s.window ≡ window t t
    → (S : Cell → Type 0) → Patch s S → AtMost t S → LevelsUndone s p S
