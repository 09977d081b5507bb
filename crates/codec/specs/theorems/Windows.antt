-- Windows and patches: what was written comes back after any damage in one window or to one patch, and after any cells of two
-- windows are erased; and the classes are no more than needed.
use Rattle.std.specs.Prelude.{ℕ, ◌≤◌, Bool, true, List, ◌⊎◌, ◌≡◌, ℤ, length}
use Rattle.lattice.specs.declared.shape.Shape.{Shape}
use Rattle.lattice.specs.Shape.{window, Accepted, cells_of}
use Rattle.lattice.specs.Cell.{Cell}
use Rattle.lattice.specs.Cluster.{AtMost}
use Rattle.lattice.specs.Labelling.{labels}
use Rattle.lattice.specs.Window.{InWindow, SeparatesWindows, Patch}
use Rattle.codec.specs.Field.{field_of, differences}
use Rattle.codec.specs.Payload.{Bytes}
use Rattle.codec.specs.Plan.{plan_classes, plan_bytes}
use Rattle.codec.specs.Encode.{WrittenFrom}
use Rattle.codec.specs.Damage.{damaged_field, erased_field, selected_cells, Recovered}

-- Theorem. For every shape that the plan accepts at strength 0, every payload of the plan's length, F the field written from it,
-- now or before, every place of the window, also over the field's edge, and every selection of its cells, none and all included.
abbrev pub WindowRecovery : Type 0
WindowRecovery =
    (s : Shape) → Accepted s → s.strength ≡ 0
    → (p F : List ℕ) → length p ≡ plan_bytes s → Bytes p → WrittenFrom s p F
    → (r c : ℤ) (selected : Cell → Bool) → ((x : Cell) → selected x ≡ true → InWindow s.window r c x)
    → (buffer : List ℕ) → length buffer ≡ plan_bytes s
    → let G = damaged_field s F selected in Recovered s p F G buffer

-- Theorem. So it is where the window is t by t, for every patch of the field of at most t cells and every selection of its cells.
abbrev pub PatchRecovery : Type 1
PatchRecovery =
    (s : Shape) → Accepted s → s.strength ≡ 0 → (t : ℕ) → s.window ≡ window t t
    → (p F : List ℕ) → length p ≡ plan_bytes s → Bytes p → WrittenFrom s p F
    → (S : Cell → Type 0) → Patch s S → AtMost t S
    → (selected : Cell → Bool) → ((x : Cell) → selected x ≡ true → S x)
    → (buffer : List ℕ) → length buffer ≡ plan_bytes s
    → let G = damaged_field s F selected in Recovered s p F G buffer

-- Theorem. Where any cells of the window at any two places are erased in F, written now or before, and no other is touched, the
-- payload and the field come back, and the count is the number of erased cells.
abbrev pub WindowRefill : Type 0
WindowRefill =
    (s : Shape) → Accepted s → s.strength ≡ 0
    → (p F : List ℕ) → length p ≡ plan_bytes s → Bytes p → WrittenFrom s p F
    → (r c r' c' : ℤ) (selected : Cell → Bool)
    → ((x : Cell) → selected x ≡ true → InWindow s.window r c x ⊎ InWindow s.window r' c' x)
    → (buffer : List ℕ) → length buffer ≡ plan_bytes s
    → let G = erased_field s F selected in
    Recovered s p F G buffer × (differences (field_of F) (field_of G) (cells_of s) ≡ selected_cells s selected)

-- Theorem. On every flat field of strength 0 of at least p rows and q columns, every labelling with no label twice in any window
-- that lies in the field has at least as many labels as the plan gives classes.
abbrev pub WindowClassesNeeded : Type 0
WindowClassesNeeded =
    (s : Shape) → s.planes ≡ 1 → s.strength ≡ 0 → s.window.rows ≤ s.rows → s.window.columns ≤ s.columns
    → (L : Cell → ℕ) → SeparatesWindows s s.window L → plan_classes s ≤ labels s L
