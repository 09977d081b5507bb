-- The corrected cells in the buffer that held the field, and the number of those that change.
use Prim.Native.Nat.{ℕ, ◌+◌, ◌<◌, ◌≤◌}
use mathlib.Core.Bool.{Bool, not, cond}
use mathlib.Core.List.{List, ◌++◌}
use mathlib.Core.Path.{◌≡◌, refl, sym, ap, ap₂, ◌∙◌}
use native.Mathlib.Nat.{lt_of_le_of_lt}
use native.Mathlib.Omega.{arith}
use lib.Dec.{eqb}
use lib.ListN.{length, get_or, set, drop}
use lib.Seq.{get_or-append-add, get_or-drop}
use Rattle.lattice.specs.declared.shape.Shape.{Shape}
use Rattle.lattice.specs.Shape.{max_cells, cells_of}
use Rattle.lattice.proofs.theory.Counting.{bit, count_step, count_most}
use Rattle.codec.specs.Field.{field_of, list_of, differences}
use Rattle.codec.proofs.theory.FieldLists.{length_list_of}
use Rattle.codec.proofs.theory.FilledLists.{filled_more}
use Rattle.levels.specs.Level.{max_level, Levels}
use Rattle.levels.specs.Decode.{restored_field}

-- the buffer that held `field` has the corrected cells before i, and goes on as before; k of them changed
pub record StoredTo (s : Shape) (field buffer : List ℕ) (k i : ℕ) : Type 0 where
  pub cells : buffer ≡ list_of (restored_field s (field_of field)) i ++ drop i field
  pub differ : k ≡ differences (field_of field) (restored_field s (field_of field)) i

pub stored_none : (s : Shape) (field : List ℕ) → StoredTo s field field 0 0
unfolding differences
stored_none s field = record { cells = refl; differ = refl }

module _ (s : Shape) (field buffer : List ℕ) (k i : ℕ) (m : StoredTo s field buffer k i) where
  pub changed_limit : i < max_cells → k < max_cells
  unfolding differences
  changed_limit l = rw m.differ (lt_of_le_of_lt (count_most _ i) l)

  -- the next cell is as it was
  pub next_cell : get_or buffer i 0 ≡ get_or field i 0
  next_cell =
      let front : List ℕ = list_of (restored_field s (field_of field)) i in
      let here : i ≡ length front + 0 = omega (arith, length_list_of (restored_field s (field_of field)) i) in
      let there : i + 0 ≡ i = omega arith in
      ap (λ (l : List ℕ). get_or l i 0) m.cells
      ∙ ap (λ (j : ℕ). get_or (front ++ drop i field) j 0) here
      ∙ get_or-append-add front (drop i field) 0 0
      ∙ get_or-drop i field 0 0
      ∙ ap (λ (j : ℕ). get_or field j 0) there

  pub next_level : Levels (field_of field) (cells_of s) → i < cells_of s → get_or buffer i 0 ≤ max_level
  next_level h l = rw next_cell (h i l)

  -- one cell more
  pub stored_more : i < length field → (v y : ℕ) → v ≡ restored_field s (field_of field) i
      → y ≡ cond (not (eqb (get_or buffer i 0) v)) 1 0 + k → StoredTo s field (set buffer i v) y (i + 1)
  unfolding differences
  stored_more l v y value e =
      record {
        cells = filled_more (restored_field s (field_of field)) field i v buffer l value m.cells;
        differ =
            e
            ∙ ap₂ (λ (b : Bool) (n : ℕ). bit b + n) (ap₂ (λ (a b : ℕ). not (eqb a b)) next_cell value) m.differ
            ∙ sym (count_step (λ j. not (eqb (field_of field j) (restored_field s (field_of field) j))) i);
      }
