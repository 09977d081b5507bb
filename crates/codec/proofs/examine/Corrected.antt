-- The value of a cell of the corrected field, from the arrays that name the cells to be flipped.
use Prim.Native.Nat.{ℕ, ◌<◌}
use mathlib.Core.List.{List}
use mathlib.Core.Path.{◌≡◌, sym, ◌∙◌}
use Rattle.lattice.specs.declared.shape.Shape.{Shape}
use Rattle.lattice.specs.Class.{layout_of}
use Rattle.lattice.specs.Position.{Layout}
use Rattle.lattice.specs.Shape.{cells_of}
use Rattle.lattice.specs.Sizes.{AtPlace}
use Rattle.codec.specs.Field.{Field, field_of, having}
use Rattle.codec.specs.Decode.{corrected_field}
use Rattle.codec.specs.Packing.{flipped_by}
use Rattle.codec.specs.Working.{Located}

-- from the value of cell i of class a with 0 for an erased cell
pub corrected_at : (s : Shape) (field damaged first second : List ℕ) → Located s field damaged first second
    → (i a p : ℕ) → AtPlace s i a p → i < cells_of s
    → (w v : ℕ) → w ≡ having 1 (field_of field) i
    → ((L : Layout) (f : Field) → L.class i ≡ a → f i ≡ w
    → v ≡ flipped_by L second (flipped_by L first (flipped_by L damaged f)) i)
    → v ≡ corrected_field s (field_of field) i
corrected_at s field damaged first second located i a p place l w v value after =
    after (layout_of s) (having 1 (field_of field)) (sym place.class) (sym value) ∙ located.corrects i l
