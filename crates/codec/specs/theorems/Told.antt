-- Damage beyond the promise can be told from what correcting flips.
use Rattle.std.specs.Prelude.{ℕ, ◌<◌, Bool, true, false, List, ◌≢◌, ◌≡◌, length}
use Rattle.lattice.specs.declared.shape.Shape.{Shape}
use Rattle.lattice.specs.Shape.{Accepted, cells_of}
use Rattle.lattice.specs.Cell.{Cell, cell_at}
use Rattle.lattice.specs.Cluster.{Cluster, AtMost}
use Rattle.codec.specs.Payload.{Bytes}
use Rattle.codec.specs.Plan.{plan_bytes}
use Rattle.codec.specs.Correct.{correct_leaves}
use Rattle.codec.specs.Damage.{damaged_field, WithinPromise}
use Rattle.codec.specs.Field.{field_of}
use Rattle.codec.specs.Encode.{WrittenFrom}

-- Theorem. Where the damage to a field that was written, now or before, lies in one cluster of at most t cells, correcting flips
-- at most t cells, and any two of them are less than t apart. So where it flips others, the field is none that was written with
-- such damage.
pub record DamageTold : Type 1 where
  pub within : (s : Shape) → Accepted s
      → (p F : List ℕ) → length p ≡ plan_bytes s → Bytes p → WrittenFrom s p F
      → (S : Cell → Type 0) → Cluster s S → AtMost s.strength S
      → (selected : Cell → Bool) → ((x : Cell) → selected x ≡ true → S x)
      → let G = damaged_field s F selected in WithinPromise s G (correct_leaves s G)
  pub beyond : (s : Shape) (G : List ℕ) → Accepted s → ¬ WithinPromise s G (correct_leaves s G)
      → (p F : List ℕ) → length p ≡ plan_bytes s → Bytes p → WrittenFrom s p F
      → (S : Cell → Type 0) → Cluster s S → AtMost s.strength S
      → (selected : Cell → Bool) → ((x : Cell) → selected x ≡ true → S x)
      → G ≢ damaged_field s F selected

-- Theorem. The selected cells of a field that was written, now or before, differ after the damage; the others of any field do
-- not.
pub record DamageDiffers : Type 0 where
  pub selected : (s : Shape) (p F : List ℕ) → WrittenFrom s p F → (selected : Cell → Bool) (i : ℕ) → i < cells_of s
      → selected (cell_at s i) ≡ true → field_of (damaged_field s F selected) i ≢ field_of F i
  pub others : (s : Shape) (F : List ℕ) (selected : Cell → Bool) (i : ℕ) → i < cells_of s → selected (cell_at s i) ≡ false
      → field_of (damaged_field s F selected) i ≡ field_of F i
