-- What the work arrays of a pass over the cells hold. Only contracts of functions that are private to the crate cite this file.
use Rattle.std.specs.Prelude.{ℕ, ◌+◌, ◌<◌, Bool, cond, not, ◌||◌, List, ◌⊎◌, ◌≡◌, eqb, length, get_or, Result}
use Rattle.lattice.specs.declared.refusal.Refusal.{Refusal}
use Rattle.lattice.specs.declared.shape.Shape.{Shape}
use Rattle.lattice.specs.Refusal.{figure_of, unless}
use Rattle.lattice.specs.Shape.{max_classes, Accepted, after_shape, cells_of}
use Rattle.lattice.specs.Class.{classes_of, layout_of}
use Rattle.lattice.specs.Position.{Layout}
use Rattle.lattice.specs.Counting.{count}
use Rattle.lattice.specs.Listing.{no_cell}
use Rattle.lattice.specs.Sizes.{HoldsSizes}
use Rattle.codec.specs.declared.payload.Padding.{Padding}
use Rattle.codec.specs.declared.payload.Padding.TheVariants as pads
use Rattle.codec.specs.Field.{Field, field_of, Same, erased, having}
use Rattle.codec.specs.Hamming.{tags_of, syndrome_to, syndrome}
use Rattle.codec.specs.Erasure.{is_erased, erasures_to, in_reach}
use Rattle.codec.specs.Code.{tags_at}
use Rattle.codec.specs.Decode.{corrected_field, corrected_count}
use Rattle.codec.specs.Packing.{Names, flipped_by}
use Rattle.codec.specs.Plan.{plan_bytes, plan_cells}
use Rattle.codec.specs.Payload.{payload_bytes, padding, earlier_padding}

-- the array holds the syndrome of each class of f over the first n cells
pub record HoldsSyndromes (L : Layout) (f : Field) (l : List ℕ) (n : ℕ) : Type 0 where
  pub at : (a : ℕ) → a < max_classes → get_or l a 0 ≡ syndrome_to L (tags_of L) f a n

-- the shape is accepted, the payload has its plan's length, and the array holds the size of each class
pub record PayloadFits (s : Shape) (payload sizes : List ℕ) : Type 0 where
  pub accepted : Accepted s
  pub long : length payload ≡ payload_bytes (layout_of s)
  pub sized : HoldsSizes (layout_of s) sizes (cells_of s)

-- the padding that the code names
abbrev pub padding_of : Padding → ℕ → ℕ
padding_of pads.Pattern j = padding j
padding_of pads.Zeros j = earlier_padding j

-- a cell passes as padding cell j: it holds a check, or the padding's value
unfoldable pub right_at : (ℕ → ℕ) → Bool → ℕ → ℕ → Bool
right_at pad d j v = not d || eqb v (pad j)

-- the shape is accepted and the field has its plan's length
pub record FieldFits (s : Shape) (field : List ℕ) : Type 0 where
  pub accepted : Accepted s
  pub long : length field ≡ cells_of s

-- the tests of encoding and decoding before the field's own: the shape's, then 3 and 4 for a payload and a field whose length
-- isn't the plan's
unfoldable pub length_number : Shape → List ℕ → List ℕ → ℕ
length_number s payload field =
    after_shape s
    (unless (eqb (length payload) (plan_bytes s)) 3
    (unless (eqb (length field) (plan_cells s)) 4
    0))

-- what the tests of the lengths leave where they pass
pub record Fits (s : Shape) (payload field sizes : List ℕ) : Type 0 where
  pub of_payload : PayloadFits s payload sizes
  pub of_field : FieldFits s field

-- every entry of the array says that there is no cell
pub record HoldsNone (cells : List ℕ) : Type 0 where
  pub at : (a : ℕ) → a < max_classes → get_or cells a 0 ≡ no_cell

-- cell u, one of the first n, is erased and of class a
pub record IsErasure (L : Layout) (f : Field) (a n u : ℕ) : Type 0 where
  pub below : u < n
  pub class : L.class u ≡ a
  pub value : f u ≡ erased

-- u and v are the erasures of class a among the first n cells: there is none, or u alone, or u and v
abbrev pub ErasuresAre : Layout → Field → ℕ → ℕ → ℕ → ℕ → Type 0
ErasuresAre L f a n u v =
    ((erasures_to L f a n ≡ 0) × (u ≡ no_cell) × (v ≡ no_cell))
    ⊎ ((erasures_to L f a n ≡ 1) × IsErasure L f a n u × (v ≡ no_cell))
    ⊎ ((erasures_to L f a n ≡ 2) × IsErasure L f a n u × IsErasure L f a n v × (u < v))

-- the lists have the erasures of each class among the first n cells
pub record ListsErasures (L : Layout) (f : Field) (n : ℕ) (first second : List ℕ) : Type 0 where
  pub at : (a : ℕ) → a < max_classes → ErasuresAre L f a n (get_or first a 0) (get_or second a 0)

-- an erased cell u where it is to be 1, else none: the syndrome s of its class is its position, that of cell c, or the exclusive
-- or of the positions of all erasures of the class
unfoldable pub kept_cell : ℕ → ℕ → ℕ → ℕ → ℕ
kept_cell s sum c u = cond (eqb s sum || eqb c u) u no_cell

-- the cell c that a syndrome names, where its class has no erasure, else none
unfoldable pub damaged_cell : ℕ → ℕ → ℕ
damaged_cell u c = cond (eqb u no_cell) c no_cell

-- the entry of class a names a cell
abbrev pub names : List ℕ → ℕ → Bool
names cells a = not (eqb (get_or cells a 0) no_cell)

-- the test of a class: its syndrome is 0, or a cell is to be flipped
unfoldable pub reached_by : ℕ → ℕ → ℕ → ℕ → Bool
reached_by s d u v = eqb s 0 || (not (eqb d no_cell) || (not (eqb u no_cell) || not (eqb v no_cell)))

-- the cells that correction flips where 0 stands in each erased cell: in a class with no erasure at most one, in `damaged`, else
-- those erased cells that are to be 1, in `first` and `second`
pub record Located (s : Shape) (field damaged first second : List ℕ) : Type 0 where
  pub damaged_named : Names (layout_of s) (classes_of s) damaged
  pub first_named : Names (layout_of s) (classes_of s) first
  pub second_named : Names (layout_of s) (classes_of s) second
  pub corrects : Same
      (flipped_by (layout_of s) second
      (flipped_by (layout_of s) first
      (flipped_by (layout_of s) damaged
      (having 1 (field_of field)))))
      (corrected_field s (field_of field)) (cells_of s)
  pub counted : count (names damaged) (classes_of s) + count (is_erased (field_of field)) (cells_of s)
      ≡ corrected_count s (field_of field)
  pub reaches : (a : ℕ) → a < classes_of s
      → reached_by (syndrome (layout_of s) (tags_at s) (field_of field) a)
      (get_or damaged a 0) (get_or first a 0) (get_or second a 0)
      ≡ in_reach (layout_of s) (tags_at s) (field_of field) a

-- a field that passes its tests: the arrays say what correction flips, and the figure is the number of erased cells
pub record Sound (s : Shape) (field damaged first second : List ℕ) (r : Result ℕ Refusal) : Type 0 where
  pub located : Located s field damaged first second
  pub erased_cells : figure_of r ≡ count (is_erased (field_of field)) (cells_of s)
