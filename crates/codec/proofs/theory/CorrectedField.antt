-- A field that passes the tests, corrected: cells of the classes are flipped, and the payload is gathered.
use Prim.Native.Nat.{ℕ, ◌<◌, ◌≤◌}
use mathlib.Core.List.{List}
use mathlib.Core.Path.{◌≡◌, sym, subst, ◌∙◌}
use native.Mathlib.Nat.{mod-eq_of_lt, lt_of_lt_of_le}
use native.Mathlib.Omega.{arith}
use lib.ListN.{length}
use lib.Pow.{pow_mono}
use Rattle.lattice.specs.declared.shape.Shape.{Shape}
use Rattle.lattice.specs.Refusal.{figure}
use Rattle.lattice.specs.Shape.{max_classes, shape_number, Accepted, cells_of}
use Rattle.lattice.specs.Class.{classes_of, layout_of}
use Rattle.lattice.specs.Position.{Layout}
use Rattle.lattice.proofs.theory.Answers.{beside_zero}
use Rattle.lattice.proofs.theory.Placements.{classes_limit}
use Rattle.codec.specs.Field.{Field, field_of, Cells, Same, having}
use Rattle.codec.specs.Decode.{corrected_field}
use Rattle.codec.specs.Payload.{payload_bytes, rank, held_byte, held_payload}
use Rattle.codec.specs.Packing.{HoldsBytes, HoldsBits, Names, flipped_by, flipped_to}
use Rattle.codec.specs.Working.{Located}
use Rattle.codec.proofs.theory.Accepted.{class_at_below}
use Rattle.codec.proofs.theory.CellValues.{cell_most}
use Rattle.codec.proofs.theory.NamedCells.{named_same, flipped_to_all}
use Rattle.codec.proofs.theory.FieldLists.{list_field}
use Rattle.codec.proofs.theory.HeldByte.{bits_of, byte_below}
use Rattle.codec.proofs.theory.HeldPayload.{held_length, held_bit}

-- the number of classes of an accepted shape
module _ (s : Shape) (accepted : Accepted s) (m : ℕ) (given : m ≡ figure (shape_number s) (classes_of s)) where
  pub classes_given : m ≡ classes_of s
  classes_given = given ∙ beside_zero (shape_number s) (classes_of s) 0 accepted

  pub classes_few : m ≤ max_classes
  classes_few = rw classes_given (classes_limit s accepted)

-- cells named for as many classes
pub names_given : (L : Layout) (cells : List ℕ) (m n : ℕ) → m ≡ n → Names L n cells → Names L m cells
names_given L cells m n e = subst (λ (k : ℕ). Names L k cells) (sym e)

-- cells named for every class are flipped in the whole field
pub all_flipped : (s : Shape) → Accepted s → (m : ℕ) → m ≡ classes_of s → (cells : List ℕ) (f : Field)
    → Same (flipped_to (layout_of s) cells f m) (flipped_by (layout_of s) cells f) (cells_of s)
all_flipped s accepted m own cells f =
    flipped_to_all (layout_of s) cells f m (cells_of s) (λ i l. rw own (class_at_below s accepted i l))

-- and so after other cells
pub flipped_next : (s : Shape) → Accepted s → (m : ℕ) → m ≡ classes_of s → (cells : List ℕ) (f g h : Field)
    → Same h (flipped_to (layout_of s) cells f m) (cells_of s) → Same f g (cells_of s)
    → Same h (flipped_by (layout_of s) cells g) (cells_of s)
flipped_next s accepted m own cells f g h made same i l =
    made i l ∙ all_flipped s accepted m own cells f i l ∙ named_same (layout_of s) cells f g (cells_of s) same i l

-- the cells that correction flips, in a field with 0 in each erased cell
pub located_corrects : (s : Shape) (field damaged first second : List ℕ) → Located s field damaged first second
    → (g : Field) → Same g (having 1 (field_of field)) (cells_of s)
    → Same (flipped_by (layout_of s) second (flipped_by (layout_of s) first (flipped_by (layout_of s) damaged g)))
    (corrected_field s (field_of field)) (cells_of s)
located_corrects s field damaged first second located g same i l =
    named_same (layout_of s) second _ _ (cells_of s)
    (named_same (layout_of s) first _ _ (cells_of s) (named_same (layout_of s) damaged _ _ (cells_of s) same)) i l
    ∙ located.corrects i l

-- the payload of the right length that was gathered from a field has the bits of its data cells
pub gathered_bits : (L : Layout) (f : Field) (l : List ℕ)
    → Cells f L.cells
    → length l ≡ payload_bytes L
    → HoldsBytes L f l L.cells
    → HoldsBits L f l
unfolding held_payload
gathered_bits L f l cells long holds = subst (HoldsBits L f) (sym whole) bits
  where
    whole : l ≡ held_payload L f
    whole =
        list_field l (λ j. held_byte L f j L.cells) (payload_bytes L) long
        (λ j h. holds.at j (rw long h) ∙ mod-eq_of_lt (byte_limit j))
      where
        byte_limit : (j : ℕ) → held_byte L f j L.cells < 256
        byte_limit j =
            let m : bits_of j (rank L L.cells) ≤ 8 = omega arith in
            lt_of_lt_of_le (byte_below L f j L.cells (λ k l h. cell_most _ (cells k l))) (pow_mono m)

    bits : HoldsBits L f (held_payload L f)
    bits = record { at = λ i p d r. held_bit L f cells i p d (omega (arith, held_length L f)) }
