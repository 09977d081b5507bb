-- Examples that meet the hypotheses of the theorems on coding: the field of 5 by 5 of strength 3, its payload byte 165, the field
-- written from it now and before, and damage to one of its cells.
use Prim.Native.Nat.{ℕ, zero, suc, ◌<◌}
use mathlib.Core.Bool.{Bool, true, ◌&&◌, ◌||◌}
use mathlib.Core.List.{List, [], ◌∷◌, Memᴰ}
use mathlib.Core.Logic.{◌≢◌, inl, inr, ⊎_elim}
use mathlib.Core.Path.{◌≡◌, refl, sym, ◌∙◌}
use native.Mathlib.Omega.{arith}
use borrow.Author.Tests.{eqb-true}
use lib.Dec.{eqb, lit<}
use lib.ListN.{length}
use Rattle.lattice.specs.Shape.{no_window, is_none, max_strength, size_ok, strength_ok, window_ok, shape_number, Accepted}
use Rattle.lattice.specs.Range.{in_range}
use Rattle.lattice.specs.Settings.{odd_settings, flat_settings, settings_for}
use Rattle.lattice.specs.Cell.{Cell, cell_at}
use Rattle.lattice.specs.Class.{minus_mod, class_with, class_of, layout_of, classes_of}
use Rattle.lattice.specs.Position.{Layout, size_to, size, position}
use Rattle.lattice.specs.Check.{is_power, is_check, holds_data, capacity}
use Rattle.lattice.specs.Cluster.{distance, apart}
use Rattle.lattice.proofs.theory.Bools.{and_left, and_right, or_cases}
use Rattle.lattice.proofs.examples.Placing.{field, corner, OfThree}
use Rattle.codec.specs.Field.{field_of, cells_ok, is_cell, is_received}
use Rattle.codec.specs.Hamming.{tags_of, syndrome, flipped}
use Rattle.codec.specs.Erasure.{erasures_to, filled, corrected, few_erasures, in_reach, all_in_reach}
use Rattle.codec.specs.Payload.{Bytes, padding, earlier_padding, Carries, PaddedWith, PaddingRight, padded_with, padding_ok}
use Rattle.codec.specs.Payload.{payload_bytes, rank}
use Rattle.codec.specs.Plan.{plan_number, plan_capacity, plan_bytes, plan_cells}
use Rattle.codec.specs.Encode.{encode_number, encoded_field, earlier_field, WrittenFrom}
use Rattle.codec.specs.Decode.{decode_number, field_number}
use Rattle.codec.specs.Correct.{correct_number, correct_leaves}
use Rattle.codec.specs.Reach.{Readable}
use Rattle.codec.specs.Code.{LawfulField, NearestTo}
use Rattle.codec.specs.Damage.{OneInEachClass, WithinPromise}
use Rattle.codec.proofs.theory.NearestField.{lawful_nearest}
use Rattle.codec.proofs.theory.Accepted.{encode_number_lem}
use Rattle.codec.proofs.theory.ClusterCells.{one_number}
use Rattle.codec.proofs.theory.ReadFields.{cells_readable}
use Rattle.codec.proofs.theorems.Undamaged.{nothing_to_correct}
use Rattle.codec.proofs.theorems.Writing.{encode_meaning, earlier_meaning}

-- the plan accepts the field
pub accepted : Accepted field
unfolding shape_number size_ok strength_ok window_ok is_none max_strength in_range
accepted = refl

-- a payload of the plan's length
abbrev pub payload : List ℕ
payload = 165 ∷ []

pub payload_long : length payload ≡ plan_bytes field
unfolding
    plan_bytes plan_capacity shape_number size_ok strength_ok window_ok is_none max_strength in_range
    capacity holds_data size_to position is_power is_check cell_at class_of class_with minus_mod settings_for flat_settings
    odd_settings
payload_long = refl

pub payload_bytes_lem : Bytes payload
payload_bytes_lem zero = lit< tt
payload_bytes_lem (suc j) = lit< tt

-- the field written from it is lawful, has its bits and the padding, can be read, and is its own nearest lawful field
abbrev pub written : List ℕ
written = encoded_field field payload

pub written_from : WrittenFrom field payload written
written_from = inl refl

pub written_lawful : LawfulField field (field_of written)
written_lawful = encode_meaning.lawful field accepted payload payload_long payload_bytes_lem

pub written_carries : Carries (layout_of field) (field_of written) payload
written_carries = encode_meaning.carries field accepted payload payload_long payload_bytes_lem

pub written_padded : PaddedWith (layout_of field) padding (field_of written)
written_padded = encode_meaning.padded field accepted payload payload_long payload_bytes_lem

pub written_readable : Readable field written
written_readable = cells_readable field written accepted (encode_meaning.long field payload) written_lawful.cells

pub written_nearest : NearestTo field (field_of written) (field_of written)
written_nearest = lawful_nearest (field_of written) written_lawful

pub written_padding : PaddingRight (layout_of field) (field_of written)
written_padding = inl written_padded

-- the field that was written from it before is lawful, and has its bits and zeros
abbrev pub earlier : List ℕ
earlier = earlier_field field payload

pub earlier_from : WrittenFrom field payload earlier
earlier_from = inr refl

pub earlier_lawful : LawfulField field (field_of earlier)
earlier_lawful = earlier_meaning.lawful field accepted payload payload_long payload_bytes_lem

pub earlier_carries : Carries (layout_of field) (field_of earlier) payload
earlier_carries = earlier_meaning.carries field accepted payload payload_long payload_bytes_lem

pub earlier_padded : PaddedWith (layout_of field) earlier_padding (field_of earlier)
earlier_padded = earlier_meaning.padded field accepted payload payload_long payload_bytes_lem

pub earlier_padding_lem : PaddingRight (layout_of field) (field_of earlier)
earlier_padding_lem = inr earlier_padded

-- a selection of one cell
abbrev pub is_at : Cell → Cell → Bool
is_at y x = eqb x.row y.row && (eqb x.plane y.plane && eqb x.column y.column)

pub at_is : (y x : Cell) → is_at y x ≡ true → x ≡ y
at_is y x e = λ i. record { row = row i; plane = plane i; column = column i }
  where
    rest : (eqb x.plane y.plane && eqb x.column y.column) ≡ true
    rest = and_right (eqb x.row y.row) (eqb x.plane y.plane && eqb x.column y.column) e

    row : x.row ≡ y.row
    row =
        eqb-true x.row y.row (and_left (eqb x.row y.row) (eqb x.plane y.plane && eqb x.column y.column) e)

    plane : x.plane ≡ y.plane
    plane = eqb-true x.plane y.plane (and_left (eqb x.plane y.plane) (eqb x.column y.column) rest)

    column : x.column ≡ y.column
    column = eqb-true x.column y.column (and_right (eqb x.plane y.plane) (eqb x.column y.column) rest)

-- a cell that is one of three
pub of_three : (a b c x : Cell) → (is_at a x || (is_at b x || is_at c x)) ≡ true → Memᴰ x (a ∷ b ∷ c ∷ [])
of_three a b c x e =
    ⊎_elim
    (λ p. Memᴰ.head (at_is a x p))
    (λ q. Memᴰ.tail
    (⊎_elim
    (λ p. Memᴰ.head (at_is b x p))
    (λ p. Memᴰ.tail (Memᴰ.head (at_is c x p)))
    (or_cases (is_at b x) (is_at c x) q)))
    (or_cases (is_at a x) (is_at b x || is_at c x) e)

-- one cell of the cluster of three
abbrev pub is_corner : Cell → Bool
is_corner = is_at corner

pub corner_selected : (x : Cell) → is_corner x ≡ true → OfThree x
corner_selected x e = Memᴰ.head (at_is corner x e)

-- it is at most one cell of each class
pub corner_one : OneInEachClass (layout_of field) (λ i. is_corner (cell_at field i))
corner_one i j hi hj si sj same =
    one_number field i j hi hj (at_is corner (cell_at field i) si ∙ sym (at_is corner (cell_at field j) sj))

-- the field written is corrected
pub written_corrected : correct_number field written ≡ 0
written_corrected =
    (nothing_to_correct.written field accepted payload written payload_long payload_bytes_lem written_from payload payload_long
    ).corrected_number

-- two black cells of a class of two: the exclusive or of their positions is above its size
abbrev pub two : Layout
two = record { class = λ i. 0; cells = 2 }

pub both_above : size two 0 < syndrome two (tags_of two) (field_of (1 ∷ 1 ∷ [])) 0
unfolding size_to position tags_of
both_above = lit< tt

-- a shape of 257 columns is refused
pub plan_refused_lem : plan_number (record { columns = 257; rows = 1; planes = 1; strength = 1; window = no_window }) ≢ 0
unfolding shape_number size_ok strength_ok window_ok is_none max_strength in_range
plan_refused_lem e = omega (arith, e)

-- an empty payload and an empty field are refused
pub encode_refused_lem : encode_number field [] [] ≢ 0
unfolding
    encode_number plan_bytes plan_capacity plan_cells shape_number size_ok strength_ok window_ok is_none max_strength in_range
    capacity holds_data size_to position is_power is_check cell_at class_of class_with minus_mod settings_for flat_settings
    odd_settings
encode_refused_lem e = omega (arith, e)

pub decode_refused_lem : decode_number field [] [] ≢ 0
unfolding
    decode_number plan_bytes plan_capacity plan_cells shape_number size_ok strength_ok window_ok is_none max_strength in_range
    capacity holds_data size_to position is_power is_check cell_at class_of class_with minus_mod settings_for flat_settings
    odd_settings
decode_refused_lem e = omega (arith, e)

pub correct_refused_lem : correct_number field [] ≢ 0
unfolding correct_number plan_cells shape_number size_ok strength_ok window_ok is_none max_strength in_range
correct_refused_lem e = omega (arith, e)

-- a blank field with two cells flipped that are eight apart, in opposite corners: correcting flips both
abbrev pub corners : List ℕ
corners =
    1 ∷ 0 ∷ 0 ∷ 0 ∷ 0 ∷ 0 ∷ 0 ∷ 0 ∷ 0 ∷ 0 ∷ 0 ∷ 0 ∷ 0 ∷ 0 ∷ 0 ∷ 0 ∷ 0 ∷ 0 ∷ 0 ∷ 0 ∷ 0 ∷ 0 ∷ 0 ∷ 0 ∷ 1 ∷ []

pub corners_beyond : ¬ WithinPromise field corners (correct_leaves field corners)
unfolding
    correct_leaves correct_number field_number cells_ok is_cell is_received few_erasures all_in_reach in_reach tags_of corrected
    flipped
    filled erasures_to padded_with padding_ok padding earlier_padding payload_bytes rank plan_cells shape_number size_ok
    strength_ok window_ok is_none max_strength in_range capacity
    holds_data size_to position is_power is_check cell_at classes_of class_of class_with minus_mod settings_for flat_settings
    odd_settings
    distance apart
corners_beyond told =
    let far : ◌<◌ 8 3 = told.near 0 24 (lit< tt) (lit< tt) (λ e. omega (arith, e)) (λ e. omega (arith, e)) in omega (arith, far)

-- a payload and a field of the plan's lengths are written
pub written_zero : encode_number field payload written ≡ 0
written_zero = encode_number_lem field accepted payload written payload_long (encode_meaning.long field payload)
