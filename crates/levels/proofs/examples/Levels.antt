-- Examples that meet the hypotheses of the theorems on levels: a field of 6 by 5 of strength 3 with a word in each of its five
-- classes, its digits, and changes in the three cells of a cluster; fields with windows, and changes over an edge and along a
-- diagonal; a fault, and a word that comes from no lawful one.
use Prim.Native.Nat.{ℕ, ◌+◌, ◌<◌}
use mathlib.Core.Bool.{Bool, true, ◌&&◌, ◌||◌}
use mathlib.Core.List.Memᴰ
use mathlib.Core.List.{List, [], ◌∷◌}
use mathlib.Core.Logic.{◌≢◌, ⊎_elim}
use mathlib.Core.Path.{◌≡◌, refl, subst⁻¹}
use native.Mathlib.Omega.{arith}
use lib.Dec.{T, ltb, leb, eqb, lit<}
use lib.IntN.{negsuc}
use lib.ListN.{length}
use borrow.Author.Tests.{eqb-true, leb-true}
use Rattle.lattice.specs.declared.shape.Shape.{Shape}
use Rattle.lattice.specs.Counting.{all_below}
use Rattle.lattice.specs.Range.{in_range}
use Rattle.lattice.specs.Shape.{is_none, max_strength, size_ok, strength_ok, window_ok, shape_number, cells_of}
use Rattle.lattice.specs.Settings.{odd_settings, flat_settings, settings_for}
use Rattle.lattice.specs.Cell.{Cell, cell, cell_at, InField}
use Rattle.lattice.specs.Cluster.{apart, by_column, Cluster, AtMost}
use Rattle.lattice.specs.Class.{minus_mod, class_with, window_class, classes_of, class_of, layout_of}
use Rattle.lattice.specs.Position.{size_to, position}
use Rattle.lattice.specs.Digits.{words_in, words_below, digits_below}
use Rattle.lattice.specs.Window.{InWindow}
use Rattle.lattice.specs.theorems.Examples.{sized}
use Rattle.lattice.proofs.theory.Bools.{and_left, and_right, or_cases}
use Rattle.lattice.proofs.examples.ThreeCells.{Among, cluster_of_three, at_most_three}
use Rattle.lattice.proofs.examples.Windows.{window_field, window_accepted, window_rules, edge_hangs, beside_hangs, patch_field}
use Rattle.lattice.proofs.examples.Windows.{patch_accepted, patch_rules, patch_square, OfDiagonal, diagonal_patch, diagonal_few}
use Rattle.codec.specs.Field.{field_of}
use Rattle.codec.specs.Plan.{plan_cells, plan_digits}
use Rattle.codec.proofs.theory.AllBelow.{below_all}
use Rattle.codec.proofs.theory.ClusterCells.{one_of_cluster}
use Rattle.levels.specs.Level.{Levels, is_level, levels_ok}
use Rattle.levels.specs.Faults.{multiplier, IsFault, effect, faults, fault_of, change}
use Rattle.levels.specs.Words.{slot, in_word, word, is_of, share, weighted, remainder, LawfulLevels}
use Rattle.levels.specs.Restored.{change_at, restores, fits, levels_in_reach}
use Rattle.levels.specs.Payload.{holds_digit, digit_rank, digit_field, check_for, encoded_levels, CarriesDigits}
use Rattle.levels.specs.Encode.{Writable, encoded_levels_field, encode_levels_number}
use Rattle.levels.specs.Decode.{levels_number, decode_levels_number}
use Rattle.levels.specs.Correct.{correct_levels_number}
use Rattle.levels.specs.Reach.{ReadableLevels, FromLawful, NoWordInReach}
use Rattle.levels.specs.Damage.{ChangedIn, OneOfEachClass, LevelsRecovered}
use Rattle.levels.specs.theorems.Examples.{seven, five_zeros}
use Rattle.levels.proofs.theory.LevelTests.{ok_levels}
use Rattle.levels.proofs.theorems.Reading.{decode_levels_meaning}
use Rattle.levels.proofs.theorems.Recovery.{levels_recovery, levels_window_recovery, levels_patch_recovery}
use Rattle.levels.proofs.theorems.Writing.{encode_levels_meaning, encode_levels_done}

-- a fault: the sixth cell darkened by 3 leaves 21 × 3, which is 13 modulo 25
pub sixth_darkened : IsFault 5 4
sixth_darkened = record { cell = lit< tt; low = lit< tt; some = λ (e : ◌≡◌ {A = ℕ} 4 1). omega arith }

pub leaves_thirteen : effect 5 4 ≡ 13
unfolding effect multiplier
leaves_thirteen = refl

-- 6 by 5 of strength 3, and 25 digits
abbrev pub field : Shape
field = sized 6 5 1 3

abbrev pub digits : List ℕ
digits =
    1 ∷ 2 ∷ 3 ∷ 4 ∷ 5 ∷ 6 ∷ 7 ∷ 8 ∷ 9 ∷ 10 ∷ 11 ∷ 12 ∷ 13 ∷ 14 ∷ 15 ∷ 16 ∷ 17 ∷ 18 ∷ 19 ∷ 20 ∷ 21 ∷ 22 ∷ 23 ∷ 24 ∷ 0 ∷ []

-- a list of levels
levels_of : (bytes : List ℕ) → levels_ok (field_of bytes) (length bytes) ≡ true → Levels (field_of bytes) (length bytes)
levels_of bytes e = ok_levels (field_of bytes) (length bytes) e

pub writable : Writable field digits
unfolding
    shape_number size_ok strength_ok window_ok is_none max_strength in_range plan_digits digits_below words_below words_in
    size_to cell_at
    class_of classes_of class_with minus_mod settings_for flat_settings odd_settings levels_ok is_level
writable = record { accepted = refl; long = refl; digits = levels_of digits refl }

abbrev pub written : List ℕ
written = encoded_levels_field field digits

pub written_lawful : LawfulLevels (layout_of field) (field_of written)
written_lawful = encode_levels_meaning.lawful field digits writable

pub written_carries : CarriesDigits (layout_of field) (field_of written) digits
written_carries = encode_levels_meaning.carries field digits writable

-- it is written into a buffer of its length
pub written_number : encode_levels_number field digits written ≡ 0
written_number = encode_levels_done.written field digits written writable (encode_levels_meaning.long field digits)

-- its first cell belongs to a word, and there are five words
pub first_in_word : in_word (layout_of field) 0 ≡ true
unfolding
    in_word words_in size_to position cell_at class_of classes_of class_with minus_mod settings_for flat_settings odd_settings
first_in_word = refl

pub five_words : words_below (layout_of field) 5 ≡ 5
unfolding
    words_below words_in size_to cell_at class_of classes_of class_with minus_mod settings_for flat_settings odd_settings
five_words = refl

-- an empty payload and an empty field are refused
pub encode_refused_lem : encode_levels_number seven [] [] ≢ 0
unfolding
    encode_levels_number plan_digits plan_cells shape_number size_ok strength_ok window_ok is_none max_strength in_range
    digits_below words_below words_in size_to cell_at class_of classes_of class_with minus_mod settings_for flat_settings
    odd_settings
encode_refused_lem e = omega (arith, e)

pub decode_refused_lem : decode_levels_number seven [] [] ≢ 0
unfolding
    decode_levels_number plan_digits plan_cells shape_number size_ok strength_ok window_ok is_none max_strength in_range
    digits_below words_below words_in size_to cell_at class_of classes_of class_with minus_mod settings_for flat_settings
    odd_settings
decode_refused_lem e = omega (arith, e)

pub correct_refused_lem : correct_levels_number seven [] ≢ 0
unfolding correct_levels_number plan_cells shape_number size_ok strength_ok window_ok is_none max_strength in_range
correct_refused_lem e = omega (arith, e)

-- a field of levels in which no cell but those with three byte numbers differs from F, and each by −1 to +3
test : (ℕ → ℕ) → (ℕ → ℕ) → ℕ → ℕ → ℕ → ℕ → Bool
test f g a b c i =
    is_level (g i)
    && (leb (f i) (g i + 1) && (leb (g i) (f i + 3) && (eqb (g i) (f i) || (eqb i a || (eqb i b || eqb i c)))))

module _ (s : Shape) (S : Cell → Type 0) (F G : List ℕ) (a b c : ℕ) (in-a : S (cell_at s a)) (in_b : S (cell_at s b))
    (in_c : S (cell_at s c)) (tested : all_below (test (field_of F) (field_of G) a b c) (cells_of s) ≡ true) where
  at : (i : ℕ) → i < cells_of s → test (field_of F) (field_of G) a b c i ≡ true
  at i l = below_all (test (field_of F) (field_of G) a b c) (cells_of s) tested i l

  chosen : (i : ℕ) → (eqb i a || (eqb i b || eqb i c)) ≡ true → S (cell_at s i)
  chosen i e =
      ⊎_elim
      (λ (p : eqb i a ≡ true). there a in-a (eqb-true i a p))
      (λ (p : (eqb i b || eqb i c) ≡ true).
      ⊎_elim
      (λ (q : eqb i b ≡ true). there b in_b (eqb-true i b q))
      (λ (q : eqb i c ≡ true). there c in_c (eqb-true i c q))
      (or_cases (eqb i b) (eqb i c) p))
      (or_cases (eqb i a) (eqb i b || eqb i c) e)
    where
      there : (j : ℕ) → S (cell_at s j) → i ≡ j → S (cell_at s i)
      there j x p = subst⁻¹ (λ (k : ℕ). S (cell_at s k)) p x

  changed_in : length G ≡ cells_of s → ChangedIn s S F G
  unfolding test is_level
  changed_in long =
      record {
        long = long;
        levels = λ i l. leb-true (field_of G i) 24 (and_left (leb (field_of G i) 24) _ (at i l));
        inside = λ i l d.
            chosen i (⊎_elim (λ (e : eqb (field_of G i) (field_of F i) ≡ true). absurd (d (eqb-true _ _ e))) (λ e. e)
            (or_cases (eqb (field_of G i) (field_of F i)) _ (last i l)));
        within = λ i l. (
          leb-true (field_of F i) (field_of G i + 1) (and_left _ _ (rest i l)),
          leb-true (field_of G i) (field_of F i + 3) (and_left _ _ (more i l)),
        );
      }
    where
      rest : (i : ℕ) → i < cells_of s
          → (leb (field_of F i) (field_of G i + 1) && (leb (field_of G i) (field_of F i + 3)
          && (eqb (field_of G i) (field_of F i) || (eqb i a || (eqb i b || eqb i c))))) ≡ true
      rest i l = and_right (leb (field_of G i) 24) _ (at i l)

      more : (i : ℕ) → i < cells_of s
          → (leb (field_of G i) (field_of F i + 3) && (eqb (field_of G i) (field_of F i) || (eqb i a || (eqb i b || eqb i c))))
          ≡ true
      more i l = and_right (leb (field_of F i) (field_of G i + 1)) _ (rest i l)

      last : (i : ℕ) → i < cells_of s → (eqb (field_of G i) (field_of F i) || (eqb i a || (eqb i b || eqb i c))) ≡ true
      last i l = and_right (leb (field_of G i) (field_of F i + 3)) _ (more i l)

-- the first three cells, which are joined in a row, changed by +3, −1 and +2
abbrev pub OfRow : Cell → Type 0
OfRow = Among (cell 0 0 0) (cell 0 0 1) (cell 0 0 2)

in_field : (c : ℕ) → T (ltb c 6) → InField field (cell 0 0 c)
in_field c h = record { row = lit< tt; plane = lit< tt; column = lit< h }

pub row_cluster : Cluster field OfRow
unfolding apart
row_cluster =
    cluster_of_three field (cell 0 0 0) (cell 0 0 1) (cell 0 0 2) (by_column refl refl refl) (by_column refl refl refl)
    (in_field 0 tt) (in_field 1 tt) (in_field 2 tt)

pub row_few : AtMost field.strength OfRow
row_few = at_most_three (cell 0 0 0) (cell 0 0 1) (cell 0 0 2)

abbrev pub damaged : List ℕ
damaged =
    19 ∷ 18 ∷ 10 ∷ 17 ∷ 1 ∷ 1 ∷ 2 ∷ 3 ∷ 4 ∷ 5 ∷ 6 ∷ 7 ∷ 8 ∷ 9 ∷ 10 ∷
    11 ∷ 12 ∷ 13 ∷ 14 ∷ 15 ∷ 16 ∷ 17 ∷ 18 ∷ 19 ∷ 20 ∷ 21 ∷ 22 ∷ 23 ∷ 24 ∷ 0 ∷ []

pub row_changed : ChangedIn field OfRow written damaged
unfolding
    test is_level encoded_levels_field encoded_levels digit_field check_for weighted share is_of in_word word slot position
    multiplier holds_digit digit_rank words_below words_in size_to cell_at class_of class_with minus_mod
    settings_for flat_settings odd_settings
row_changed =
    changed_in field OfRow written damaged 0 1 2 (Memᴰ.head refl) (Memᴰ.tail (Memᴰ.head refl))
    (Memᴰ.tail (Memᴰ.tail (Memᴰ.head refl))) refl refl

-- at most one of them is of each class, and the digits and the field come back
pub row_one : OneOfEachClass field OfRow
row_one = one_of_cluster field writable.accepted OfRow row_cluster row_few

pub row_recovered : LevelsRecovered field digits written damaged digits
row_recovered = levels_recovery field digits writable OfRow row_cluster row_few damaged row_changed digits writable.long

-- the changed field can be read, and comes from the field that its reading finds
pub damaged_readable : ReadableLevels field damaged
damaged_readable = record { accepted = writable.accepted; long = row_changed.long; levels = row_changed.levels }

pub damaged_from : (g : ℕ → ℕ) × FromLawful field (field_of damaged) g
damaged_from =
    (decode_levels_meaning field digits damaged damaged_readable writable.long).success.0 row_recovered.decoded_number

-- of 7 by 1 of strength 1, a word that would come from a level of 25
abbrev pub high : List ℕ
high = 24 ∷ 0 ∷ 0 ∷ 0 ∷ 0 ∷ 0 ∷ 0 ∷ []

pub seven_digits : length five_zeros ≡ plan_digits seven
unfolding
    plan_digits shape_number size_ok strength_ok window_ok is_none max_strength in_range digits_below words_below words_in
    size_to cell_at
    class_of classes_of class_with minus_mod settings_for flat_settings odd_settings
seven_digits = refl

pub none_readable : ReadableLevels seven high
unfolding shape_number size_ok strength_ok window_ok is_none max_strength in_range levels_ok is_level
none_readable = record { accepted = refl; long = refl; levels = levels_of high refl }

pub none_in_reach : NoWordInReach seven (field_of high)
unfolding
    decode_levels_number plan_cells plan_digits shape_number size_ok strength_ok window_ok is_none max_strength in_range
    digits_below words_below words_in size_to position cell_at class_of classes_of class_with minus_mod
    settings_for flat_settings odd_settings levels_number levels_ok is_level
    levels_in_reach fits restores change_at change fault_of faults effect multiplier remainder weighted share is_of in_word word
    slot
none_in_reach = (decode_levels_meaning seven five_zeros high none_readable seven_digits).none.0 refl

-- 7 by 5 with a window of 2 rows and 3 columns: the window that hangs over two edges has the first two cells
abbrev pub window_digits : List ℕ
window_digits =
    3 ∷ 10 ∷ 17 ∷ 24 ∷ 6 ∷ 13 ∷ 20 ∷ 2 ∷ 9 ∷ 16 ∷ 23 ∷ 5 ∷ 12 ∷ 19 ∷ 1 ∷ 8 ∷ 15 ∷ 22 ∷ 4 ∷ 11 ∷ []

pub window_writable : Writable window_field window_digits
unfolding
    shape_number size_ok strength_ok window_ok is_none in_range plan_digits digits_below words_below words_in size_to cell_at
    class_of classes_of window_class levels_ok is_level
window_writable = record { accepted = window_accepted; long = refl; digits = levels_of window_digits refl }

abbrev pub window_damaged : List ℕ
window_damaged =
    12 ∷ 14 ∷ 23 ∷ 3 ∷ 10 ∷ 17 ∷ 24 ∷ 24 ∷ 0 ∷ 0 ∷ 6 ∷ 0 ∷ 0 ∷ 13 ∷ 20 ∷ 2 ∷ 9 ∷ 16 ∷
    23 ∷ 5 ∷ 12 ∷ 19 ∷ 0 ∷ 0 ∷ 1 ∷ 0 ∷ 0 ∷ 8 ∷ 0 ∷ 15 ∷ 22 ∷ 0 ∷ 4 ∷ 11 ∷ 0 ∷ []

pub window_changed :
    ChangedIn window_field (InWindow window_field.window (negsuc 0) (negsuc 0)) (encoded_levels_field window_field window_digits)
    window_damaged
unfolding
    test is_level encoded_levels_field encoded_levels digit_field check_for weighted share is_of in_word word slot position
    multiplier holds_digit digit_rank words_below words_in size_to cell_at class_of window_class
window_changed =
    changed_in window_field (InWindow window_field.window (negsuc 0) (negsuc 0)) (encoded_levels_field window_field window_digits)
    window_damaged 0 1 1 edge_hangs beside_hangs beside_hangs refl refl

pub window_recovered :
    LevelsRecovered window_field window_digits (encoded_levels_field window_field window_digits) window_damaged window_digits
window_recovered =
    levels_window_recovery window_field window_digits window_writable window_rules (negsuc 0) (negsuc 0) window_damaged
    window_changed window_digits window_writable.long

-- 7 by 5 with a window of 3 by 3: a patch of three cells along a diagonal, of which the first two are ignored
abbrev pub patch_digits : List ℕ
patch_digits = 3 ∷ 10 ∷ 17 ∷ 24 ∷ 6 ∷ 13 ∷ 20 ∷ 2 ∷ 9 ∷ 16 ∷ []

pub patch_writable : Writable patch_field patch_digits
unfolding
    shape_number size_ok strength_ok window_ok is_none in_range plan_digits digits_below words_below words_in size_to cell_at
    class_of classes_of window_class levels_ok is_level
patch_writable = record { accepted = patch_accepted; long = refl; digits = levels_of patch_digits refl }

abbrev pub patch_damaged : List ℕ
patch_damaged =
    6 ∷ 0 ∷ 0 ∷ 3 ∷ 0 ∷ 0 ∷ 10 ∷ 19 ∷ 3 ∷ 0 ∷ 17 ∷ 0 ∷ 0 ∷ 24 ∷ 0 ∷ 0 ∷ 1 ∷ 0 ∷ 0 ∷ 0 ∷ 0 ∷
    6 ∷ 0 ∷ 0 ∷ 15 ∷ 0 ∷ 0 ∷ 20 ∷ 2 ∷ 0 ∷ 0 ∷ 9 ∷ 0 ∷ 0 ∷ 16 ∷ []

pub patch_changed : ChangedIn patch_field OfDiagonal (encoded_levels_field patch_field patch_digits) patch_damaged
unfolding
    test is_level encoded_levels_field encoded_levels digit_field check_for weighted share is_of in_word word slot position
    multiplier holds_digit digit_rank words_below words_in size_to cell_at class_of window_class
patch_changed =
    changed_in patch_field OfDiagonal (encoded_levels_field patch_field patch_digits) patch_damaged 8 16 24 (Memᴰ.head refl)
    (Memᴰ.tail (Memᴰ.head refl)) (Memᴰ.tail (Memᴰ.tail (Memᴰ.head refl))) refl refl

pub patch_recovered :
    LevelsRecovered patch_field patch_digits (encoded_levels_field patch_field patch_digits) patch_damaged patch_digits
patch_recovered =
    levels_patch_recovery patch_field patch_digits patch_writable patch_rules 3 patch_square OfDiagonal diagonal_patch
    diagonal_few
    patch_damaged patch_changed patch_digits patch_writable.long
