-- The cells that correction flips in a field of an accepted shape where 0 stands in each erased cell, as the arrays have them.
use Prim.Native.Nat.{ℕ, ◌+◌, ◌<◌, ◌≤◌}
use mathlib.Core.List.{List}
use mathlib.Core.Path.{◌≡◌, refl, sym, ap₂, ◌∙◌}
use native.Mathlib.Nat.{lt_of_lt_of_le}
use lib.ListN.{get_or}
use Rattle.lattice.specs.declared.shape.Shape.{Shape}
use Rattle.lattice.specs.Shape.{max_classes, Accepted, cells_of}
use Rattle.lattice.specs.Class.{classes_of, layout_of}
use Rattle.lattice.specs.Counting.{count}
use Rattle.lattice.specs.Listing.{no_cell, CellsAt}
use Rattle.lattice.proofs.theory.Counting.{bit, count_sum, sum_same, sum_add}
use Rattle.lattice.proofs.theory.Limits.{legal}
use Rattle.lattice.proofs.theory.Positions.{sum_classes}
use Rattle.lattice.proofs.theory.Placements.{classes_limit}
use Rattle.codec.specs.Field.{field_of, Cells, Received, erased, having, differences}
use Rattle.codec.specs.Hamming.{syndrome}
use Rattle.codec.specs.Erasure.{is_erased, erasures_to, erasures, erased_sum}
use Rattle.codec.specs.Code.{tags_at}
use Rattle.codec.specs.Decode.{corrected_count}
use Rattle.codec.specs.Packing.{flipped_by}
use Rattle.codec.specs.Working.{HoldsSyndromes, HoldsNone, ListsErasures, kept_cell, damaged_cell, names, Located}
use Rattle.codec.proofs.theory.Accepted.{class_at_below}
use Rattle.codec.proofs.theory.CellValues.{cells_received}
use Rattle.codec.proofs.theory.Syndrome.{having_syndrome}
use Rattle.codec.proofs.theory.Tags.{tags_tell}
use Rattle.codec.proofs.theory.NearestField.{cells_read}
use Rattle.codec.proofs.theory.LocatedClass.{LocatedIn, Tagged, differs_at, given_tagged, located_none}
use Rattle.codec.proofs.theory.LocatedErasures.{located_in}

module _ (s : Shape) (accepted : Accepted s) (field : List ℕ) where
  fits : cells_of s ≤ no_cell
  fits = (legal s accepted).product

  few : (a : ℕ) → a < classes_of s → a < max_classes
  few a l = lt_of_lt_of_le l (classes_limit s accepted)

  -- where the entries of each class name what correction flips of it, the arrays do of the field
  module _ (damaged first second : List ℕ)
      (each : (a : ℕ) → a < classes_of s
      → LocatedIn (layout_of s) (tags_at s) (field_of field) a (get_or damaged a 0) (get_or first a 0) (get_or second a 0)) where
    all_counted : count (names damaged) (classes_of s) + count (is_erased (field_of field)) (cells_of s)
        ≡ corrected_count s (field_of field)
    unfolding corrected_count differences erasures_to
    all_counted =
        ap₂ ◌+◌ (sym (count_sum (names damaged) (classes_of s)))
        (sym (sum_classes (layout_of s) (is_erased (field_of field)) (classes_of s) (cells_of s) (class_at_below s accepted)))
        ∙ sym (sum_add (λ a. bit (names damaged a)) (λ a. erasures (layout_of s) (field_of field) a) (classes_of s))
        ∙ sum_same _ _ (classes_of s) (λ a l. (each a l).counted)
        ∙ sum_classes (layout_of s) (differs_at (layout_of s) (tags_at s) (field_of field)) (classes_of s) (cells_of s)
        (class_at_below s accepted)

    located : Located s field damaged first second
    unfolding flipped_by
    located =
        record {
          damaged_named = record { class = λ a l. (each a l).damaged_class };
          first_named = record { class = λ a l. (each a l).first_class };
          second_named = record { class = λ a l. (each a l).second_class };
          corrects = λ i l. (each ((layout_of s).class i) (class_at_below s accepted i l)).corrects i l refl;
          counted = all_counted;
          reaches = λ a l. (each a l).reaches;
        }

  -- the arrays of syndromes, and of the cells that have them as their positions
  module _ (syndromes cells : List ℕ) (held : HoldsSyndromes (layout_of s) (having 1 (field_of field)) syndromes (cells_of s))
      (at : CellsAt (layout_of s) (classes_of s) syndromes cells) where
    own : (a : ℕ) → a < classes_of s → get_or syndromes a 0 ≡ syndrome (layout_of s) (tags_at s) (field_of field) a
    own a l = held.at a (few a l) ∙ having_syndrome (layout_of s) (tags_at s) (field_of field) a (cells_of s)

    tagged : (a : ℕ) → a < classes_of s
        → Tagged (layout_of s) (tags_at s) a (syndrome (layout_of s) (tags_at s) (field_of field) a) (get_or cells a 0)
    tagged a l = given_tagged (layout_of s) a _ _ (rw (own a l) at (at.at a l))

    -- a field of cells, of which no cell is erased
    pub located_plain : Cells (field_of field) (cells_of s) → (first second : List ℕ) → HoldsNone first → HoldsNone second
        → Located s field cells first second
    located_plain plain first second none none' =
        located cells first second
        (λ a l.
        rw (none.at a (few a l), none'.at a (few a l))
        (located_none (tags_tell (layout_of s)) fits (field_of field) (cells_received _ _ plain) a
        (cells_read (layout_of s) (field_of field) plain a) (get_or cells a 0) (tagged a l)))

    -- a received field, with at most two erasures in each class
    pub located_listed : Received (field_of field) (cells_of s) → (sums first second damaged kept-first kept_second : List ℕ)
        → HoldsSyndromes (layout_of s) (having erased (field_of field)) sums (cells_of s)
        → ListsErasures (layout_of s) (field_of field) (cells_of s) first second
        → ((a : ℕ) → a < classes_of s → get_or damaged a 0 ≡ damaged_cell (get_or first a 0) (get_or cells a 0))
        → ((a : ℕ) → a < classes_of s
        → get_or kept-first a 0 ≡ kept_cell (get_or syndromes a 0) (get_or sums a 0) (get_or cells a 0) (get_or first a 0))
        → ((a : ℕ) → a < classes_of s
        → get_or kept_second a 0 ≡ kept_cell (get_or syndromes a 0) (get_or sums a 0) (get_or cells a 0) (get_or second a 0))
        → Located s field damaged kept-first kept_second
    unfolding erased_sum
    located_listed received sums first second damaged kept-first kept_second summed listed d u v =
        located damaged kept-first kept_second
        (λ a l.
        rw (d a l, u a l, v a l, own a l, summed.at a (few a l))
        (located_in (tags_tell (layout_of s)) fits (field_of field) received a (get_or cells a 0) (tagged a l) (get_or first a 0)
        (get_or second a 0) (listed.at a (few a l))))
