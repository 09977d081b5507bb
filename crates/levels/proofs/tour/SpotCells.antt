-- The spot of a cell of a tour, from its class and position and the table of words.
use Prim.Native.Nat.{ℕ, ◌+◌, ◌-◌, ◌*◌, ◌/◌, ◌%◌, ◌<◌, ◌≤◌}
use mathlib.Core.Bool.{true}
use mathlib.Core.List.{List}
use mathlib.Core.Path.{◌≡◌, sym, ap, ap₂, ◌∙◌}
use native.Mathlib.Nat.{lt_of_lt_of_le}
use native.Mathlib.Omega.{arith}
use lib.Dec.{leb}
use lib.ListN.{get_or}
use Rattle.lattice.specs.declared.shape.Shape.{Shape}
use Rattle.lattice.specs.Shape.{max_cells, max_classes, Accepted, cells_of}
use Rattle.lattice.specs.Class.{classes_of, class_at, layout_of}
use Rattle.lattice.specs.Position.{size, size_to, position}
use Rattle.lattice.specs.Sizes.{HoldsSizes, EntryStored}
use Rattle.lattice.specs.Digits.{words_in, words_below}
use Rattle.lattice.proofs.theory.Limits.{legal}
use Rattle.lattice.proofs.theory.Placements.{classes_limit}
use Rattle.lattice.proofs.theory.Positions.{position_size, size_own, size_most}
use Rattle.lattice.proofs.theory.Counting.{count_most}
use Rattle.lattice.proofs.theory.Sizes.{sizes_more}
use Rattle.codec.proofs.theory.Accepted.{class_at_below}
use Rattle.levels.specs.declared.spot.Spot.{Spot}
use Rattle.levels.specs.declared.tour.Tour.{Tour}
use Rattle.levels.specs.declared.words.WordTable.{WordTable}
use Rattle.levels.specs.Words.{slot, in_word, word}
use Rattle.levels.specs.Working.{max_words, Laid, AtCell, spot_at, SpotOf}
use Rattle.levels.proofs.theory.TourCells.{tour_class}
use Rattle.levels.proofs.theory.WordCells.{slot_below, word_below, words_cells}

-- six cells for each word, of at most 65,536
module _ (s : Shape) (accepted : Accepted s) where
  words_limit : 6 * words_below (layout_of s) (classes_of s) ≤ max_cells
  words_limit =
      omega (
        arith,
        words_cells (layout_of s) (classes_of s) (class_at_below s accepted),
        count_most (in_word (layout_of s)) (cells_of s),
        (legal s accepted).product,
      )

  word_limit : (i : ℕ) → i < cells_of s → in_word (layout_of s) i ≡ true → word (layout_of s) i < max_words
  word_limit i l e = omega (arith, words_limit, word_below (layout_of s) (classes_of s) i (class_at_below s accepted i l) e)

module _ (s : Shape) (words : WordTable) (laid : Laid s words)
    (y : Tour) (counts : List ℕ) (i : ℕ) (at : AtCell s y counts i) where
  -- the class that the tour gives
  abbrev a : ℕ
  a = y.slice * y.pass.period + y.place

  own : a ≡ class_at s i
  own = tour_class s laid.accepted i y at.toured.tour at.below

  pub class_below : a < max_classes
  class_below =
      rw own (lt_of_lt_of_le (class_at_below s laid.accepted i at.below) (classes_limit s laid.accepted))

  -- the cells before it of its class are fewer than the field has
  pub count_below : get_or counts a 0 < max_cells
  count_below =
      omega (
        arith,
        at.toured.counted.at a class_below,
        size_most (layout_of s) a i,
        at.below,
        (legal s laid.accepted).product,
      )

  -- the counts with the cell
  pub cell_counted : (after : List ℕ) (p : ℕ) → p ≡ get_or counts a 0 + 1 → EntryStored counts after a p
      → HoldsSizes (layout_of s) after (i + 1)
  cell_counted after p q st = sizes_more (layout_of s) counts after i a at.toured.counted own (st.own ∙ q) st.others

  module _ (p : ℕ) (q : p ≡ get_or counts a 0 + 1) where
    pub position_some : 1 ≤ p
    position_some = omega (arith, q)

    place : p ≡ position (layout_of s) i
    place =
        q
        ∙ ap (λ (n : ℕ). n + 1) (at.toured.counted.at a class_below)
        ∙ sym (size_own (layout_of s) a i (sym own))
        ∙ ap (λ (b : ℕ). size_to (layout_of s) b (i + 1)) own
        ∙ sym (position_size (layout_of s) i)

    in_it : leb p (words_in (get_or words.sizes a 0) * 6) ≡ in_word (layout_of s) i
    unfolding in_word
    in_it =
        ap₂ (λ (x y : ℕ). leb x (words_in y * 6)) place
        (laid.sized.at a class_below ∙ ap (λ (b : ℕ). size (layout_of s) b) own)

    which : get_or words.offsets a 0 + (p - 1) / 6 ≡ word (layout_of s) i
    unfolding word
    which =
        ap₂ (λ (x y : ℕ). x + (y - 1) / 6)
        (ap (λ (b : ℕ). get_or words.offsets b 0) own ∙ laid.words (class_at s i) (class_at_below s laid.accepted i at.below))
        place

    where_in : (p - 1) % 6 ≡ slot (layout_of s) i
    unfolding slot
    where_in = ap (λ (x : ℕ). (x - 1) % 6) place

    -- the spot that the arrays give
    pub spot_is : (x : Spot) → x ≡ spot_at p (get_or words.sizes a 0) (get_or words.offsets a 0) → SpotOf s i x
    unfolding spot_at
    spot_is x z =
        let inside : x.inside ≡ in_word (layout_of s) i = ap (λ (y : Spot). y.inside) z ∙ in_it in
        let number : x.word ≡ word (layout_of s) i = ap (λ (y : Spot). y.word) z ∙ which in
        let here : x.slot ≡ slot (layout_of s) i = ap (λ (y : Spot). y.slot) z ∙ where_in in
        record {
          inside = inside;
          word = number;
          slot = here;
          place = rw here (slot_below (layout_of s) i);
          below = λ t. rw number (word_limit s laid.accepted i at.below (sym inside ∙ t));
        }
