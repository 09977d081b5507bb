-- Erased cells listed class by class, two of each class at most: with one cell more, and whether a class has too many.
use Prim.Native.Nat.{ℕ, zero, suc, ◌+◌, ◌<◌, ◌≤◌}
use mathlib.Core.Bool.{true, false}
use mathlib.Core.List.{List}
use mathlib.Core.Logic.{◌≢◌, inl, inr}
use mathlib.Core.Path.{◌≡◌, refl, sym, subst, ◌∙◌}
use native.Mathlib.Decide.{ℕ_discrete}
use native.Mathlib.Nat.{le_refl, lt_of_lt_of_le}
use native.Mathlib.Omega.{arith}
use lib.Dec.{eqb, leb}
use lib.ListN.{get_or}
use borrow.Author.Tests.{eq-eqb, ne_eqb, le-leb}
use Rattle.lattice.specs.declared.shape.Shape.{Shape}
use Rattle.lattice.specs.Shape.{max_cells, max_classes, Accepted, cells_of}
use Rattle.lattice.specs.Class.{classes_of, layout_of}
use Rattle.lattice.specs.Position.{Layout}
use Rattle.lattice.specs.Listing.{no_cell}
use Rattle.lattice.specs.Sizes.{EntryStored}
use Rattle.lattice.proofs.theory.Bools.{and_true, and_false_left, and_false_right, not_true}
use Rattle.lattice.proofs.theory.Placements.{classes_limit}
use Rattle.lattice.proofs.theory.Counting.{count_yes, count_no, count_mono}
use Rattle.codec.specs.Field.{Field, Cells, erased}
use Rattle.codec.specs.Erasure.{erasures_to, erasures, few_erasures}
use Rattle.codec.specs.Code.{field_few_erasures}
use Rattle.codec.specs.Working.{HoldsNone, IsErasure, ErasuresAre, ListsErasures}
use Rattle.codec.proofs.theory.AllBelow.{all_below_lem}
use Rattle.codec.proofs.theory.ErasedCells.{erasure_test}
use Rattle.codec.proofs.theory.NearestField.{cells_few}
use Rattle.codec.proofs.theory.FieldTests.{tested_few}

module _ (L : Layout) (f : Field) where
  -- at the start no cell is listed
  pub lists_none : (first second : List ℕ) → HoldsNone first → HoldsNone second → ListsErasures L f 0 first second
  unfolding erasures_to
  lists_none first second p q = record { at = λ a l. inl (refl, p.at a l, q.at a l) }

  -- no class has more than two
  few_listed : (a n u v : ℕ) → ErasuresAre L f a n u v → erasures_to L f a n ≤ 2
  few_listed a n u v (inl p) = omega (arith, p.0)
  few_listed a n u v (inr (inl p)) = omega (arith, p.0)
  few_listed a n u v (inr (inr p)) = omega (arith, p.0)

  later : (a n u : ℕ) → IsErasure L f a n u → IsErasure L f a (n + 1) u
  later a n u p = record { below = omega (arith, p.below); class = p.class; value = p.value }

  -- what is listed of a class stays where cell n is no erasure of it
  are_kept : (a n u v : ℕ) → erasure_test L f a n ≡ false → ErasuresAre L f a n u v → ErasuresAre L f a (n + 1) u v
  unfolding erasures_to
  are_kept a n u v e (inl p) = inl (count_no (erasure_test L f a) n e ∙ p.0, p.1, p.2)
  are_kept a n u v e (inr (inl p)) = inr (inl (count_no (erasure_test L f a) n e ∙ p.0, later a n u p.1, p.2))
  are_kept a n u v e (inr (inr p)) =
      inr (inr (count_no (erasure_test L f a) n e ∙ p.0, later a n u p.1, later a n v p.2, p.3))

  -- a cell that was read
  pub lists_read : (n : ℕ) (first second : List ℕ) → f n ≢ erased → ListsErasures L f n first second
      → ListsErasures L f (n + 1) first second
  lists_read n first second d p =
      record { at = λ a l. are_kept a n _ _ (and_false_right (eqb (L.class n) a) _ (ne_eqb (f n) erased d)) (p.at a l) }

  -- as many cells that were read
  pub lists_stretch : (k n : ℕ) (first second : List ℕ) → ((d : ℕ) → d < k → f (n + d) ≢ erased)
      → ListsErasures L f n first second → ListsErasures L f (n + k) first second
  lists_stretch zero n first second d p = subst (λ (m : ℕ). ListsErasures L f m first second) (omega arith) p
  lists_stretch (suc k) n first second d p =
      let before = lists_stretch k n first second (λ x l. d x (omega arith)) p in
      let more = lists_read (n + k) first second (d k (le_refl _)) before in
      subst (λ (m : ℕ). ListsErasures L f m first second) (omega arith) more

  -- cell n is an erasure of class a
  module _ (a n : ℕ) (small : n < max_cells) (own : L.class n ≡ a) (lost : f n ≡ erased) where
    one_more : erasures_to L f a (n + 1) ≡ erasures_to L f a n + 1
    unfolding erasures_to
    one_more =
        count_yes (erasure_test L f a) n
        (and_true (eqb (L.class n) a) _ (eq-eqb (L.class n) a own) (eq-eqb (f n) erased lost))

    here : IsErasure L f a (n + 1) n
    here = record { below = omega arith; class = own; value = lost }

    are_first : (u v : ℕ) → u ≡ no_cell → ErasuresAre L f a n u v → ErasuresAre L f a (n + 1) n v
    are_first u v e (inl p) = inr (inl (omega (arith, one_more, p.0), here, p.2))
    are_first u v e (inr (inl p)) = absurd (omega (arith, p.1.below))
    are_first u v e (inr (inr p)) = absurd (omega (arith, p.1.below))

    are_second : (u v : ℕ) → u ≢ no_cell → v ≡ no_cell → ErasuresAre L f a n u v → ErasuresAre L f a (n + 1) u n
    are_second u v d e (inl p) = absurd (d p.1)
    are_second u v d e (inr (inl p)) = inr (inr (omega (arith, one_more, p.0), later a n u p.1, here, p.1.below))
    are_second u v d e (inr (inr p)) = absurd (omega (arith, p.2.below))

    are_many : (u v : ℕ) → u ≢ no_cell → v ≢ no_cell → ErasuresAre L f a n u v → 3 ≤ erasures_to L f a (n + 1)
    are_many u v d e (inl p) = absurd (d p.1)
    are_many u v d e (inr (inl p)) = absurd (e p.2)
    are_many u v d e (inr (inr p)) = omega (arith, one_more, p.0)

    module _ (first second : List ℕ) (p : ListsErasures L f n first second) where
      -- another class
      lists_other : (b : ℕ) → b < max_classes → b ≢ a → ErasuresAre L f b (n + 1) (get_or first b 0) (get_or second b 0)
      lists_other b l d =
          are_kept b n _ _ (and_false_left (eqb (L.class n) b) _ (ne_eqb (L.class n) b (λ e. d (sym e ∙ own)))) (p.at b l)

      pub lists_first : (now : List ℕ) → EntryStored first now a n → get_or first a 0 ≡ no_cell
          → ListsErasures L f (n + 1) now second
      lists_first now stored e = record { at = λ b l. go b l (ℕ_discrete b a) }
        where
          go : (b : ℕ) → b < max_classes → Dec (b ≡ a) → ErasuresAre L f b (n + 1) (get_or now b 0) (get_or second b 0)
          go b l (yes q) = rw q (rw stored.own (are_first _ _ e (p.at a (rw q at l))))
          go b l (no d) = rw (stored.others b d) (lists_other b l d)

      pub lists_second : (now : List ℕ) → EntryStored second now a n → get_or first a 0 ≢ no_cell → get_or second a 0 ≡ no_cell
          → ListsErasures L f (n + 1) first now
      lists_second now stored d e = record { at = λ b l. go b l (ℕ_discrete b a) }
        where
          go : (b : ℕ) → b < max_classes → Dec (b ≡ a) → ErasuresAre L f b (n + 1) (get_or first b 0) (get_or now b 0)
          go b l (yes q) = rw q (rw stored.own (are_second _ _ d e (p.at a (rw q at l))))
          go b l (no x) = rw (stored.others b x) (lists_other b l x)

      pub lists_full : a < max_classes → get_or first a 0 ≢ no_cell → get_or second a 0 ≢ no_cell → 3 ≤ erasures_to L f a (n + 1)
      lists_full l d e = are_many _ _ d e (p.at a l)

module _ (s : Shape) (accepted : Accepted s) (f : Field) where
  -- the test of the erasures passes where each class has at most two
  few_true : ((a : ℕ) → a < classes_of s → erasures (layout_of s) f a ≤ 2) → field_few_erasures s f ≡ true
  unfolding few_erasures
  few_true p =
      all_below_lem (λ a. leb (erasures (layout_of s) f a) 2) (classes_of s) (λ a l. le-leb (erasures (layout_of s) f a) 2
      (p a l))

  -- as where no cell is erased, and where all erasures are listed
  pub plain_few : Cells f (cells_of s) → field_few_erasures s f ≡ true
  plain_few p = few_true (λ a l. cells_few (layout_of s) f p a)

  pub listed_few : (first second : List ℕ) → ListsErasures (layout_of s) f (cells_of s) first second → field_few_erasures s f
      ≡ true
  listed_few first second p =
      few_true (λ a l.
      few_listed (layout_of s) f a (cells_of s) _ _ (p.at a (lt_of_lt_of_le l (classes_limit s accepted))))

  -- and fails where a class has three already
  pub three_many : (a n : ℕ) → n ≤ cells_of s → 3 ≤ erasures_to (layout_of s) f a n → field_few_erasures s f ≡ false
  unfolding erasures_to
  three_many a n l p =
      not_true (field_few_erasures s f) (λ few.
      omega (arith, tested_few s accepted f few a, count_mono (erasure_test (layout_of s) f a) n (cells_of s) l))
