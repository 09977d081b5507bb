-- What correction flips in a class with erasures where 0 stands in each erased cell, for any layout of cells in classes and any
-- tags that tell them: the erased cells that are to be 1.
use Prim.Native.Nat.{ℕ, ◌<◌, ◌≤◌}
use mathlib.Core.Bool.{◌&&◌}
use mathlib.Core.Logic.{◌≢◌, ◌⊎◌, inl, inr, ⊎_elim}
use mathlib.Core.Path.{◌≡◌, refl, sym, ap, ◌∙◌}
use native.Mathlib.Decide.{ℕ_discrete}
use native.Mathlib.Nat.{zero-add}
use native.Mathlib.Omega.{arith}
use lib.Bits.{bit_xor}
use lib.Dec.{eqb}
use borrow.Author.Tests.{eq-eqb, ne_eqb}
use Rattle.lattice.specs.Position.{Layout}
use Rattle.lattice.specs.Listing.{no_cell}
use Rattle.lattice.proofs.theory.Counting.{count_same}
use Rattle.codec.specs.Field.{Field, Received, erased, having}
use Rattle.codec.specs.Hamming.{Tags, Tells, syndrome, Codeword}
use Rattle.codec.specs.Erasure.{is_erased, erasures_to, erasures, erased_sum, filled, corrected}
use Rattle.codec.specs.Working.{IsErasure, ErasuresAre, kept_cell, damaged_cell}
use Rattle.codec.proofs.theory.CellValues.{cell_most, having_other, having_read}
use Rattle.codec.proofs.theory.Syndrome.{syndrome_same}
use Rattle.codec.proofs.theory.ErasedCells.{Alone, Pair, alone, pair, alone_sum, pair_sum}
use Rattle.codec.proofs.theory.KeptCell.{kept_all, kept_tagged, kept_neither, kept_own, kept_nothing}
use Rattle.codec.proofs.theory.FilledClass.{filled_kept, set_own, set_sum, clear}
use Rattle.codec.proofs.theory.FilledClass.{one_reached, one_unreached, two_reached, two_unreached}
use Rattle.codec.proofs.theory.NearestField.{corrected_filled, corrected_cells}
use Rattle.codec.proofs.theory.NamedCells.{flipped_if, flipped_if_there, flipped_if_kept}
use Rattle.codec.proofs.theory.LocatedClass.{LocatedIn, Tagged, differs_at, outside, reach_law, located_none}

-- c is the cell whose tag is the syndrome, or none; of an erased cell x, what is kept
module _ {L : Layout} {tag : Tags} (tells : Tells L tag) (fits : L.cells ≤ no_cell) (f : Field)
    (received : Received f L.cells) (a c : ℕ) (at : Tagged L tag a (syndrome L tag f a) c) where
  abbrev kept : ℕ → ℕ
  kept x = kept_cell (syndrome L tag f a) (erased_sum L tag f a) c x

  -- the syndromes with which an erased cell is to be 1
  abbrev BecomesOne : ℕ → Type 0
  BecomesOne x = (syndrome L tag f a ≡ tag x) ⊎ (syndrome L tag f a ≡ erased_sum L tag f a)

  kept_set : (x : ℕ) → IsErasure L f a L.cells x → BecomesOne x → kept x ≡ x
  kept_set x o (inl e) = kept_tagged _ _ c x (at.only x o.below o.class e)
  kept_set x o (inr e) = kept_all _ _ c x e

  kept_clear : (x : ℕ) → IsErasure L f a L.cells x → ¬ BecomesOne x → kept x ≡ no_cell
  kept_clear x o d =
      kept_neither _ _ c x (λ e. d (inr e))
      (λ e. d (inl (sym (ap tag (sym e) ∙ at.value (λ h. outside L fits x o.below (sym h ∙ e))))))

  set_or_not : (x : ℕ) → Dec (BecomesOne x)
  set_or_not x = go (ℕ_discrete (syndrome L tag f a) (tag x)) (ℕ_discrete (syndrome L tag f a) _)
    where
      go : Dec (syndrome L tag f a ≡ tag x) → Dec (syndrome L tag f a ≡ erased_sum L tag f a) → Dec (BecomesOne x)
      go (yes e) t = yes (inl e)
      go (no d) (yes e) = yes (inr e)
      go (no d) (no e) = no (λ h. ⊎_elim d e h)

  -- so what is kept is the cell exactly with these
  kept_some : (x : ℕ) → IsErasure L f a L.cells x → kept x ≢ no_cell → BecomesOne x
  kept_some x o n = go (set_or_not x)
    where
      go : Dec (BecomesOne x) → BecomesOne x
      go (yes h) = h
      go (no h) = absurd (n (kept_clear x o h))

  kept_none : (x : ℕ) → IsErasure L f a L.cells x → kept x ≡ no_cell → ¬ BecomesOne x
  kept_none x o n h = outside L fits x o.below (sym n ∙ kept_set x o h)

  -- and it is flipped as filling has it
  kept_flipped : (x : ℕ) → IsErasure L f a L.cells x → flipped_if (kept x) x 0 ≡ filled L tag f x
  kept_flipped x o = go (set_or_not x)
    where
      one : BecomesOne x → filled L tag f x ≡ 1
      one (inl e) = set_own L tag f a x o e
      one (inr e) = set_sum L tag f a x o e

      go : Dec (BecomesOne x) → flipped_if (kept x) x 0 ≡ filled L tag f x
      go (yes h) = flipped_if_there (kept x) x 0 (kept_set x o h) ∙ sym (one h)
      go (no h) =
          flipped_if_kept (kept x) x 0 (λ e. outside L fits x o.below (sym (kept_clear x o h) ∙ e))
          ∙ sym (clear L tag f a x o (λ e. h (inl e)) (λ e. h (inr e)))

  -- no other cell is kept in its place
  kept_other : (x i w : ℕ) → i < L.cells → x ≢ i → flipped_if (kept x) i w ≡ w
  kept_other x i w l d = flipped_if_kept (kept x) i w (λ h. d (kept_own _ _ c x i (outside L fits i l) h))

  kept_class : (x : ℕ) → (x < L.cells → IsErasure L f a L.cells x) → kept x < L.cells → L.class (kept x) ≡ a
  kept_class x own l =
      let same = kept_own _ _ c x (kept x) (outside L fits _ l) refl in ap L.class (sym same) ∙ (own (rw same l)).class

  -- x and y, each a cell or none, are its erased cells
  module _ (x y : ℕ) (some : erasures L f a ≢ 0) (first : x < L.cells → IsErasure L f a L.cells x)
      (second : y < L.cells → IsErasure L f a L.cells y) (different : x ≢ y)
      (only : (i : ℕ) → IsErasure L f a L.cells i → (i ≡ x) ⊎ (i ≡ y)) where
    -- they are filled, and nothing else is changed
    here : (i : ℕ) → L.class i ≡ a → corrected L tag f i ≡ filled L tag f i
    here i k = corrected_filled L tag f i (λ e. some (ap (erasures L f) (sym k) ∙ e))

    erased_flipped : (i : ℕ) → i < L.cells → L.class i ≡ a
        → flipped_if (kept y) i (flipped_if (kept x) i (flipped_if no_cell i (having 1 f i))) ≡ corrected L tag f i
    erased_flipped i l k =
        ap (λ (w : ℕ). flipped_if (kept y) i (flipped_if (kept x) i w)) (flipped_if_kept no_cell i _ (outside L fits i l))
        ∙ go (ℕ_discrete (f i) erased)
        ∙ sym (here i k)
      where
        own : f i ≡ erased → IsErasure L f a L.cells i
        own e = record { below = l; class = k; value = e }

        go : Dec (f i ≡ erased) → flipped_if (kept y) i (flipped_if (kept x) i (having 1 f i)) ≡ filled L tag f i
        go (no n) =
            kept_other y i _ l (λ e. n (ap f (sym e) ∙ (second (rw e l)).value))
            ∙ kept_other x i _ l (λ e. n (ap f (sym e) ∙ (first (rw e l)).value))
            ∙ having_read f i (received i l) n
            ∙ sym (filled_kept L tag f i n)
        go (yes e) =
            ap (λ (w : ℕ). flipped_if (kept y) i (flipped_if (kept x) i w)) (having_other 1 f i (λ o. omega arith))
            ∙ ⊎_elim one two (only i (own e))
          where
            one : i ≡ x → flipped_if (kept y) i (flipped_if (kept x) i 0) ≡ filled L tag f i
            one h =
                kept_other y i _ l (λ p. different (sym h ∙ sym p))
                ∙ ap (λ (j : ℕ). flipped_if (kept j) i 0) (sym h)
                ∙ kept_flipped i (own e)

            two : i ≡ y → flipped_if (kept y) i (flipped_if (kept x) i 0) ≡ filled L tag f i
            two h =
                ap (flipped_if (kept y) i) (kept_other x i 0 l (λ p. different (p ∙ h)))
                ∙ ap (λ (j : ℕ). flipped_if (kept j) i 0) (sym h)
                ∙ kept_flipped i (own e)

    erased_differs : (i : ℕ) → i < L.cells → (eqb (L.class i) a && is_erased f i) ≡ (eqb (L.class i) a && differs_at L tag f i)
    erased_differs i l = go (ℕ_discrete (L.class i) a) (ℕ_discrete (f i) erased)
      where
        go : Dec (L.class i ≡ a) → Dec (f i ≡ erased)
            → (eqb (L.class i) a && is_erased f i) ≡ (eqb (L.class i) a && differs_at L tag f i)
        go (no k) e = rw (ne_eqb (L.class i) a k)
        go (yes k) (yes e) =
            let other : f i ≢ corrected L tag f i =
            λ h. omega (arith, h, e, cell_most _ (corrected_cells L tag f received i l)) in
            rw (eq-eqb (f i) erased e, ne_eqb (f i) _ other)
        go (yes k) (no n) =
            rw (ne_eqb (f i) erased n, eq-eqb (f i) _ (sym (here i k ∙ filled_kept L tag f i n)))

    filled_same : syndrome L tag (corrected L tag f) a ≡ syndrome L tag (filled L tag f) a
    filled_same = syndrome_same L tag _ _ a L.cells (λ i l k. here i k)

    -- which is what is flipped, and it is left to say where filling leaves a codeword
    located_erased :
        ((syndrome L tag f a ≡ 0) ⊎ (kept x ≢ no_cell) ⊎ (kept y ≢ no_cell) → Codeword L tag (filled L tag f) a)
        → (syndrome L tag f a ≢ 0 → kept x ≡ no_cell → kept y ≡ no_cell → syndrome L tag (filled L tag f) a ≢ 0)
        → LocatedIn L tag f a no_cell (kept x) (kept y)
    unfolding Codeword erasures_to
    located_erased word other =
        record {
          damaged_class = λ l. absurd (omega arith);
          first_class = kept_class x first;
          second_class = kept_class y second;
          corrects = erased_flipped;
          counted = zero-add _ ∙ count_same _ _ L.cells erased_differs;
          reaches =
              reach_law L tag f a no_cell (kept x) (kept y) (λ h. filled_same ∙ word (fewer h))
              (λ s d u v e. other s u v (sym filled_same ∙ e));
        }
      where
        fewer : (syndrome L tag f a ≡ 0) ⊎ (no_cell ≢ no_cell) ⊎ (kept x ≢ no_cell) ⊎ (kept y ≢ no_cell)
            → (syndrome L tag f a ≡ 0) ⊎ (kept x ≢ no_cell) ⊎ (kept y ≢ no_cell)
        fewer (inl e) = inl e
        fewer (inr (inl n)) = absurd (n refl)
        fewer (inr (inr h)) = inr h

  -- one erased cell, and two
  located_one : (x : ℕ) → erasures L f a ≡ 1 → IsErasure L f a L.cells x → LocatedIn L tag f a no_cell (kept x) (kept no_cell)
  located_one x one o =
      located_erased x no_cell (λ e. omega arith) (λ l. o) (λ l. absurd (omega arith)) (λ e. outside L fits x o.below (sym e))
      (λ i p. inl (lone.only i p)) word other
    where
      lone : Alone L f a x
      lone = alone L f a one x o

      word : (syndrome L tag f a ≡ 0) ⊎ (kept x ≢ no_cell) ⊎ (kept no_cell ≢ no_cell)
          → Codeword L tag (filled L tag f) a
      word (inl e) = one_reached tells f a lone (inl e)
      word (inr (inl n)) =
          one_reached tells f a lone
          (inr (⊎_elim (λ e. e) (λ e. e ∙ alone_sum L tag f a x lone) (kept_some x o n)))
      word (inr (inr n)) = absurd (n (kept_nothing _ _ c))

      other : syndrome L tag f a ≢ 0 → kept x ≡ no_cell → kept no_cell ≡ no_cell → syndrome L tag (filled L tag f) a ≢ 0
      other s u v = one_unreached tells f a lone s (λ e. kept_none x o u (inl e))

  located_two : (x y : ℕ) → erasures L f a ≡ 2 → IsErasure L f a L.cells x → IsErasure L f a L.cells y → x < y
      → LocatedIn L tag f a no_cell (kept x) (kept y)
  located_two x y two o p less =
      located_erased x y (λ e. omega arith) (λ l. o) (λ l. p) different both.only word other
    where
      different : x ≢ y
      different e = omega arith

      both : Pair L f a x y
      both = pair L f a two x y o p different

      sum : erased_sum L tag f a ≡ bit_xor (tag x) (tag y)
      sum = pair_sum L tag f a x y both

      word : (syndrome L tag f a ≡ 0) ⊎ (kept x ≢ no_cell) ⊎ (kept y ≢ no_cell) → Codeword L tag (filled L tag f) a
      word h = two_reached tells f a both (go h)
        where
          go : (syndrome L tag f a ≡ 0) ⊎ (kept x ≢ no_cell) ⊎ (kept y ≢ no_cell)
              → (syndrome L tag f a ≡ 0) ⊎ (syndrome L tag f a ≡ tag x)
              ⊎ (syndrome L tag f a ≡ tag y) ⊎ (syndrome L tag f a ≡ bit_xor (tag x) (tag y))
          go (inl e) = inl e
          go (inr (inl n)) = ⊎_elim (λ e. inr (inl e)) (λ e. inr (inr (inr (e ∙ sum)))) (kept_some x o n)
          go (inr (inr n)) = ⊎_elim (λ e. inr (inr (inl e))) (λ e. inr (inr (inr (e ∙ sum)))) (kept_some y p n)

      other : syndrome L tag f a ≢ 0 → kept x ≡ no_cell → kept y ≡ no_cell → syndrome L tag (filled L tag f) a ≢ 0
      other s u v =
          two_unreached tells f a both s (λ e. kept_none x o u (inl e)) (λ e. kept_none y p v (inl e))
          (λ e. kept_none x o u (inr (e ∙ sym sum)))

  -- a class with at most two erasures
  pub located_in : (x y : ℕ) → ErasuresAre L f a L.cells x y → LocatedIn L tag f a (damaged_cell x c) (kept x) (kept y)
  unfolding damaged_cell
  located_in x y (inl h) =
      rw
      (h.1, h.2, kept_nothing (syndrome L tag f a) (erased_sum L tag f a) c)
      (located_none tells fits f received a h.0 c at)
  located_in x y (inr (inl h)) =
      rw (ne_eqb x no_cell (λ e. outside L fits x h.1.below (sym e)), h.2) (located_one x h.0 h.1)
  located_in x y (inr (inr h)) =
      rw (ne_eqb x no_cell (λ e. outside L fits x h.1.below (sym e))) (located_two x y h.0 h.1 h.2 h.3)
