-- What correction flips in a class where 0 stands in each erased cell, for any layout of cells in classes and any tags that tell
-- them; in a class with no erasure, the cell whose tag is the syndrome.
use Prim.Native.Nat.{ℕ, ◌+◌, ◌<◌, ◌≤◌}
use mathlib.Core.Bool.{Bool, true, not, ◌&&◌}
use mathlib.Core.Logic.{◌≢◌, ◌⊎◌, inl, inr}
use mathlib.Core.Path.{◌≡◌, refl, sym, ap, subst, ◌∙◌}
use native.Mathlib.Decide.{ℕ_discrete, dec_lt}
use native.Mathlib.Omega.{arith}
use lib.Dec.{eqb}
use borrow.Author.Tests.{eq-eqb, ne_eqb}
use Rattle.lattice.specs.Position.{Layout, size}
use Rattle.lattice.specs.Counting.{count}
use Rattle.lattice.specs.Listing.{no_cell, IsCellAt, CellOrNone}
use Rattle.lattice.proofs.theory.Counting.{bit, count_same, count_none, count_sum, sum_one}
use Rattle.codec.specs.Field.{Field, Received, having}
use Rattle.codec.specs.Hamming.{Tags, Tells, tags_of, syndrome, Codeword, flipped}
use Rattle.codec.specs.Erasure.{erasures, corrected, in_reach}
use Rattle.codec.specs.Working.{reached_by}
use Rattle.codec.proofs.theory.CellValues.{cell_most, read_cell, having_cells}
use Rattle.codec.proofs.theory.Syndrome.{syndrome_same, having_syndrome}
use Rattle.codec.proofs.theory.Correction.{Reached, flipped_there, flipped_kept, reached_codeword}
use Rattle.codec.proofs.theory.Tags.{tag_position, tags_tell, reached_size}
use Rattle.codec.proofs.theory.NearestField.{none_erased, corrected_read, whole_same, whole_corrected, corrected_cells}
use Rattle.codec.proofs.theory.NearestField.{corrected_near, near_reached, codeword_reach}
use Rattle.codec.proofs.theory.NamedCells.{flipped_if, flipped_if_there, flipped_if_kept}

-- a cell differs after correction
abbrev pub differs_at : Layout → Tags → Field → ℕ → Bool
differs_at L tag f i = not (eqb (f i) (corrected L tag f i))

-- the cells d, u and v, of class a or none, are what correction flips of it
pub record LocatedIn (L : Layout) (tag : Tags) (f : Field) (a d u v : ℕ) : Type 0 where
  pub damaged_class : d < L.cells → L.class d ≡ a
  pub first_class : u < L.cells → L.class u ≡ a
  pub second_class : v < L.cells → L.class v ≡ a
  pub corrects : (i : ℕ) → i < L.cells → L.class i ≡ a
      → flipped_if v i (flipped_if u i (flipped_if d i (having 1 f i))) ≡ corrected L tag f i
  pub counted : bit (not (eqb d no_cell)) + erasures L f a ≡ count (λ i. eqb (L.class i) a && differs_at L tag f i) L.cells
  pub reaches : reached_by (syndrome L tag f a) d u v ≡ in_reach L tag f a

-- c is the cell of class a whose tag is s, or none
pub record Tagged (L : Layout) (tag : Tags) (a s c : ℕ) : Type 0 where
  pub below : c ≢ no_cell → c < L.cells
  pub class : c ≢ no_cell → L.class c ≡ a
  pub value : c ≢ no_cell → tag c ≡ s
  pub only : (i : ℕ) → i < L.cells → L.class i ≡ a → s ≡ tag i → c ≡ i

-- the cell that is given for a position is the one with this tag
pub given_tagged : (L : Layout) (a s c : ℕ) → CellOrNone L a s c → Tagged L (tags_of L) a s c
given_tagged L a s c at =
    record {
      below = λ d. (given d).below;
      class = λ d. (given d).class;
      value = λ d. tag_position L c ∙ (given d).position;
      only = λ i l k e.
          let some : s ≢ 0 = λ z. (tags_tell L).some i l (sym e ∙ z) in
          let r = at.some (omega (arith, some)) (reached_size L a s (inr (i, l, k, sym e))) in
          (tags_tell L).one c i r.below l (r.class ∙ sym k) (tag_position L c ∙ r.position ∙ e);
    }
  where
    given : c ≢ no_cell → IsCellAt L a s c
    given d = go (ℕ_discrete s 0) (dec_lt (size L a) s)
      where
        go : Dec (s ≡ 0) → Dec (size L a < s) → IsCellAt L a s c
        go (yes z) l = absurd (d (at.none (inl z)))
        go (no z) (yes l) = absurd (d (at.none (inr l)))
        go (no z) (no l) = at.some (omega (arith, z)) (omega (arith, l))

-- the test of a class, by the cells that are to be flipped
pub reach_law : (L : Layout) (tag : Tags) (f : Field) (a d u v : ℕ)
    → ((syndrome L tag f a ≡ 0) ⊎ (d ≢ no_cell) ⊎ (u ≢ no_cell) ⊎ (v ≢ no_cell) → Codeword L tag (corrected L tag f) a)
    → (syndrome L tag f a ≢ 0 → d ≡ no_cell → u ≡ no_cell → v ≡ no_cell → syndrome L tag (corrected L tag f) a ≢ 0)
    → reached_by (syndrome L tag f a) d u v ≡ in_reach L tag f a
unfolding reached_by in_reach
reach_law L tag f a d u v word other =
    go (ℕ_discrete s 0) (ℕ_discrete d no_cell) (ℕ_discrete u no_cell) (ℕ_discrete v no_cell)
  where
    s : ℕ
    s = syndrome L tag f a

    yes_word : (s ≡ 0) ⊎ (d ≢ no_cell) ⊎ (u ≢ no_cell) ⊎ (v ≢ no_cell) → true ≡ in_reach L tag f a
    yes_word h = sym (codeword_reach L tag f a (word h))

    go : Dec (s ≡ 0) → Dec (d ≡ no_cell) → Dec (u ≡ no_cell) → Dec (v ≡ no_cell) → reached_by s d u v ≡ in_reach L tag f a
    go (yes z) x y w = rw (eq-eqb s 0 z) (yes_word (inl z))
    go (no z) (no x) y w = rw (ne_eqb s 0 z, ne_eqb d no_cell x) (yes_word (inr (inl x)))
    go (no z) (yes x) (no y) w = rw (ne_eqb s 0 z, eq-eqb d no_cell x, ne_eqb u no_cell y) (yes_word (inr (inr (inl y))))
    go (no z) (yes x) (yes y) (no w) =
        rw (ne_eqb s 0 z, eq-eqb d no_cell x, eq-eqb u no_cell y, ne_eqb v no_cell w) (yes_word (inr (inr (inr w))))
    go (no z) (yes x) (yes y) (yes w) =
        rw (ne_eqb s 0 z, eq-eqb d no_cell x, eq-eqb u no_cell y, eq-eqb v no_cell w) (sym (ne_eqb _ 0 (other z x y w)))

module _ (L : Layout) (fits : L.cells ≤ no_cell) where
  -- what stands for no cell is none of the cells
  pub outside : (i : ℕ) → i < L.cells → no_cell ≢ i
  outside i l e = omega arith

  -- where d is a cell, one of the cells is it, else none is
  count_cell : (d : ℕ) → (d ≢ no_cell → d < L.cells) → count (λ i. eqb d i) L.cells ≡ bit (not (eqb d no_cell))
  count_cell d below = go (ℕ_discrete d no_cell)
    where
      go : Dec (d ≡ no_cell) → count (λ i. eqb d i) L.cells ≡ bit (not (eqb d no_cell))
      go (yes e) =
          count_none (λ i. eqb d i) L.cells (λ i l. ne_eqb d i (λ h. outside i l (sym e ∙ h))) ∙ rw (eq-eqb d no_cell e)
      go (no n) = sym (count_sum (λ i. eqb d i) L.cells) ∙ sum_one (λ i. 1) d L.cells (below n) ∙ rw (ne_eqb d no_cell n)

-- a class with no erasure: the cell whose tag is the syndrome is flipped
module _ {L : Layout} {tag : Tags} (tells : Tells L tag) (fits : L.cells ≤ no_cell) (f : Field)
    (received : Received f L.cells) (a : ℕ) (z : erasures L f a ≡ 0) (d : ℕ) (at : Tagged L tag a (syndrome L tag f a) d) where
  inside : (i : ℕ) → i < L.cells → d ≡ i → d ≢ no_cell
  inside i l e h = outside L fits i l (sym h ∙ e)

  whole_flipped : (i : ℕ) → i < L.cells → L.class i ≡ a → corrected L tag f i ≡ flipped_if d i (f i)
  whole_flipped i l c = corrected_read L tag f i (ap (erasures L f) c ∙ z) ∙ go (ℕ_discrete d i)
    where
      go : Dec (d ≡ i) → flipped L tag f i ≡ flipped_if d i (f i)
      go (yes e) =
          flipped_there L tag f i (ap (syndrome L tag f) c ∙ sym (ap tag (sym e) ∙ at.value (inside i l e)))
          ∙ sym (flipped_if_there d i (f i) e)
      go (no n) =
          flipped_kept L tag f i (λ e. n (at.only i l c (ap (syndrome L tag f) (sym c) ∙ e)))
          ∙ sym (flipped_if_kept d i (f i) n)

  -- so no other cell of the class differs
  whole_differs : (i : ℕ) → i < L.cells → (eqb (L.class i) a && differs_at L tag f i) ≡ eqb d i
  whole_differs i l = go (ℕ_discrete d i) (ℕ_discrete (L.class i) a)
    where
      small : L.class i ≡ a → f i ≤ 1
      small c = cell_most _ (read_cell (f i) (received i l) (none_erased L f a z i l c))

      go : Dec (d ≡ i) → Dec (L.class i ≡ a) → (eqb (L.class i) a && differs_at L tag f i) ≡ eqb d i
      go (yes e) (no c) = absurd (c (ap L.class (sym e) ∙ at.class (inside i l e)))
      go (yes e) (yes c) =
          let other : f i ≢ corrected L tag f i =
          λ h. omega (arith, h, small c, whole_flipped i l c ∙ flipped_if_there d i (f i) e) in
          rw (eq-eqb (L.class i) a c, ne_eqb (f i) _ other, eq-eqb d i e)
      go (no n) (no c) = rw (ne_eqb (L.class i) a c, ne_eqb d i n)
      go (no n) (yes c) =
          rw (eq-eqb (L.class i) a c, eq-eqb (f i) _ (sym (whole_flipped i l c ∙ flipped_if_kept d i (f i) n)), ne_eqb d i n)

  -- a codeword is left exactly where the syndrome is 0 or names a cell
  whole_word : (syndrome L tag f a ≡ 0) ⊎ (d ≢ no_cell) → Codeword L tag (corrected L tag f) a
  unfolding Codeword
  whole_word h =
      syndrome_same L tag (corrected L tag f) _ a L.cells (whole_corrected L tag f received a z)
      ∙ reached_codeword tells (having 1 f) (having_cells 1 f L.cells) a
      (subst (Reached L tag a) (sym (having_syndrome L tag f a L.cells)) (reached h))
    where
      reached : (syndrome L tag f a ≡ 0) ⊎ (d ≢ no_cell) → Reached L tag a (syndrome L tag f a)
      reached (inl e) = inl e
      reached (inr n) = inr (d, at.below n, at.class n, at.value n)

  whole_other : syndrome L tag f a ≢ 0 → d ≡ no_cell → syndrome L tag (corrected L tag f) a ≢ 0
  unfolding Codeword
  whole_other some none word =
      go
      (near_reached tells f received (corrected L tag f) a z (corrected_cells L tag f received)
      (corrected_near tells f received a) word)
    where
      go : Reached L tag a (syndrome L tag f a) → ⊥
      go (inl e) = some e
      go (inr r) = outside L fits r.0 r.1 (sym none ∙ at.only r.0 r.1 r.2 (sym r.3))

  pub located_none : LocatedIn L tag f a d no_cell no_cell
  located_none =
      record {
        damaged_class = λ l. at.class (λ e. omega arith);
        first_class = λ l. absurd (omega arith);
        second_class = λ l. absurd (omega arith);
        corrects = λ i l c.
            flipped_if_kept no_cell i _ (outside L fits i l)
            ∙ flipped_if_kept no_cell i _ (outside L fits i l)
            ∙ ap (flipped_if d i) (whole_same L tag f received a z i l c)
            ∙ sym (whole_flipped i l c);
        counted =
            omega (
              arith,
              z,
              count_cell L fits d at.below,
              count_same (λ i. eqb (L.class i) a && differs_at L tag f i) (λ i. eqb d i) L.cells whole_differs,
            );
        reaches =
            reach_law L tag f a d no_cell no_cell (λ h. whole_word (word h)) (λ some none x y. whole_other some none);
      }
    where
      word : (syndrome L tag f a ≡ 0) ⊎ (d ≢ no_cell) ⊎ (no_cell ≢ no_cell) ⊎ (no_cell ≢ no_cell)
          → (syndrome L tag f a ≡ 0) ⊎ (d ≢ no_cell)
      word (inl e) = inl e
      word (inr (inl n)) = inr n
      word (inr (inr (inl n))) = absurd (n refl)
      word (inr (inr (inr n))) = absurd (n refl)
