-- A field that is handed in, with at most two erasures in each class, for any layout of cells in classes and any tags that tell
-- them: correction gives the one lawful field for which every class may stand.
use Prim.Native.Nat.{ℕ, ◌<◌, ◌≤◌}
use mathlib.Core.Bool.{true, ◌&&◌, ◌||◌}
use mathlib.Core.Logic.{◌≢◌}
use mathlib.Core.Path.{◌≡◌, refl, sym, ap, subst, ◌∙◌}
use native.Mathlib.Decide.{ℕ_discrete}
use native.Mathlib.Omega.{arith}
use lib.Dec.{eqb}
use borrow.Author.Tests.{eq-eqb, ne_eqb, eqb-true}
use Rattle.lattice.specs.Position.{Layout}
use Rattle.lattice.proofs.theory.Bools.{and_false_right}
use Rattle.lattice.proofs.theory.Counting.{count_more, count_same, count_none}
use Rattle.codec.specs.Field.{Field, Cells, Received, Same, erased, having, flip, is_cell}
use Rattle.codec.specs.Hamming.{Tags, Tells, syndrome, Codeword, Lawful, OneDiffers, flipped}
use Rattle.codec.specs.Erasure.{is_erased, erasures_to, erasures, FewErasures, Agrees, Near, Nearest, erased_sum, filled}
use Rattle.codec.specs.Erasure.{corrected, in_reach}
use Rattle.codec.proofs.theory.CellValues.{cell_most, most_cell, zero_cell, cond_cell, read_cell, having_read}
use Rattle.codec.proofs.theory.CellValues.{having_cells}
use Rattle.codec.proofs.theory.Syndrome.{syndrome_same, having_syndrome}
use Rattle.codec.proofs.theory.Correction.{flipped_there, flipped_kept, flipped_cells, flipped_one, one_corrected}
use Rattle.codec.proofs.theory.Correction.{Reached, one_reached, lawful_same}
use Rattle.codec.proofs.theory.ErasedCells.{erasure_test, erasure_passes}
use Rattle.codec.proofs.theory.FilledClass.{filled_kept, fills}

-- a class with no erasure has no erased cell, and a field of cells has no erasure
pub none_erased : (L : Layout) (f : Field) (a : ℕ) → erasures L f a ≡ 0 → (i : ℕ) → i < L.cells → L.class i ≡ a → f i ≢ erased
unfolding erasures_to
none_erased L f a z i l c e =
    let here = erasure_passes L f a i record { below = l; class = c; value = e } in
    omega (arith, count_more (erasure_test L f a) i L.cells l here, z)

pub cells_read : (L : Layout) (f : Field) → Cells f L.cells → (a : ℕ) → erasures L f a ≡ 0
unfolding erasures_to
cells_read L f p a =
    count_none _ L.cells
    (λ i l. and_false_right (eqb (L.class i) a) (is_erased f i)
    (ne_eqb (f i) erased (λ e. omega (arith, e, cell_most _ (p i l)))))

-- the erasures of a class depend on its cells alone
erasures_same : (L : Layout) (f g : Field) → Same f g L.cells → (a : ℕ) → erasures L f a ≡ erasures L g a
unfolding erasures_to
erasures_same L f g s a =
    count_same _ _ L.cells (λ i l. ap (λ (v : ℕ). eqb (L.class i) a && eqb v erased) (s i l))

pub few_same : (L : Layout) (f g : Field) → Same f g L.cells → FewErasures L f → FewErasures L g
few_same L f g s few a = omega (arith, few a, erasures_same L f g s a)

module _ (L : Layout) (tag : Tags) (f : Field) where
  -- what correction does, by the erasures of the class
  pub corrected_read : (i : ℕ) → erasures L f (L.class i) ≡ 0 → corrected L tag f i ≡ flipped L tag f i
  unfolding corrected
  corrected_read i z = rw (eq-eqb (erasures L f (L.class i)) 0 z)

  pub corrected_filled : (i : ℕ) → erasures L f (L.class i) ≢ 0 → corrected L tag f i ≡ filled L tag f i
  unfolding corrected
  corrected_filled i z = rw (ne_eqb (erasures L f (L.class i)) 0 z)

  -- an erased cell is filled with a cell
  filled_cell : (i : ℕ) → f i ≡ erased → is_cell (filled L tag f i) ≡ true
  unfolding filled
  filled_cell i e =
      let s = syndrome L tag f (L.class i) in
      rw
      (eq-eqb (f i) erased e)
      (cond_cell (eqb s (tag i) || eqb s (erased_sum L tag f (L.class i))) 1 0 (most_cell 1 (omega arith)) zero_cell)

-- a received field, of which `having 1 f` has 0 in each erased cell
module _ (L : Layout) (tag : Tags) (f : Field) (received : Received f L.cells) where
  -- in a class with no erasure correction is that of a field of cells
  module _ (a : ℕ) (z : erasures L f a ≡ 0) (i : ℕ) (l : i < L.cells) (c : L.class i ≡ a) where
    pub whole_same : having 1 f i ≡ f i
    whole_same = having_read f i (received i l) (none_erased L f a z i l c)

    pub whole_corrected : corrected L tag f i ≡ flipped L tag (having 1 f) i
    whole_corrected = corrected_read L tag f i (ap (erasures L f) c ∙ z) ∙ go (ℕ_discrete (syndrome L tag f (L.class i)) (tag i))
      where
        same : syndrome L tag (having 1 f) (L.class i) ≡ syndrome L tag f (L.class i)
        same = having_syndrome L tag f (L.class i) L.cells

        go : Dec (syndrome L tag f (L.class i) ≡ tag i) → flipped L tag f i ≡ flipped L tag (having 1 f) i
        go (yes e) =
            flipped_there L tag f i e ∙ ap flip (sym whole_same) ∙ sym (flipped_there L tag (having 1 f) i (same ∙ e))
        go (no d) =
            flipped_kept L tag f i d ∙ sym whole_same ∙ sym (flipped_kept L tag (having 1 f) i (λ e. d (sym same ∙ e)))

  pub corrected_cells : Cells (corrected L tag f) L.cells
  corrected_cells i l = go (ℕ_discrete (erasures L f (L.class i)) 0) (ℕ_discrete (f i) erased)
    where
      go : Dec (erasures L f (L.class i) ≡ 0) → Dec (f i ≡ erased) → is_cell (corrected L tag f i) ≡ true
      go (yes z) e =
          rw (whole_corrected (L.class i) z i l refl) (flipped_cells L tag (having 1 f) (having_cells 1 f L.cells) i l)
      go (no z) (yes e) = rw (corrected_filled L tag f i z) (filled_cell L tag f i e)
      go (no z) (no d) =
          rw (corrected_filled L tag f i z, filled_kept L tag f i d) (read_cell (f i) (received i l) d)

-- where a codeword is in reach, correction leaves one
pub reach_codeword : (L : Layout) (tag : Tags) (f : Field) (a : ℕ) → in_reach L tag f a ≡ true
    → Codeword L tag (corrected L tag f) a
unfolding in_reach Codeword
reach_codeword L tag f a r = eqb-true (syndrome L tag (corrected L tag f) a) 0 r

pub codeword_reach : (L : Layout) (tag : Tags) (f : Field) (a : ℕ) → Codeword L tag (corrected L tag f) a
    → in_reach L tag f a ≡ true
unfolding in_reach Codeword
codeword_reach L tag f a z = eq-eqb (syndrome L tag (corrected L tag f) a) 0 z

module _ {L : Layout} {tag : Tags} (tells : Tells L tag) (f : Field) (received : Received f L.cells) where
  -- each class may stand for what correction leaves
  pub corrected_near : (a : ℕ) → Near L f (corrected L tag f) a
  unfolding OneDiffers Agrees
  corrected_near a =
      record {
        read = λ z i j l m p q d e.
            flipped_one tells (having 1 f) a i j l m p q (still z i l p d) (still z j m q e);
        filled = λ z i l c d.
            sym (corrected_filled L tag f i (λ w. z (ap (erasures L f) (sym c) ∙ w)) ∙ filled_kept L tag f i d);
      }
    where
      still : erasures L f a ≡ 0 → (i : ℕ) → i < L.cells → L.class i ≡ a → f i ≢ corrected L tag f i
          → having 1 f i ≢ flipped L tag (having 1 f) i
      still z i l c d e =
          d
          (sym (whole_same L tag f received a z i l c) ∙ e ∙ sym (whole_corrected L tag f received a z i l c))

  pub corrected_nearest : ((a : ℕ) → in_reach L tag f a ≡ true) → Nearest L tag f (corrected L tag f)
  corrected_nearest r =
      record {
        lawful =
            record { cells = corrected_cells L tag f received; classes = λ a. reach_codeword L tag f a (r a) };
        near = corrected_near;
      }

  -- of a class with no erasure, in the field with 0 for each erased cell
  still_one : (g : Field) (a : ℕ) → erasures L f a ≡ 0 → Near L f g a → OneDiffers L (having 1 f) g a
  unfolding OneDiffers
  still_one g a z near j k m n p r d e =
      near.read z j k m n p r
      (λ h. d (whole_same L tag f received a z j m p ∙ h)) (λ h. e (whole_same L tag f received a z k n r ∙ h))

  -- where it may stand for a codeword, its syndrome is 0 or the tag of one of its cells
  pub near_reached : (g : Field) (a : ℕ) → erasures L f a ≡ 0 → Cells g L.cells → Near L f g a → Codeword L tag g a
      → Reached L tag a (syndrome L tag f a)
  near_reached g a z q near word =
      subst (Reached L tag a) (having_syndrome L tag f a L.cells)
      (one_reached tells (having 1 f) g a (having_cells 1 f L.cells) q (still_one g a z near) word)

  -- what a class may stand for, and is a codeword, is what correction leaves
  module _ (g : Field) (a : ℕ) (few : erasures L f a ≤ 2) (q : Cells g L.cells) (near : Near L f g a)
      (word : Codeword L tag g a) where
    pub near_corrected : (i : ℕ) → i < L.cells → L.class i ≡ a → corrected L tag f i ≡ g i
    unfolding OneDiffers Agrees
    near_corrected i l c = go (ℕ_discrete (erasures L f a) 0) (ℕ_discrete (f i) erased)
      where
        go : Dec (erasures L f a ≡ 0) → Dec (f i ≡ erased) → corrected L tag f i ≡ g i
        go (yes z) e =
            whole_corrected L tag f received a z i l c
            ∙ one_corrected tells (having 1 f) g a (having_cells 1 f L.cells) q (still_one g a z near) word i l c
        go (no z) (yes e) =
            corrected_filled L tag f i (λ w. z (ap (erasures L f) (sym c) ∙ w))
            ∙ fills tells f g a few q (near.filled z) word i l c e
        go (no z) (no d) =
            corrected_filled L tag f i (λ w. z (ap (erasures L f) (sym c) ∙ w))
            ∙ filled_kept L tag f i d
            ∙ near.filled z i l c d

    pub near_reach : in_reach L tag f a ≡ true
    unfolding Codeword
    near_reach =
        codeword_reach L tag f a (syndrome_same L tag (corrected L tag f) g a L.cells near_corrected ∙ word)

  -- so the lawful field for which every class may stand, where there is one, is the corrected field
  module _ (few : FewErasures L f) where
    pub nearest_corrected : (g : Field) → Nearest L tag f g → Same (corrected L tag f) g L.cells
    nearest_corrected g h i l =
        let a = L.class i in near_corrected g a (few a) h.lawful.cells (h.near a) (h.lawful.classes a) i l refl

    -- there is at most one
    pub nearest_one : (g h : Field) → Nearest L tag f g → Nearest L tag f h → Same g h L.cells
    nearest_one g h k m i l = sym (nearest_corrected g k i l) ∙ nearest_corrected h m i l

    -- and where there is one, a codeword is in reach of each class
    pub nearest_reach : (g : Field) → Nearest L tag f g → (a : ℕ) → in_reach L tag f a ≡ true
    nearest_reach g h a = near_reach g a (few a) h.lawful.cells (h.near a) (h.lawful.classes a)

-- a field of cells is received, with few erasures, as it has none
pub cells_few : (L : Layout) (f : Field) → Cells f L.cells → FewErasures L f
cells_few L f p a = omega (arith, cells_read L f p a)

-- where two fields of cells differ in at most one cell of a class, the class of the one may stand for the other's
pub one_near : (L : Layout) (f g : Field) → Cells f L.cells → (a : ℕ) → OneDiffers L f g a → Near L f g a
one_near L f g p a one = record { read = λ z. one; filled = λ z. absurd (z (cells_read L f p a)) }

-- a lawful field is its own nearest
pub lawful_nearest : {L : Layout} {tag : Tags} (f : Field) → Lawful L tag f → Nearest L tag f f
unfolding OneDiffers
lawful_nearest {L = L} f h =
    record { lawful = h; near = λ a. one_near L f f h.cells a (λ i j l m c d e k. absurd (e refl)) }

-- fields that agree on the cells have the same fields near them
near_same : (L : Layout) (f g h k : Field) → Same f g L.cells → Same h k L.cells → (a : ℕ) → Near L f h a → Near L g k a
unfolding OneDiffers Agrees
near_same L f g h k s t a p =
    record {
      read = λ z i j l m c d x y.
          p.read (erasures_same L f g s a ∙ z) i j l m c d (λ e. x (sym (s i l) ∙ e ∙ t i l)) (λ e. y (sym (s j m) ∙ e ∙ t j m));
      filled = λ z i l c d.
          sym (s i l) ∙ p.filled (λ e. z (sym (erasures_same L f g s a) ∙ e)) i l c (λ e. d (sym (s i l) ∙ e)) ∙ t i l;
    }

pub nearest_same : (L : Layout) (tag : Tags) (f g h k : Field) → Same f g L.cells → Same h k L.cells
    → Nearest L tag f h → Nearest L tag g k
nearest_same L tag f g h k s t p =
    record { lawful = lawful_same L tag h k t p.lawful; near = λ a. near_same L f g h k s t a (p.near a) }
