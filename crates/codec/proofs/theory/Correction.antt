-- Correcting one cell of each class of a field with no erasure, for any layout of cells in classes and any tags that tell them:
-- it gives the codeword that differs in at most one cell of its class.
use Prim.Native.Nat.{ℕ, zero, suc, ◌<◌, ◌≤◌}
use mathlib.Core.Bool.{true}
use mathlib.Core.Logic.{◌≢◌, ◌⊎◌, inl, inr, ⊎_elim}
use mathlib.Core.Path.{◌≡◌, sym, ap, subst, ◌∙◌}
use native.Mathlib.Decide.{ℕ_discrete}
use native.Mathlib.Nat.{le_refl, not-suc-le-zero, eq-or-lt_of_le, le_of_suc-le-suc}
use native.Mathlib.Omega.{arith}
use borrow.Author.Tests.{eq-eqb, ne_eqb}
use Rattle.lattice.specs.Position.{Layout}
use Rattle.codec.specs.Field.{Field, Cells, Same, flip, is_cell}
use Rattle.codec.specs.Hamming.{Tags, Tells, syndrome, Codeword, Lawful, OneDiffers, flipped}
use Rattle.codec.proofs.theory.CellValues.{cell_most, most_cell}
use Rattle.codec.proofs.theory.FieldLists.{cells_same}
use Rattle.codec.proofs.theory.Xor.{xor_zero, xor_equal}
use Rattle.codec.proofs.theory.Syndrome.{syndrome_same, one_flips}

-- two fields agree on the cells of class a among the first n
abbrev Agree : Layout → ℕ → Field → Field → ℕ → Type 0
Agree L n f g a = (i : ℕ) → i < n → L.class i ≡ a → f i ≡ g i

-- they differ in one
abbrev Differ : Layout → ℕ → Field → Field → ℕ → Type 0
Differ L n f g a = (i : ℕ) × (i < n) × (L.class i ≡ a) × (f i ≢ g i)

agree_or_differ : (L : Layout) (n : ℕ) (f g : Field) (a : ℕ) → Agree L n f g a ⊎ Differ L n f g a
agree_or_differ L zero f g a = inl (λ i l. absurd (not-suc-le-zero l))
agree_or_differ L (suc n) f g a = go (agree_or_differ L n f g a) (ℕ_discrete (L.class n) a) (ℕ_discrete (f n) (g n))
  where
    more : Agree L n f g a → (L.class n ≡ a → f n ≡ g n) → Agree L (suc n) f g a
    more before last i l =
        ⊎_elim
        (λ (e : i ≡ n). subst (λ (k : ℕ). L.class k ≡ a → f k ≡ g k) (sym e) last)
        (λ (k : i < n). before i k)
        (eq-or-lt_of_le (le_of_suc-le-suc l))

    go : Agree L n f g a ⊎ Differ L n f g a → Dec (L.class n ≡ a) → Dec (f n ≡ g n)
        → Agree L (suc n) f g a ⊎ Differ L (suc n) f g a
    go (inr r) c d = inr (r.0, omega (arith, r.1), r.2, r.3)
    go (inl p) (no c) d = inl (more p (λ e. absurd (c e)))
    go (inl p) (yes c) (yes d) = inl (more p (λ e. d))
    go (inl p) (yes c) (no d) = inr (n, le_refl _, c, d)

-- v is 0 or the tag of a cell of class a
abbrev pub Reached : Layout → Tags → ℕ → ℕ → Type 0
Reached L tag a v = (v ≡ 0) ⊎ ((i : ℕ) × (i < L.cells) × (L.class i ≡ a) × (tag i ≡ v))

module _ (L : Layout) (tag : Tags) (f : Field) where
  -- the cell whose tag is the syndrome of its class is flipped, and the others are kept
  pub flipped_there : (i : ℕ) → syndrome L tag f (L.class i) ≡ tag i → flipped L tag f i ≡ flip (f i)
  unfolding flipped
  flipped_there i e = rw (eq-eqb (syndrome L tag f (L.class i)) (tag i) e)

  pub flipped_kept : (i : ℕ) → syndrome L tag f (L.class i) ≢ tag i → flipped L tag f i ≡ f i
  unfolding flipped
  flipped_kept i e = rw (ne_eqb (syndrome L tag f (L.class i)) (tag i) e)

  pub flipped_cells : Cells f L.cells → Cells (flipped L tag f) L.cells
  flipped_cells p i l = go (ℕ_discrete (syndrome L tag f (L.class i)) (tag i))
    where
      go : Dec (syndrome L tag f (L.class i) ≡ tag i) → is_cell (flipped L tag f i) ≡ true
      go (yes e) = most_cell _ (omega (arith, flipped_there i e))
      go (no e) = rw (flipped_kept i e) (p i l)

  -- a cell differs after correction exactly when its tag is the syndrome of its class
  flipped_differs : (i : ℕ) → f i ≢ flipped L tag f i → syndrome L tag f (L.class i) ≡ tag i
  flipped_differs i d = go (ℕ_discrete (syndrome L tag f (L.class i)) (tag i))
    where
      go : Dec (syndrome L tag f (L.class i) ≡ tag i) → syndrome L tag f (L.class i) ≡ tag i
      go (yes e) = e
      go (no e) = absurd (d (sym (flipped_kept i e)))

  differs_flipped : (i : ℕ) → f i ≤ 1 → syndrome L tag f (L.class i) ≡ tag i → f i ≢ flipped L tag f i
  differs_flipped i p e d = omega (arith, flipped_there i e)

module _ {L : Layout} {tag : Tags} (tells : Tells L tag) (f : Field) where
  -- at most one cell of each class is flipped
  pub flipped_one : (a : ℕ) → OneDiffers L f (flipped L tag f) a
  unfolding OneDiffers
  flipped_one a i j l m p q d e =
      tells.one i j l m (p ∙ sym q)
      (sym (flipped_differs L tag f i d) ∙ ap (syndrome L tag f) (p ∙ sym q) ∙ flipped_differs L tag f j e)

  -- a class that is a codeword is kept
  codeword_kept : (a : ℕ) → Codeword L tag f a → (i : ℕ) → i < L.cells → L.class i ≡ a → flipped L tag f i ≡ f i
  unfolding Codeword
  codeword_kept a z i l p = flipped_kept L tag f i (λ e. tells.some i l (sym e ∙ ap (syndrome L tag f) p ∙ z))

  -- where the syndrome is 0 or the tag of a cell of the class, the corrected class is a codeword
  pub reached_codeword : Cells f L.cells → (a : ℕ) → Reached L tag a (syndrome L tag f a) → Codeword L tag (flipped L tag f) a
  unfolding Codeword
  reached_codeword p a (inl z) =
      syndrome_same L tag (flipped L tag f) f a L.cells (λ i l c. codeword_kept a z i l c) ∙ z
  reached_codeword p a (inr s) =
      let e : syndrome L tag f (L.class s.0) ≡ tag s.0 = ap (syndrome L tag f) s.2 ∙ sym s.3 in
      one_flips L tag f (flipped L tag f) a s.0 p (flipped_cells L tag f p) (flipped_one a) s.1 s.2
      (differs_flipped L tag f s.0 (cell_most _ (p s.0 s.1)) e)
      ∙ xor_equal (syndrome L tag f a) (tag s.0) (sym s.3)

-- g differs from f in at most one cell of class a, and is a codeword there
module _ {L : Layout} {tag : Tags} (tells : Tells L tag) (f g : Field) (a : ℕ) (p : Cells f L.cells) (q : Cells g L.cells)
    (one : OneDiffers L f g a) (word : Codeword L tag g a) where
  agree_syndrome : Agree L L.cells f g a → syndrome L tag f a ≡ 0
  unfolding Codeword
  agree_syndrome e = syndrome_same L tag f g a L.cells e ∙ word

  differ_syndrome : (d : Differ L L.cells f g a) → syndrome L tag f a ≡ tag d.0
  unfolding Codeword
  differ_syndrome d =
      xor_zero (syndrome L tag f a) (tag d.0) (sym (one_flips L tag f g a d.0 p q one d.1 d.2 d.3) ∙ word)

  -- then the syndrome is 0 or the tag of a cell of the class
  pub one_reached : Reached L tag a (syndrome L tag f a)
  one_reached =
      ⊎_elim (λ e. inl (agree_syndrome e)) (λ d. inr (d.0, d.1, d.2, sym (differ_syndrome d)))
      (agree_or_differ L L.cells f g a)

  -- and correction finds g
  pub one_corrected : (i : ℕ) → i < L.cells → L.class i ≡ a → flipped L tag f i ≡ g i
  unfolding OneDiffers Codeword
  one_corrected i l c = ⊎_elim agrees differs (agree_or_differ L L.cells f g a)
    where
      agrees : Agree L L.cells f g a → flipped L tag f i ≡ g i
      agrees e = codeword_kept tells f a (agree_syndrome e) i l c ∙ e i l c

      differs : Differ L L.cells f g a → flipped L tag f i ≡ g i
      differs d = go (ℕ_discrete (f i) (g i))
        where
          here : syndrome L tag f (L.class i) ≡ tag d.0
          here = ap (syndrome L tag f) c ∙ differ_syndrome d

          go : Dec (f i ≡ g i) → flipped L tag f i ≡ g i
          go (yes e) =
              flipped_kept L tag f i (λ (s : syndrome L tag f (L.class i) ≡ tag i).
              d.3 (subst (λ (k : ℕ). f k ≡ g k) (tells.one i d.0 l d.1 (c ∙ sym d.2) (sym s ∙ here)) e))
              ∙ e
          go (no e) =
              let there = flipped_there L tag f i (here ∙ ap tag (one d.0 i d.1 l d.2 c d.3 e)) in
              omega (arith, there, cell_most _ (p i l), cell_most _ (q i l))

-- fields that agree on the cells are lawful alike
module _ (L : Layout) (tag : Tags) (f g : Field) (s : Same f g L.cells) where
  codeword_same : (a : ℕ) → Codeword L tag f a → Codeword L tag g a
  unfolding Codeword
  codeword_same a z = sym (syndrome_same L tag f g a L.cells (λ i l c. s i l)) ∙ z

  pub lawful_same : Lawful L tag f → Lawful L tag g
  lawful_same h = record { cells = cells_same f g L.cells s h.cells; classes = λ a. codeword_same a (h.classes a) }
