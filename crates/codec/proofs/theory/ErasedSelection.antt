-- Cells of a lawful field erased, at most two of each class, for any layout of cells in classes: the field is the nearest, and
-- differs in the erased cells alone.
use Prim.Native.Nat.{ℕ, ◌<◌, ◌≤◌}
use mathlib.Core.Bool.{Bool, true, false, not}
use mathlib.Core.Logic.{◌≢◌, ◌⊎◌, inl, inr}
use mathlib.Core.Path.{◌≡◌, refl, sym, ap, ◌∙◌}
use native.Mathlib.Decide.{dec_le}
use native.Mathlib.Omega.{arith}
use lib.Dec.{eqb}
use borrow.Author.Tests.{eq-eqb, ne_eqb}
use Rattle.lattice.specs.Position.{Layout}
use Rattle.lattice.specs.Counting.{count}
use Rattle.lattice.proofs.theory.Counting.{count_same, count_reach}
use Rattle.codec.specs.Field.{Field, Cells, Received, erased, is_received, differences}
use Rattle.codec.specs.Hamming.{Tags, Lawful, OneDiffers}
use Rattle.codec.specs.Erasure.{erasures_to, FewErasures, Agrees, Nearest}
use Rattle.codec.specs.Damage.{erased_at, TwoInEachClass}
use Rattle.codec.proofs.theory.CellValues.{cell_most, most_received, cells_received}
use Rattle.codec.proofs.theory.ErasedCells.{erasure_test, passes_erasure}
use Rattle.codec.proofs.theory.NearestField.{none_erased}

module _ (f : Field) (selected : ℕ → Bool) where
  erased_there : (i : ℕ) → selected i ≡ true → erased_at f selected i ≡ erased
  unfolding erased_at
  erased_there i e = rw e

  erased_kept : (i : ℕ) → selected i ≡ false → erased_at f selected i ≡ f i
  unfolding erased_at
  erased_kept i e = rw e

  pub erased_received : (n : ℕ) → Cells f n → Received (erased_at f selected) n
  erased_received n p i l = go (selected i) refl
    where
      go : (b : Bool) → selected i ≡ b → is_received (erased_at f selected i) ≡ true
      go true e = rw (erased_there i e) (most_received erased (omega arith))
      go false e = rw (erased_kept i e) (cells_received f n p i l)

  -- a cell that differs was selected, and so was one that is erased
  module _ (n : ℕ) (p : Cells f n) (i : ℕ) (l : i < n) where
    selected_differs : selected i ≡ true → f i ≢ erased_at f selected i
    selected_differs e d = omega (arith, erased_there i e, d, cell_most _ (p i l))

    erased_selected : erased_at f selected i ≡ erased → selected i ≡ true
    erased_selected d = go (selected i) refl
      where
        go : (b : Bool) → selected i ≡ b → selected i ≡ true
        go true e = e
        go false e = absurd (omega (arith, erased_kept i e, d, cell_most _ (p i l)))

  -- as many cells differ as were selected
  pub erased_count : (n : ℕ) → Cells f n → differences f (erased_at f selected) n ≡ count selected n
  unfolding differences
  erased_count n p = count_same _ selected n (λ i l. go i l (selected i) refl)
    where
      go : (i : ℕ) → i < n → (b : Bool) → selected i ≡ b → not (eqb (f i) (erased_at f selected i)) ≡ selected i
      go i l true e = ap not (ne_eqb (f i) _ (selected_differs n p i l e)) ∙ sym e
      go i l false e = ap not (eq-eqb (f i) _ (sym (erased_kept i e))) ∙ sym e

module _ (L : Layout) (f : Field) (selected : ℕ → Bool) (cells : Cells f L.cells) where
  -- at most two erasures in each class
  pub erased_few : TwoInEachClass L selected → FewErasures L (erased_at f selected)
  unfolding erasures_to
  erased_few two a = go (dec_le (count P L.cells) 2)
    where
      P : ℕ → Bool
      P = erasure_test L (erased_at f selected) a

      own : (i : ℕ) → i < L.cells → P i ≡ true → (selected i ≡ true) × (L.class i ≡ a)
      own i l e =
          let o = passes_erasure L (erased_at f selected) a i l e in
          (erased_selected f selected L.cells cells i l o.value, o.class)

      go : Dec (count P L.cells ≤ 2) → count P L.cells ≤ 2
      go (yes l) = l
      go (no l) =
          let x = count_reach P L.cells 0 (omega arith) in
          let y = count_reach P L.cells 1 (omega arith) in
          let z = count_reach P L.cells 2 (omega arith) in
          let o = own x.0 x.1 x.2 in
          let p = own y.0 y.1 y.2 in
          let q = own z.0 z.1 z.2 in
          absurd
          (apart x.0 y.0 z.0 x.3 y.3 z.3
          (two x.0 y.0 z.0 x.1 y.1 z.1 o.0 p.0 q.0 (o.1 ∙ sym p.1) (p.1 ∙ sym q.1)))
        where
          apart : (i j k : ℕ) → count P i ≡ 0 → count P j ≡ 1 → count P k ≡ 2 → (i ≡ j) ⊎ (j ≡ k) ⊎ (i ≡ k) → ⊥
          apart i j k p q r (inl e) = omega (arith, p, q, ap (count P) e)
          apart i j k p q r (inr (inl e)) = omega (arith, q, r, ap (count P) e)
          apart i j k p q r (inr (inr e)) = omega (arith, p, r, ap (count P) e)

  -- the cells that were read agree
  agrees : (a : ℕ) → Agrees L (erased_at f selected) f a
  unfolding Agrees
  agrees a i l c d = go (selected i) refl
    where
      go : (b : Bool) → selected i ≡ b → erased_at f selected i ≡ f i
      go true e = absurd (d (erased_there f selected i e))
      go false e = erased_kept f selected i e

  -- so a lawful field is the nearest to it after cells are erased
  pub erased_nearest : (tag : Tags) → Lawful L tag f → Nearest L tag (erased_at f selected) f
  unfolding OneDiffers Agrees
  erased_nearest tag h =
      record {
        lawful = h;
        near = λ a.
            record {
              read = λ z i j l m c d x y. absurd (x (agrees a i l c (none_erased L (erased_at f selected) a z i l c)));
              filled = λ z. agrees a;
            };
      }
