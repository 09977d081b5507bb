-- Damage to at most one cell of each class is corrected, for any layout of cells in classes.
use Prim.Native.Nat.{ℕ}
use mathlib.Core.Bool.{Bool, true, false}
use mathlib.Core.Logic.{◌≢◌}
use mathlib.Core.Path.{◌≡◌, refl, sym, ◌∙◌}
use native.Mathlib.Omega.{arith}
use Rattle.lattice.specs.Position.{Layout}
use Rattle.codec.specs.Field.{Field, Cells, flip, is_cell}
use Rattle.codec.specs.Hamming.{Tags, Lawful, OneDiffers}
use Rattle.codec.specs.Erasure.{Nearest}
use Rattle.codec.specs.Damage.{damaged, OneInEachClass}
use Rattle.codec.proofs.theory.CellValues.{most_cell}
use Rattle.codec.proofs.theory.NearestField.{one_near}

module _ (f : Field) (selected : ℕ → Bool) where
  pub damaged_flipped : (i : ℕ) → selected i ≡ true → damaged f selected i ≡ flip (f i)
  unfolding damaged
  damaged_flipped i e = rw e

  pub damaged_kept : (i : ℕ) → selected i ≡ false → damaged f selected i ≡ f i
  unfolding damaged
  damaged_kept i e = rw e

  pub damaged_cells : (n : ℕ) → Cells f n → Cells (damaged f selected) n
  damaged_cells n p i l = go (selected i) refl
    where
      go : (b : Bool) → selected i ≡ b → is_cell (damaged f selected i) ≡ true
      go true e = most_cell _ (omega (arith, damaged_flipped i e))
      go false e = rw (damaged_kept i e) (p i l)

  -- a cell that differs was selected
  pub damaged_selected : (i : ℕ) → damaged f selected i ≢ f i → selected i ≡ true
  damaged_selected i d = go (selected i) refl
    where
      go : (b : Bool) → selected i ≡ b → selected i ≡ true
      go true e = e
      go false e = absurd (d (damaged_kept i e))

module _ (L : Layout) (tag : Tags) (f : Field) (selected : ℕ → Bool) (one : OneInEachClass L selected) where
  damaged_one : (a : ℕ) → OneDiffers L (damaged f selected) f a
  unfolding OneDiffers
  damaged_one a i j l m c d x y =
      one i j l m (damaged_selected f selected i x) (damaged_selected f selected j y) (c ∙ sym d)

  -- a lawful field is the nearest to it after the damage
  pub damaged_nearest : Lawful L tag f → Nearest L tag (damaged f selected) f
  damaged_nearest h =
      record {
        lawful = h;
        near = λ a. one_near L (damaged f selected) f (damaged_cells f selected L.cells h.cells) a (damaged_one a);
      }
