-- The number of cells in which two fields differ.
use Prim.Native.Nat.{ℕ}
use mathlib.Core.Bool.{not}
use mathlib.Core.Path.{◌≡◌, refl, sym, ap, ap₂, ◌∙◌}
use native.Mathlib.Decide.{ℕ_discrete}
use borrow.Author.Tests.{eq-eqb, ne_eqb}
use lib.Dec.{eqb}
use Rattle.lattice.specs.Position.{Layout}
use Rattle.lattice.proofs.theory.Counting.{count_same, count_none}
use Rattle.codec.specs.Field.{Field, Received, Same, differences}
use Rattle.codec.specs.Hamming.{Tags, Tells}
use Rattle.codec.specs.Erasure.{FewErasures, Nearest, corrected}
use Rattle.codec.proofs.theory.NearestField.{nearest_corrected}

-- the number of differences depends on the cells alone, and not on the fields' order
pub differences_same : (f g h k : Field) (n : ℕ) → Same f g n → Same h k n → differences f h n ≡ differences g k n
unfolding differences
differences_same f g h k n p q =
    count_same (λ i. not (eqb (f i) (h i))) (λ i. not (eqb (g i) (k i))) n
    (λ i l. ap₂ (λ (x y : ℕ). not (eqb x y)) (p i l) (q i l))

pub differences_comm : (f g : Field) (n : ℕ) → differences f g n ≡ differences g f n
unfolding differences
differences_comm f g n =
    count_same (λ i. not (eqb (f i) (g i))) (λ i. not (eqb (g i) (f i))) n (λ i l. go i (ℕ_discrete (f i) (g i)))
  where
    go : (i : ℕ) → Dec (f i ≡ g i) → not (eqb (f i) (g i)) ≡ not (eqb (g i) (f i))
    go i (yes e) = ap not (eq-eqb (f i) (g i) e ∙ sym (eq-eqb (g i) (f i) (sym e)))
    go i (no d) = ap not (ne_eqb (f i) (g i) d ∙ sym (ne_eqb (g i) (f i) (λ e. d (sym e))))

-- fields that are the same differ in no cell
pub differences_zero : (f g : Field) (n : ℕ) → Same f g n → differences f g n ≡ 0
unfolding differences
differences_zero f g n p = count_none (λ i. not (eqb (f i) (g i))) n (λ i l. ap not (eq-eqb (f i) (g i) (p i l)))

pub differences_self : (f : Field) (n : ℕ) → differences f f n ≡ 0
differences_self f n = differences_zero f f n (λ i l. refl)

module _ {L : Layout} {tag : Tags} (tells : Tells L tag) (f : Field) where
  -- correction changes as many cells as the nearest lawful field differs in
  pub differences_nearest : Received f L.cells → FewErasures L f → (g : Field) → Nearest L tag f g
      → differences f (corrected L tag f) L.cells ≡ differences f g L.cells
  differences_nearest p few g h =
      differences_same f f (corrected L tag f) g L.cells (λ i l. refl) (nearest_corrected tells f p few g h)
