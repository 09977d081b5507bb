-- The padding cells of a field, the test that they hold a padding, and the test that the padding is right.
use Prim.Native.Nat.{ℕ, ◌-◌, ◌*◌, ◌<◌, ◌≤◌}
use mathlib.Core.Bool.{Bool, true, false, not, ◌||◌, true≢false, false≢true}
use mathlib.Core.Logic.{◌⊎◌, inl, inr, ⊎_elim}
use mathlib.Core.Path.{◌≡◌, refl, sym, ◌∙◌}
use borrow.Author.Tests.{eq-eqb, eqb-true, le-leb, leb-true}
use lib.Dec.{eqb}
use Rattle.lattice.specs.Position.{Layout}
use Rattle.lattice.specs.Check.{holds_data}
use Rattle.lattice.proofs.theory.Bools.{and_true, and_left, and_right, or_true_left, or_true_right, or_cases}
use Rattle.codec.specs.Field.{Field, Same}
use Rattle.codec.specs.Payload.{payload_bytes, rank, PaddedWith, PaddingRight, is_padding, padded_with, padding_ok}
use Rattle.codec.proofs.theory.AllBelow.{all_below_lem, below_all}

-- a test under a condition: from the condition to the test, and back
when_true : (b c : Bool) → (b ≡ true → c ≡ true) → (not b || c) ≡ true
when_true true c p = p refl
when_true false c p = refl

true_when : (b c : Bool) → (not b || c) ≡ true → b ≡ true → c ≡ true
true_when true c p q = p
true_when false c p q = absurd (false≢true q)

-- the padding cells have the same values in fields that have the same cells
pub padded_same : (L : Layout) (f g : Field) {v : ℕ → ℕ} → Same f g L.cells
    → ((i : ℕ) → i < L.cells → holds_data L i ≡ true → 8 * payload_bytes L ≤ rank L i → f i ≡ v i)
    → (i : ℕ) → i < L.cells → holds_data L i ≡ true → 8 * payload_bytes L ≤ rank L i → g i ≡ v i
padded_same L f g s p i l h r = sym (s i l) ∙ p i l h r

module _ (L : Layout) (pad : ℕ → ℕ) where
  -- the padding at cell i, where it is a padding cell
  pad_at : ℕ → ℕ
  pad_at i = pad (rank L i - 8 * payload_bytes L)

  -- the test says whether the padding cells hold this padding
  padded_ok : (f : Field) → PaddedWith L pad f → padded_with L pad f ≡ true
  unfolding padded_with pad_at
  padded_ok f p =
      all_below_lem
      _
      L.cells
      (λ i l.
      when_true
      (is_padding L i)
      (eqb (f i) (pad_at i))
      (λ h.
      eq-eqb
      (f i)
      (pad_at i)
      (p
      i
      l
      (and_left (holds_data L i) _ h)
      (leb-true (8 * payload_bytes L) (rank L i) (and_right (holds_data L i) _ h)))))

  ok_padded : (f : Field) → padded_with L pad f ≡ true → PaddedWith L pad f
  unfolding padded_with pad_at
  ok_padded f e i l h r =
      eqb-true
      (f i)
      (pad_at i)
      (true_when
      (is_padding L i)
      (eqb (f i) (pad_at i))
      (below_all (λ i. not (is_padding L i) || eqb (f i) (pad_at i)) L.cells e i l)
      (and_true (holds_data L i) _ h (le-leb (8 * payload_bytes L) (rank L i) r)))

-- so do the tests of two paddings, for the one or the other
module _ (L : Layout) (a b : ℕ → ℕ) (f : Field) where
  either_ok : PaddedWith L a f ⊎ PaddedWith L b f → (padded_with L a f || padded_with L b f) ≡ true
  either_ok p =
      ⊎_elim (λ q. or_true_left (padded_with L a f) _ (padded_ok L a f q))
      (λ q. or_true_right (padded_with L a f) _ (padded_ok L b f q)) p

  ok_either : (padded_with L a f || padded_with L b f) ≡ true → PaddedWith L a f ⊎ PaddedWith L b f
  ok_either e =
      ⊎_elim (λ q. inl (ok_padded L a f q)) (λ q. inr (ok_padded L b f q)) (or_cases (padded_with L a f) (padded_with L b f) e)

module _ (L : Layout) where
  -- the test says whether the padding is right
  pub padding_ok_lem : (f : Field) → PaddingRight L f → padding_ok L f ≡ true
  unfolding padding_ok
  padding_ok_lem f p = either_ok L _ _ f p

  pub ok_padding : (f : Field) → padding_ok L f ≡ true → PaddingRight L f
  unfolding padding_ok
  ok_padding f e = ok_either L _ _ f e

  pub not_padding : (f : Field) → padding_ok L f ≡ false → ¬ PaddingRight L f
  not_padding f e p = true≢false (sym (padding_ok_lem f p) ∙ e)

  -- only the cells of the field matter
  pub padding_right_same : (f g : Field) → Same f g L.cells → PaddingRight L f → PaddingRight L g
  padding_right_same f g s p = ⊎_elim (λ q. inl (padded_same L f g s q)) (λ q. inr (padded_same L f g s q)) p
