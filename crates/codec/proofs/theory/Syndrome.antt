-- The syndrome of a class, for any layout of cells in classes and any tags.
use Prim.Native.Nat.{ℕ, zero, suc, ◌+◌, ◌^◌, ◌<◌, ◌≤◌}
use mathlib.Core.Bool.{Bool, true, false, cond, ◌&&◌}
use mathlib.Core.Logic.{◌≢◌, ⊎_elim}
use mathlib.Core.Path.{◌≡◌, refl, sym, ap, ap₂, ◌∙◌}
use native.Mathlib.Decide.{ℕ_discrete}
use native.Mathlib.Nat.{le_refl, not-suc-le-zero, eq-or-lt_of_le, le_of_suc-le-suc}
use native.Mathlib.Numerals.{add-one}
use native.Mathlib.Omega.{arith}
use lib.Bits.{bit_xor, xor_self, xor_zero_r, xor_lt}
use lib.Dec.{eqb}
use lib.Pow.{pow_pos}
use borrow.Author.Tests.{eq-eqb, ne_eqb}
use Rattle.lattice.specs.Position.{Layout}
use Rattle.codec.specs.Field.{Field, Cells, having}
use Rattle.codec.specs.Hamming.{Tags, term, syndrome_to, syndrome, OneDiffers}
use Rattle.codec.proofs.theory.CellValues.{cell_most}
use Rattle.codec.proofs.theory.Xor.{xor_cancel_left, xor_exchange}

-- the sum of two fields, cell by cell: of cells 0 and 1 it is 1 where they differ
abbrev pub sum_of : Field → Field → Field
sum_of f g i = bit_xor (f i) (g i)

sum_term : (b : Bool) (x y p : ℕ) → x ≤ 1 → y ≤ 1
    → bit_xor (cond (b && eqb x 1) p 0) (cond (b && eqb y 1) p 0) ≡ cond (b && eqb (bit_xor x y) 1) p 0
sum_term false x y p k l = refl
sum_term true zero zero p k l = refl
sum_term true zero (suc zero) p k l = refl
sum_term true zero (suc (suc y)) p k l = absurd (omega arith)
sum_term true (suc zero) zero p k l = xor_zero_r p
sum_term true (suc zero) (suc zero) p k l = xor_self p
sum_term true (suc zero) (suc (suc y)) p k l = absurd (omega arith)
sum_term true (suc (suc x)) y p k l = absurd (omega arith)

sum_one : (x y : ℕ) → x ≤ 1 → y ≤ 1 → x ≢ y → bit_xor x y ≡ 1
sum_one zero zero k l d = absurd (d refl)
sum_one zero (suc zero) k l d = refl
sum_one zero (suc (suc y)) k l d = absurd (omega arith)
sum_one (suc zero) zero k l d = refl
sum_one (suc zero) (suc zero) k l d = absurd (d refl)
sum_one (suc zero) (suc (suc y)) k l d = absurd (omega arith)
sum_one (suc (suc x)) y k l d = absurd (omega arith)

one_sum : (x y : ℕ) → bit_xor x y ≡ 1 → x ≢ y
one_sum x y e d = omega (arith, ap (λ (z : ℕ). bit_xor z y) d, xor_self y)

one_bit : (b : Bool) → eqb (cond b 1 0) 1 ≡ b
one_bit true = refl
one_bit false = refl

module _ (L : Layout) (tag : Tags) where
  -- a cell adds its tag where it is a 1 cell of the class, and else nothing
  term_own : (f : Field) (a i : ℕ) → L.class i ≡ a → f i ≡ 1 → term L tag f a i ≡ tag i
  term_own f a i p q = rw (eq-eqb (L.class i) a p, eq-eqb (f i) 1 q)

  term_other : (f : Field) (a i : ℕ) → (L.class i ≡ a → f i ≢ 1) → term L tag f a i ≡ 0
  term_other f a i p = go (ℕ_discrete (L.class i) a)
    where
      go : Dec (L.class i ≡ a) → term L tag f a i ≡ 0
      go (yes e) = rw (eq-eqb (L.class i) a e, ne_eqb (f i) 1 (p e))
      go (no e) = rw (ne_eqb (L.class i) a e)

  term_same : (f g : Field) (a i : ℕ) → (L.class i ≡ a → f i ≡ g i) → term L tag f a i ≡ term L tag g a i
  term_same f g a i p = go (ℕ_discrete (L.class i) a)
    where
      go : Dec (L.class i ≡ a) → term L tag f a i ≡ term L tag g a i
      go (yes e) = ap (λ (x : ℕ). cond (eqb (L.class i) a && eqb x 1) (tag i) 0) (p e)
      go (no e) = rw (ne_eqb (L.class i) a e)

  -- the syndrome over one cell more
  pub syndrome_step : (f : Field) (a n : ℕ) → syndrome_to L tag f a (n + 1) ≡ bit_xor (syndrome_to L tag f a n) (term L tag f a n)
  syndrome_step f a n = rw (add-one n)

  -- it takes in the tag of a 1 cell of the class, and stays at any other cell
  pub syndrome_own : (f : Field) (a n : ℕ) → L.class n ≡ a → f n ≡ 1
      → syndrome_to L tag f a (n + 1) ≡ bit_xor (syndrome_to L tag f a n) (tag n)
  syndrome_own f a n p q = syndrome_step f a n ∙ ap (λ (x : ℕ). bit_xor (syndrome_to L tag f a n) x) (term_own f a n p q)

  pub syndrome_other : (f : Field) (a n : ℕ) → (L.class n ≡ a → f n ≢ 1) → syndrome_to L tag f a (n + 1) ≡ syndrome_to L tag f a n
  syndrome_other f a n p =
      syndrome_step f a n
      ∙ ap (λ (x : ℕ). bit_xor (syndrome_to L tag f a n) x) (term_other f a n p)
      ∙ xor_zero_r (syndrome_to L tag f a n)

  -- only the cells of the class matter
  pub syndrome_same : (f g : Field) (a n : ℕ) → ((i : ℕ) → i < n → L.class i ≡ a → f i ≡ g i)
      → syndrome_to L tag f a n ≡ syndrome_to L tag g a n
  syndrome_same f g a zero p = refl
  syndrome_same f g a (suc n) p =
      ap₂ bit_xor (syndrome_same f g a n (λ i l. p i (omega arith))) (term_same f g a n (p n (le_refl _)))

  -- a class with no 1 cell, or with no cell, has the syndrome 0
  pub syndrome_empty : (f : Field) (a n : ℕ) → ((i : ℕ) → i < n → L.class i ≡ a → f i ≢ 1) → syndrome_to L tag f a n ≡ 0
  syndrome_empty f a zero p = refl
  syndrome_empty f a (suc n) p =
      ap₂ bit_xor (syndrome_empty f a n (λ i l. p i (omega arith))) (term_other f a n (p n (le_refl _)))

  -- a class with one 1 cell has that cell's tag
  pub syndrome_one : (f : Field) (a i n : ℕ) → i < n → L.class i ≡ a → f i ≡ 1
      → ((j : ℕ) → j < n → L.class j ≡ a → f j ≡ 1 → j ≡ i) → syndrome_to L tag f a n ≡ tag i
  syndrome_one f a i zero l p q only = absurd (not-suc-le-zero l)
  syndrome_one f a i (suc n) l p q only =
      ⊎_elim
      (λ (e : i ≡ n).
      ap₂
      bit_xor
      (syndrome_empty f a n (λ j k c o. omega (arith, only j (omega arith) c o)))
      (ap (λ (k : ℕ). term L tag f a k) (sym e) ∙ term_own f a i p q))
      (λ (k : i < n).
      ap₂
      bit_xor
      (syndrome_one f a i n k p q (λ j m. only j (omega arith)))
      (term_other f a n (λ c o. omega (arith, only n (le_refl _) c o)))
      ∙ xor_zero_r (tag i))
      (eq-or-lt_of_le (le_of_suc-le-suc l))

  -- tags below 2 to the power of k have their exclusive or there
  pub syndrome_below : (f : Field) (a n k : ℕ) → ((i : ℕ) → i < n → L.class i ≡ a → tag i < 2 ^ k)
      → syndrome_to L tag f a n < 2 ^ k
  syndrome_below f a zero k p = pow_pos k
  syndrome_below f a (suc n) k p =
      xor_lt k (syndrome_to L tag f a n) (term L tag f a n) (syndrome_below f a n k (λ i l. p i (omega arith)))
      (go (ℕ_discrete (L.class n) a) (ℕ_discrete (f n) 1))
    where
      go : Dec (L.class n ≡ a) → Dec (f n ≡ 1) → term L tag f a n < 2 ^ k
      go (yes e) (yes o) = rw (term_own f a n e o) (p n (le_refl _) e)
      go (yes e) (no o) = rw (term_other f a n (λ c. o)) (pow_pos k)
      go (no e) o = rw (term_other f a n (λ c. absurd (e c))) (pow_pos k)

  -- the syndrome of a sum is the sum of the syndromes
  pub syndrome_sum : (f g : Field) (a n : ℕ) → Cells f n → Cells g n
      → syndrome_to L tag (sum_of f g) a n ≡ bit_xor (syndrome_to L tag f a n) (syndrome_to L tag g a n)
  syndrome_sum f g a zero p q = refl
  syndrome_sum f g a (suc n) p q =
      ap₂
      bit_xor
      (syndrome_sum f g a n (λ i l. p i (omega arith)) (λ i l. q i (omega arith)))
      (sym (sum_term (eqb (L.class n) a) (f n) (g n) (tag n) (cell_most _ (p n (le_refl _))) (cell_most _ (q n (le_refl _)))))
      ∙ xor_exchange (syndrome_to L tag f a n) (syndrome_to L tag g a n) (term L tag f a n) (term L tag g a n)

  -- fields that differ in one cell of the class have syndromes that differ by its tag
  syndrome_flipped : (f g : Field) (a i n : ℕ) → Cells f n → Cells g n → i < n → L.class i ≡ a → f i ≢ g i
      → ((j : ℕ) → j < n → L.class j ≡ a → f j ≢ g j → j ≡ i)
      → syndrome_to L tag g a n ≡ bit_xor (syndrome_to L tag f a n) (tag i)
  syndrome_flipped f g a i n p q l c d only =
      sym (xor_cancel_left (syndrome_to L tag f a n) (syndrome_to L tag g a n))
      ∙ ap (λ (x : ℕ). bit_xor (syndrome_to L tag f a n) x) (sym (syndrome_sum f g a n p q) ∙ one)
    where
      one : syndrome_to L tag (sum_of f g) a n ≡ tag i
      one =
          syndrome_one
          (sum_of f g)
          a
          i
          n
          l
          c
          (sum_one (f i) (g i) (cell_most _ (p i l)) (cell_most _ (q i l)) d)
          (λ j m e o. only j m e (one_sum (f j) (g j) o))

  pub one_flips : (f g : Field) (a i : ℕ) → Cells f L.cells → Cells g L.cells → OneDiffers L f g a
      → i < L.cells → L.class i ≡ a → f i ≢ g i → syndrome L tag g a ≡ bit_xor (syndrome L tag f a) (tag i)
  unfolding OneDiffers
  one_flips f g a i p q near l c d =
      syndrome_flipped f g a i L.cells p q l c d (λ j m e o. near j i m l e c o d)

  -- only the 1 cells matter
  pub having_syndrome : (f : Field) (a n : ℕ) → syndrome_to L tag (having 1 f) a n ≡ syndrome_to L tag f a n
  unfolding having
  having_syndrome f a zero = refl
  having_syndrome f a (suc n) =
      ap₂
      bit_xor
      (having_syndrome f a n)
      (ap (λ (b : Bool). cond (eqb (L.class n) a && b) (tag n) 0) (one_bit (eqb (f n) 1)))
