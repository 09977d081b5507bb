-- The erased cells of a class, with one or two of them: the exclusive or of their tags, and the syndrome of a field that agrees
-- with the cells that were read.
use Prim.Native.Nat.{ℕ, ◌<◌}
use mathlib.Core.Bool.{Bool, true, false, cond, ◌&&◌}
use mathlib.Core.Logic.{◌≢◌, ◌⊎◌, inl, inr, ⊎_elim}
use mathlib.Core.Path.{◌≡◌, refl, sym, ap, ap₂, ◌∙◌}
use native.Mathlib.Decide.{ℕ_discrete}
use native.Mathlib.Omega.{arith}
use lib.Bits.{bit_xor, xor_zero_r}
use lib.Dec.{lit≤, eqb}
use borrow.Author.Tests.{eq-eqb, ne_eqb, eqb-true}
use Rattle.lattice.specs.Position.{Layout}
use Rattle.lattice.proofs.theory.Bools.{and_true, and_false_right, and_left, and_right}
use Rattle.lattice.proofs.theory.Counting.{bit}
use Rattle.codec.specs.Field.{Field, is_cell, Cells, erased, having}
use Rattle.codec.specs.Hamming.{Tags, syndrome}
use Rattle.codec.specs.Erasure.{is_erased, erasures_to, erasures, Agrees, erased_sum}
use Rattle.codec.specs.Working.{IsErasure}
use Rattle.codec.proofs.theory.CellValues.{most_cell, zero_cell, cond_cell, having_other, having_cells}
use Rattle.codec.proofs.theory.Syndrome.{sum_of, syndrome_same, syndrome_empty, syndrome_one, syndrome_sum, having_syndrome}
use Rattle.codec.proofs.theory.Pairs.{two_pass, three}

-- cell u is the only erased cell of class a
pub record Alone (L : Layout) (f : Field) (a u : ℕ) : Type 0 where
  pub erasure : IsErasure L f a L.cells u
  pub only : (i : ℕ) → IsErasure L f a L.cells i → i ≡ u

-- u and v are two such cells, and the only ones
pub record Pair (L : Layout) (f : Field) (a u v : ℕ) : Type 0 where
  pub first : IsErasure L f a L.cells u
  pub second : IsErasure L f a L.cells v
  pub different : u ≢ v
  pub only : (i : ℕ) → IsErasure L f a L.cells i → (i ≡ u) ⊎ (i ≡ v)

-- the test that erasures are counted by
abbrev pub erasure_test : Layout → Field → ℕ → ℕ → Bool
erasure_test L f a i = eqb (L.class i) a && is_erased f i

module _ (L : Layout) (f : Field) (a : ℕ) where
  pub erasure_passes : (i : ℕ) → IsErasure L f a L.cells i → erasure_test L f a i ≡ true
  erasure_passes i o =
      and_true (eqb (L.class i) a) (is_erased f i) (eq-eqb (L.class i) a o.class) (eq-eqb (f i) erased o.value)

  pub passes_erasure : (i : ℕ) → i < L.cells → erasure_test L f a i ≡ true → IsErasure L f a L.cells i
  passes_erasure i l p =
      record {
        below = l;
        class = eqb-true (L.class i) a (and_left (eqb (L.class i) a) _ p);
        value = eqb-true (f i) erased (and_right (eqb (L.class i) a) _ p);
      }

  -- with one erasure an erased cell is the only one, and with two erasures two of them are
  pub alone : erasures L f a ≡ 1 → (u : ℕ) → IsErasure L f a L.cells u → Alone L f a u
  unfolding erasures_to
  alone one u o = record { erasure = o; only = λ i p. go i p (ℕ_discrete i u) }
    where
      go : (i : ℕ) → IsErasure L f a L.cells i → Dec (i ≡ u) → i ≡ u
      go i p (yes e) = e
      go i p (no d) =
          absurd (omega (
            arith,
            two_pass (erasure_test L f a) L.cells i u p.below o.below (erasure_passes i p) (erasure_passes u o) d,
          ))

  pub pair : erasures L f a ≡ 2 → (u v : ℕ) → IsErasure L f a L.cells u → IsErasure L f a L.cells v → u ≢ v → Pair L f a u v
  unfolding erasures_to
  pair two u v o p different =
      record { first = o; second = p; different = different; only = λ i q. go i q (ℕ_discrete i u) (ℕ_discrete i v) }
    where
      P : ℕ → Bool
      P = erasure_test L f a

      go : (i : ℕ) → IsErasure L f a L.cells i → Dec (i ≡ u) → Dec (i ≡ v) → (i ≡ u) ⊎ (i ≡ v)
      go i q (yes e) y = inl e
      go i q (no x) (yes e) = inr e
      go i q (no x) (no y) =
          absurd (omega (
            arith,
            three P L.cells i u v q.below o.below p.below (erasure_passes i q) (erasure_passes u o)
                (erasure_passes v p) x y different,
          ))

-- a test joined with one that passes
and_own : (b c : Bool) → c ≡ true → (b && c) ≡ b
and_own true c p = p
and_own false c p = refl

bit_cell : (b : Bool) → is_cell (bit b) ≡ true
bit_cell b = cond_cell b 1 0 (most_cell 1 (lit≤ tt)) zero_cell

-- the field with one 1 cell, cell k, or with none
mark : Bool → ℕ → Field
mark b k i = bit (b && eqb i k)

mark_own : (b : Bool) (k i : ℕ) → i ≡ k → mark b k i ≡ bit b
unfolding mark
mark_own b k i e = ap bit (and_own b (eqb i k) (eq-eqb i k e))

mark_other : (b : Bool) (k i : ℕ) → i ≢ k → mark b k i ≡ 0
unfolding mark
mark_other b k i d = ap bit (and_false_right b (eqb i k) (ne_eqb i k d))

mark_none : (k i : ℕ) → mark false k i ≡ 0
unfolding mark
mark_none k i = refl

mark_cells : (b : Bool) (k n : ℕ) → Cells (mark b k) n
unfolding mark
mark_cells b k n i l = bit_cell (b && eqb i k)

-- the erased cells that pass a test: 1 in each of them, and 0 in all others
hidden : Field → (ℕ → Bool) → Field
hidden f P i = bit (P i && is_erased f i)

module _ (f : Field) (P : ℕ → Bool) where
  hidden_erased : (i : ℕ) → f i ≡ erased → hidden f P i ≡ bit (P i)
  unfolding hidden
  hidden_erased i e = ap bit (and_own (P i) (is_erased f i) (eq-eqb (f i) erased e))

  hidden_read : (i : ℕ) → f i ≢ erased → hidden f P i ≡ 0
  unfolding hidden
  hidden_read i d = ap bit (and_false_right (P i) (is_erased f i) (ne_eqb (f i) erased d))

  hidden_cells : (n : ℕ) → Cells (hidden f P) n
  unfolding hidden
  hidden_cells n i l = bit_cell (P i && is_erased f i)

module _ (L : Layout) (tag : Tags) (f : Field) (a : ℕ) where
  mark_syndrome : (b : Bool) (k : ℕ) → IsErasure L f a L.cells k → syndrome L tag (mark b k) a ≡ cond b (tag k) 0
  mark_syndrome true k o =
      syndrome_one L tag (mark true k) a k L.cells o.below o.class (mark_own true k k refl)
      (λ j m d h. find j (ℕ_discrete j k) h)
    where
      find : (j : ℕ) → Dec (j ≡ k) → mark true k j ≡ 1 → j ≡ k
      find j (yes e) h = e
      find j (no d) h = absurd (omega (arith, mark_other true k j d))
  mark_syndrome false k o = syndrome_empty L tag (mark false k) a L.cells (λ j m d h. omega (arith, mark_none k j))

  -- the erased cells of the class that pass a test: the tags of these alone
  hidden_one : (P : ℕ → Bool) (u : ℕ) → Alone L f a u → syndrome L tag (hidden f P) a ≡ cond (P u) (tag u) 0
  hidden_one P u o =
      syndrome_same L tag (hidden f P) (mark (P u) u) a L.cells (λ i l c. at i l c (ℕ_discrete i u))
      ∙ mark_syndrome (P u) u o.erasure
    where
      at : (i : ℕ) → i < L.cells → L.class i ≡ a → Dec (i ≡ u) → hidden f P i ≡ mark (P u) u i
      at i l c (yes e) =
          hidden_erased f P i (ap f e ∙ o.erasure.value) ∙ ap (λ (k : ℕ). bit (P k)) e ∙ sym (mark_own (P u) u i e)
      at i l c (no d) =
          hidden_read f P i (λ e. d (o.only i record { below = l; class = c; value = e })) ∙ sym (mark_other (P u) u i d)

  hidden_two : (P : ℕ → Bool) (u v : ℕ) → Pair L f a u v
      → syndrome L tag (hidden f P) a ≡ bit_xor (cond (P u) (tag u) 0) (cond (P v) (tag v) 0)
  hidden_two P u v o =
      syndrome_same L tag (hidden f P) (sum_of (mark (P u) u) (mark (P v) v)) a L.cells
      (λ i l c. at i l c (ℕ_discrete i u) (ℕ_discrete i v))
      ∙ syndrome_sum L tag (mark (P u) u) (mark (P v) v) a L.cells (mark_cells (P u) u _) (mark_cells (P v) v _)
      ∙ ap₂ bit_xor (mark_syndrome (P u) u o.first) (mark_syndrome (P v) v o.second)
    where
      at : (i : ℕ) → i < L.cells → L.class i ≡ a → Dec (i ≡ u) → Dec (i ≡ v)
          → hidden f P i ≡ sum_of (mark (P u) u) (mark (P v) v) i
      at i l c (yes x) (yes y) = absurd (o.different (sym x ∙ y))
      at i l c (yes x) (no y) =
          hidden_erased f P i (ap f x ∙ o.first.value)
          ∙ ap (λ (k : ℕ). bit (P k)) x
          ∙ sym (ap₂ bit_xor (mark_own (P u) u i x) (mark_other (P v) v i y) ∙ xor_zero_r (bit (P u)))
      at i l c (no x) (yes y) =
          hidden_erased f P i (ap f y ∙ o.second.value)
          ∙ ap (λ (k : ℕ). bit (P k)) y
          ∙ sym (ap₂ bit_xor (mark_other (P u) u i x) (mark_own (P v) v i y))
      at i l c (no x) (no y) =
          hidden_read f P i (λ e. ⊎_elim x y (o.only i record { below = l; class = c; value = e }))
          ∙ sym (ap₂ bit_xor (mark_other (P u) u i x) (mark_other (P v) v i y))

  -- the exclusive or of the erased tags
  pub alone_sum : (u : ℕ) → Alone L f a u → erased_sum L tag f a ≡ tag u
  unfolding erased_sum having hidden
  alone_sum u o = hidden_one (λ i. true) u o

  pub pair_sum : (u v : ℕ) → Pair L f a u v → erased_sum L tag f a ≡ bit_xor (tag u) (tag v)
  unfolding erased_sum having hidden
  pair_sum u v o = hidden_two (λ i. true) u v o

  -- a field that agrees with the cells that were read: its own cells where they are erased add to their syndrome
  agreed : (g : Field) → Agrees L f g a
      → syndrome L tag g a ≡ bit_xor (syndrome L tag f a) (syndrome L tag (hidden f (λ i. eqb (g i) 1)) a)
  unfolding Agrees having
  agreed g agrees =
      sym (having_syndrome L tag g a L.cells)
      ∙ syndrome_same L tag (having 1 g) (sum_of (having 1 f) (hidden f P)) a L.cells
      (λ i l c. at i l c (ℕ_discrete (f i) erased))
      ∙ syndrome_sum L tag (having 1 f) (hidden f P) a L.cells (having_cells 1 f L.cells) (hidden_cells f P L.cells)
      ∙ ap (λ (x : ℕ). bit_xor x (syndrome L tag (hidden f P) a)) (having_syndrome L tag f a L.cells)
    where
      P : ℕ → Bool
      P i = eqb (g i) 1

      at : (i : ℕ) → i < L.cells → L.class i ≡ a → Dec (f i ≡ erased) → having 1 g i ≡ sum_of (having 1 f) (hidden f P) i
      at i l c (yes e) = sym (ap₂ bit_xor (having_other 1 f i (λ o. omega arith)) (hidden_erased f P i e))
      at i l c (no d) =
          sym (ap (λ (x : ℕ). bit_xor (having 1 f i) x) (hidden_read f P i d)
          ∙ xor_zero_r (having 1 f i)
          ∙ ap (λ (v : ℕ). bit (eqb v 1)) (agrees i l c d))

  -- with one of them, of the value x, and with two, of the values x and y
  pub alone_syndrome : (g : Field) → Agrees L f g a → (u x : ℕ) → Alone L f a u → g u ≡ x
      → syndrome L tag g a ≡ bit_xor (syndrome L tag f a) (cond (eqb x 1) (tag u) 0)
  alone_syndrome g agrees u x o p =
      agreed g agrees
      ∙ ap
      (λ (t : ℕ). bit_xor (syndrome L tag f a) t)
      (hidden_one (λ i. eqb (g i) 1) u o ∙ ap (λ (k : ℕ). cond (eqb k 1) (tag u) 0) p)

  pub pair_syndrome : (g : Field) → Agrees L f g a → (u v x y : ℕ) → Pair L f a u v → g u ≡ x → g v ≡ y
      → syndrome L tag g a ≡ bit_xor (syndrome L tag f a) (bit_xor (cond (eqb x 1) (tag u) 0) (cond (eqb y 1) (tag v) 0))
  pair_syndrome g agrees u v x y o p q =
      agreed g agrees
      ∙ ap
      (λ (t : ℕ). bit_xor (syndrome L tag f a) t)
      (hidden_two (λ i. eqb (g i) 1) u v o
      ∙ ap₂ (λ (j k : ℕ). bit_xor (cond (eqb j 1) (tag u) 0) (cond (eqb k 1) (tag v) 0)) p q)
