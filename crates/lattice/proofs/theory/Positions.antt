-- The sizes of classes and the positions of their cells, for any layout of cells in classes.
use Prim.Native.Nat.{ℕ, zero, suc, ◌+◌, ◌-◌, ◌<◌, ◌≤◌}
use mathlib.Core.Bool.{Bool, true, false, cond, ◌&&◌}
use mathlib.Core.Path.{◌≡◌, refl, sym, ap, ap₂, ◌∙◌}
use native.Mathlib.Decide.{dec_lt}
use native.Mathlib.Nat.{add_comm, zero-add, le_refl}
use native.Mathlib.Omega.{arith}
use lib.Dec.{eqb}
use borrow.Author.Tests.{eq-eqb, ne_eqb, eqb-true}
use Rattle.lattice.specs.Position.{Layout, size_to, position}
use Rattle.lattice.specs.Counting.{count, sum_below}
use Rattle.lattice.proofs.theory.Counting.{bit, count_step, count_yes, count_no, count_most, count_mono, count_reach}
use Rattle.lattice.proofs.theory.Counting.{sum_same, sum_none, sum_add, sum_one}

module _ (L : Layout) where
  -- a class has one cell more after each of its cells, and no more after the others
  pub size_none : (a : ℕ) → size_to L a 0 ≡ 0
  unfolding size_to
  size_none a = refl

  pub size_own : (a n : ℕ) → L.class n ≡ a → size_to L a (n + 1) ≡ size_to L a n + 1
  unfolding size_to
  size_own a n e = count_yes (λ i. eqb (L.class i) a) n (eq-eqb (L.class n) a e)

  pub size_other : (a n : ℕ) → (L.class n ≡ a → ⊥) → size_to L a (n + 1) ≡ size_to L a n
  unfolding size_to
  size_other a n e = count_no (λ i. eqb (L.class i) a) n (ne_eqb (L.class n) a e)

  pub size_most : (a n : ℕ) → size_to L a n ≤ n
  unfolding size_to
  size_most a n = count_most (λ i. eqb (L.class i) a) n

  pub size_mono : (a m n : ℕ) → m ≤ n → size_to L a m ≤ size_to L a n
  unfolding size_to
  size_mono a m n p = count_mono (λ i. eqb (L.class i) a) m n p

  -- a class with none of the cells is empty
  pub position_least : (i : ℕ) → 1 ≤ position L i
  unfolding position
  position_least i = omega arith

  -- the position of a cell is the size of its class just after it
  pub position_size : (i : ℕ) → position L i ≡ size_to L (L.class i) (i + 1)
  unfolding position
  position_size i = sym (size_own (L.class i) i refl)

  -- and at most the class's size in the whole field
  pub position_most : (i n : ℕ) → i < n → position L i ≤ size_to L (L.class i) n
  position_most i n p = rw (position_size i) (size_mono (L.class i) (i + 1) n (omega arith))

  -- positions rise along a class
  pub position_rises : (i j : ℕ) → L.class i ≡ L.class j → i < j → position L i < position L j
  unfolding position
  position_rises i j e p = omega (arith, position_most i j p, ap (λ (a : ℕ). size_to L a j) e)

  -- so two cells of one class and one position are the same cell
  pub position_one : (i j : ℕ) → L.class i ≡ L.class j → position L i ≡ position L j → i ≡ j
  position_one i j e p = go (dec_lt i j) (dec_lt j i)
    where
      go : Dec (i < j) → Dec (j < i) → i ≡ j
      go (yes l) d = absurd (omega (arith, position_rises i j e l))
      go (no l) (yes r) = absurd (omega (arith, position_rises j i (sym e) r))
      go (no l) (no r) = omega arith

  -- each position of a class up to its size is a cell's
  pub position_some : (a n p : ℕ) → 1 ≤ p → p ≤ size_to L a n → (i : ℕ) × (i < n) × (L.class i ≡ a) × (position L i ≡ p)
  unfolding size_to position
  position_some a n p l q =
      let r = count_reach (λ i. eqb (L.class i) a) n (p - 1) (omega arith) in
      let e : L.class r.0 ≡ a = eqb-true (L.class r.0) a r.2 in
      (r.0, r.1, e, omega (arith, ap (λ (b : ℕ). size_to L b r.0) e, r.3))

-- what two tests add to a count: what the second does where the first holds
both : (b c : Bool) → bit (b && c) ≡ cond b (bit c) 0
both true c = refl
both false c = refl

-- a count to the next number, where a test holds
one_more : (b : Bool) (f : ℕ → Bool) (k : ℕ) → count f (bit b + k) ≡ cond b (bit (f k)) 0 + count f k
one_more true f k = ap (λ (j : ℕ). count f j) (add_comm 1 k) ∙ count_step f k
one_more false f k = ap (λ (j : ℕ). count f j) (zero-add k) ∙ sym (zero-add (count f k))

-- each of the first n cells is in one class, and all classes are below m: how often a test holds over the cells is the sum of how
-- often it holds over those of each class
pub sum_classes : (L : Layout) (test : ℕ → Bool) (m n : ℕ) → ((i : ℕ) → i < n → L.class i < m)
    → sum_below (λ a. count (λ i. eqb (L.class i) a && test i) n) m ≡ count test n
sum_classes L test m zero p = sum_none (λ a. 0) m (λ a l. refl)
sum_classes L test m (suc n) p =
    sum_add (λ a. bit (eqb (L.class n) a && test n)) (λ a. count (λ i. eqb (L.class i) a && test i) n) m
    ∙ ap₂
    ◌+◌
    (sum_same _ _ m (λ a l. both (eqb (L.class n) a) (test n))
    ∙ sum_one (λ a. bit (test n)) (L.class n) m (p n (le_refl _)))
    (sum_classes L test m n (λ i l. p i (omega arith)))

module _ (L : Layout) (P : ℕ → ℕ → Bool) where
  -- a test of class and position holds as often over the cells of a class as over its positions
  pub in_class : (a n : ℕ) → count (λ i. eqb (L.class i) a && P (L.class i) (position L i)) n
      ≡ count (λ p. P a (p + 1)) (size_to L a n)
  unfolding size_to position
  in_class a zero = refl
  in_class a (suc n) =
      ap₂ ◌+◌ (both (eqb (L.class n) a) _ ∙ here (eqb (L.class n) a) refl) (in_class a n)
      ∙ sym (one_more (eqb (L.class n) a) (λ p. P a (p + 1)) (size_to L a n))
    where
      here : (b : Bool) → eqb (L.class n) a ≡ b
          → cond b (bit (P (L.class n) (size_to L (L.class n) n + 1))) 0 ≡ cond b (bit (P a (size_to L a n + 1))) 0
      here true e = ap (λ (c : ℕ). bit (P c (size_to L c n + 1))) (eqb-true (L.class n) a e)
      here false e = refl

  -- so over all cells it holds as often as over the positions of all classes together
  pub by_class : (m n : ℕ) → ((i : ℕ) → i < n → L.class i < m)
      → sum_below (λ a. count (λ p. P a (p + 1)) (size_to L a n)) m ≡ count (λ i. P (L.class i) (position L i)) n
  by_class m n p =
      sum_same _ _ m (λ a l. sym (in_class a n)) ∙ sum_classes L (λ i. P (L.class i) (position L i)) m n p
