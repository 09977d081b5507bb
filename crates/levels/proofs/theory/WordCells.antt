-- The cells of words of six, for any layout of cells in classes: their numbers and places.
use Prim.Native.Nat.{ℕ, zero, suc, ◌+◌, ◌-◌, ◌*◌, ◌/◌, ◌%◌, ◌<◌, ◌≤◌}
use mathlib.Core.Bool.{Bool, true, false, ◌&&◌}
use mathlib.Core.Path.{◌≡◌, refl, sym, ap, ap₂, subst, ◌∙◌}
use native.Mathlib.Decide.{dec_lt}
use native.Mathlib.Nat.{mod-lt}
use native.Mathlib.Omega.{arith}
use lib.Dec.{leb, lit<}
use borrow.Author.Tests.{eq-eqb, eqb-true, le-leb, leb-true}
use Rattle.lattice.specs.Counting.{count, sum_below}
use Rattle.lattice.specs.Position.{Layout, size, position}
use Rattle.lattice.proofs.theory.Bools.{and_true, and_left, and_right}
use Rattle.lattice.proofs.theory.Counting.{count_same, sum_same}
use Rattle.lattice.proofs.theory.Positions.{position_least, position_one, position_some, by_class}
use Rattle.lattice.specs.Digits.{words_in, words_below}
use Rattle.levels.specs.Words.{slot, in_word, word, is_of}
use Rattle.levels.proofs.theory.SixCells.{sum_up, sum_reach, count_whole}

-- two numbers of one group of six and one place in it are the same
six_one : (p q : ℕ) → 1 ≤ p → 1 ≤ q → (p - 1) / 6 ≡ (q - 1) / 6 → (p - 1) % 6 ≡ (q - 1) % 6 → p ≡ q
six_one p q a b d e = omega arith

module _ (L : Layout) where
  pub slot_below : (i : ℕ) → slot L i < 6
  unfolding slot
  slot_below i = mod-lt (position L i - 1) (lit< tt)

  -- a cell of a word has a position in the whole groups of six of its class
  pub in_word_lem : (i : ℕ) → in_word L i ≡ true → (position L i - 1) / 6 < words_in (size L (L.class i))
  unfolding in_word words_in
  in_word_lem i e = omega (arith, leb-true (position L i) (words_in (size L (L.class i)) * 6) e, position_least L i)

  pub word_in : (i : ℕ) → (position L i - 1) / 6 < words_in (size L (L.class i)) → in_word L i ≡ true
  unfolding in_word words_in
  word_in i l = le-leb (position L i) (words_in (size L (L.class i)) * 6) (omega (arith, position_least L i))

  pub of_in : (w i : ℕ) → is_of L w i ≡ true → in_word L i ≡ true
  unfolding is_of
  of_in w i e = and_left _ _ e

  pub of_word : (w i : ℕ) → is_of L w i ≡ true → word L i ≡ w
  unfolding is_of
  of_word w i e = eqb-true _ w (and_right (in_word L i) _ e)

  pub is_of_lem : (w i : ℕ) → in_word L i ≡ true → word L i ≡ w → is_of L w i ≡ true
  unfolding is_of
  is_of_lem w i e p = and_true _ _ e (eq-eqb _ w p)

  -- the words of a class end before those of a later one begin
  words_up : (a b : ℕ) → a < b → words_below L a + words_in (size L a) ≤ words_below L b
  unfolding words_below
  words_up a b l = sum_up (λ c. words_in (size L c)) a b l

  pub word_below : (m : ℕ) (i : ℕ) → L.class i < m → in_word L i ≡ true → word L i < words_below L m
  unfolding word
  word_below m i l e = omega (arith, words_up (L.class i) m l, in_word_lem i e)

  -- so the cells of a word are of one class
  pub word_class : (i j : ℕ) → in_word L i ≡ true → in_word L j ≡ true → word L i ≡ word L j → L.class i ≡ L.class j
  unfolding word
  word_class i j p q e = go (dec_lt (L.class i) (L.class j)) (dec_lt (L.class j) (L.class i))
    where
      go : Dec (L.class i < L.class j) → Dec (L.class j < L.class i) → L.class i ≡ L.class j
      go (yes l) d = absurd (omega (arith, words_up (L.class i) (L.class j) l, in_word_lem i p, e))
      go (no l) (yes r) = absurd (omega (arith, words_up (L.class j) (L.class i) r, in_word_lem j q, e))
      go (no l) (no r) = omega arith

  -- and two of them at one place are the same cell
  pub word_one : (i j : ℕ) → in_word L i ≡ true → in_word L j ≡ true → word L i ≡ word L j → slot L i ≡ slot L j → i ≡ j
  unfolding word slot
  word_one i j p q e s =
      let c : L.class i ≡ L.class j = word_class i j p q e in
      let h : (position L i - 1) / 6 ≡ (position L j - 1) / 6 = omega (arith, e, ap (words_below L) c) in
      position_one L i j c (six_one _ _ (position_least L i) (position_least L j) h s)

  pub of_one : (w i j : ℕ) → is_of L w i ≡ true → is_of L w j ≡ true → slot L i ≡ slot L j → i ≡ j
  of_one w i j p q s = word_one i j (of_in w i p) (of_in w j q) (of_word w i p ∙ sym (of_word w j q)) s

  -- each place of each word of a class is a cell
  pub place_some : (a v k : ℕ) → v < words_in (size L a) → k < 6
      → (i : ℕ) × (i < L.cells) × (is_of L (words_below L a + v) i ≡ true) × (slot L i ≡ k)
  unfolding word slot words_in
  place_some a v k l h =
      let r = position_some L a L.cells (6 * v + k + 1) (omega arith) (omega (arith, l, h)) in
      let q : (position L r.0 - 1) / 6 ≡ v = omega (arith, r.3, h) in (
        r.0,
        r.1,
        is_of_lem (words_below L a + v) r.0
            (word_in r.0 (omega (arith, q, ap (λ (b : ℕ). size L b) r.2, l)))
            (ap₂ ◌+◌ (ap (words_below L) r.2) q),
        omega (arith, r.3, h),
      )

  pub word_some : (m w k : ℕ) → w < words_below L m → k < 6 → (i : ℕ) × (i < L.cells) × (is_of L w i ≡ true) × (slot L i ≡ k)
  unfolding words_below
  word_some m w k l h =
      let r = sum_reach (λ b. words_in (size L b)) m w l in
      let c = place_some r.0 r.1 k r.3 h in
      (c.0, c.1, subst (λ (x : ℕ). is_of L x c.0 ≡ true) (sym r.4) c.2, c.3)

  -- a word that has a cell has one at each place
  pub of_some : (w i k : ℕ) → is_of L w i ≡ true → k < 6 → (j : ℕ) × (j < L.cells) × (is_of L w j ≡ true) × (slot L j ≡ k)
  unfolding word
  of_some w i k p h =
      let c = place_some (L.class i) ((position L i - 1) / 6) k (in_word_lem i (of_in w i p)) h in
      (c.0, c.1, subst (λ (x : ℕ). is_of L x c.0 ≡ true) (of_word w i p) c.2, c.3)

  -- how many cells of words pass a test of their place: as many in each word
  pub places_count : (T : ℕ → Bool) (m : ℕ) → ((i : ℕ) → i < L.cells → L.class i < m)
      → count (λ i. in_word L i && T (slot L i)) L.cells ≡ words_below L m * count T 6
  unfolding in_word slot words_below words_in
  places_count T m below =
      sym (by_class L (λ a p. leb p (words_in (size L a) * 6) && T ((p - 1) % 6)) m L.cells below)
      ∙ sum_same _ _ m (λ a l. in_class (size L a))
      ∙ times (λ a. words_in (size L a)) (count T 6) m
    where
      less : (p : ℕ) → p + 1 - 1 ≡ p
      less p = omega arith

      in_class : (n : ℕ) → count (λ p. leb (p + 1) (n / 6 * 6) && T ((p + 1 - 1) % 6)) n ≡ n / 6 * count T 6
      in_class n =
          count_same _ _ n (λ p h. ap (λ (x : ℕ). leb (p + 1) (n / 6 * 6) && T (x % 6)) (less p)) ∙ count_whole T n

      times : (f : ℕ → ℕ) (c m : ℕ) → sum_below (λ a. f a * c) m ≡ sum_below f m * c
      times f c zero = omega arith
      times f c (suc m) = omega (arith, times f c m)

  -- six cells for each word
  pub words_cells : (m : ℕ) → ((i : ℕ) → i < L.cells → L.class i < m) → count (in_word L) L.cells ≡ 6 * words_below L m
  words_cells m below =
      count_same _ _ L.cells (λ i l. sym (always (in_word L i))) ∙ places_count (λ k. true) m below ∙ omega arith
    where
      always : (b : Bool) → (b && true) ≡ b
      always true = refl
      always false = refl
