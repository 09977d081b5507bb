-- The digits that a field holds, for any layout of cells in classes, and the number of word cells that differ.
use Prim.Native.Nat.{ℕ, zero, suc, ◌<◌, ◌≤◌}
use mathlib.Core.Bool.{Bool, true, false, cond, not, ◌&&◌}
use mathlib.Core.List.{List}
use mathlib.Core.Logic.{⊎_elim}
use mathlib.Core.Path.{◌≡◌, refl, sym, ap, ap₂, subst, ◌∙◌}
use native.Mathlib.Decide.{ℕ_discrete}
use native.Mathlib.Nat.{eq-or-lt_of_le, le_of_suc-le-suc, not-suc-le-zero}
use native.Mathlib.Omega.{arith}
use lib.Dec.{eqb}
use lib.ListN.{length, get_or}
use lib.Seq.{ext_get_or}
use borrow.Author.Tests.{eq-eqb, ne_eqb}
use Rattle.lattice.specs.Counting.{count}
use Rattle.lattice.specs.Position.{Layout}
use Rattle.lattice.proofs.theory.Counting.{count_more, count_reach, count_same}
use Rattle.codec.specs.Field.{Field, Same}
use Rattle.codec.proofs.theory.FieldLists.{length_list_of, get_d_list_of}
use Rattle.levels.specs.Level.{max_level, Levels}
use Rattle.levels.specs.Words.{in_word}
use Rattle.levels.specs.Payload.{holds_digit, digit_rank, CarriesDigits, held_digit, held_digits, word_differences_to}
use Rattle.levels.specs.Payload.{word_differences}

module _ (L : Layout) where
  -- the ranks rise along the cells that hold digits
  pub rank_rises : (i j : ℕ) → i < j → holds_digit L i ≡ true → digit_rank L i < digit_rank L j
  unfolding digit_rank
  rank_rises i j l e = omega (arith, count_more (holds_digit L) i j l e)

  rank_some : (k : ℕ) → k < count (holds_digit L) L.cells
      → (i : ℕ) × (i < L.cells) × (holds_digit L i ≡ true) × (digit_rank L i ≡ k)
  unfolding digit_rank
  rank_some k l = count_reach (holds_digit L) L.cells k l

  pub rank_below : (i : ℕ) → i < L.cells → holds_digit L i ≡ true → digit_rank L i < count (holds_digit L) L.cells
  unfolding digit_rank
  rank_below i l e = omega (arith, count_more (holds_digit L) i L.cells l e)

  module _ (f : Field) where
    -- digit k over one cell more
    pub digit_here : (k i : ℕ) → holds_digit L i ≡ true → digit_rank L i ≡ k → held_digit L f k (suc i) ≡ f i
    digit_here k i e r = rw (e, eq-eqb (digit_rank L i) k r)

    pub digit_past : (k i : ℕ) → (digit_rank L i ≡ k → ⊥) → held_digit L f k (suc i) ≡ held_digit L f k i
    digit_past k i d = rw (ne_eqb (digit_rank L i) k d) (cut (holds_digit L i))
      where
        cut : (b : Bool) → cond (b && false) (f i) (held_digit L f k i) ≡ held_digit L f k i
        cut true = refl
        cut false = refl

    -- digit k is the value of the cell of rank k
    pub digit_held : (k i m : ℕ) → i < m → holds_digit L i ≡ true → digit_rank L i ≡ k → held_digit L f k m ≡ f i
    digit_held k i zero l e r = absurd (not-suc-le-zero l)
    digit_held k i (suc m) l e r =
        ⊎_elim
        (λ (q : i ≡ m).
        digit_here k m (subst (λ (j : ℕ). holds_digit L j ≡ true) q e) (subst (λ (j : ℕ). digit_rank L j ≡ k) q r) ∙ ap f (sym q))
        (λ (q : i < m). digit_past k m (λ h. omega (arith, rank_rises i m q e, r, h)) ∙ digit_held k i m q e r)
        (eq-or-lt_of_le (le_of_suc-le-suc l))

  -- m digits, where m cells hold one
  module _ (m : ℕ) (all : count (holds_digit L) L.cells ≡ m) where
    pub held_length : (f : Field) → length (held_digits L m f) ≡ m
    unfolding held_digits
    held_length f = length_list_of _ m

    pub held_at : (f : Field) (k : ℕ) → k < m → get_or (held_digits L m f) k 0 ≡ held_digit L f k L.cells
    unfolding held_digits
    held_at f k l = get_d_list_of (λ j. held_digit L f j L.cells) m k l

    -- each is the value of a cell, so a level where the cells are
    pub held_level : (f : Field) → Levels f L.cells → (k : ℕ) → k < m → get_or (held_digits L m f) k 0 ≤ max_level
    held_level f levels k l =
        let i = rank_some k (omega (arith, all, l)) in
        rw (held_at f k l ∙ digit_held f k i.0 L.cells i.1 i.2 i.3) (levels i.0 i.1)

    -- a field carries the digits that it holds
    pub held_carries : (f : Field) → CarriesDigits L f (held_digits L m f)
    held_carries f i l e =
        sym
        (held_at f (digit_rank L i) (omega (arith, rank_below i l e, all))
        ∙ digit_held f (digit_rank L i) i L.cells l e refl)

    -- and holds the digits that it carries
    pub carries_held : (f : Field) (p : List ℕ) → length p ≡ m → CarriesDigits L f p → held_digits L m f ≡ p
    carries_held f p long c =
        ext_get_or 0 (held_digits L m f) p (held_length f ∙ sym long) (λ k l. at k (omega (arith, held_length f, l)))
      where
        at : (k : ℕ) → k < m → get_or (held_digits L m f) k 0 ≡ get_or p k 0
        at k l =
            let i = rank_some k (omega (arith, all, l)) in
            held_at f k l
            ∙ digit_held f k i.0 L.cells i.1 i.2 i.3
            ∙ c i.0 i.1 i.2
            ∙ ap (λ (j : ℕ). get_or p j 0) i.3

    -- fields that agree hold the same digits
    pub held_same : (f g : Field) → Same f g L.cells → held_digits L m f ≡ held_digits L m g
    held_same f g s =
        carries_held f (held_digits L m g) (held_length g) (λ i l e. s i l ∙ held_carries g i l e)

  -- the number of word cells that differ depends on the cells alone, and not on the fields' order
  pub words_same : (f g h k : Field) → Same f g L.cells → Same h k L.cells → word_differences L f h ≡ word_differences L g k
  unfolding word_differences_to
  words_same f g h k p q =
      count_same _ _ L.cells (λ i l. ap₂ (λ (x y : ℕ). in_word L i && not (eqb x y)) (p i l) (q i l))

  pub words_comm : (f g : Field) → word_differences L f g ≡ word_differences L g f
  unfolding word_differences_to
  words_comm f g = count_same _ _ L.cells (λ i l. ap (λ (b : Bool). in_word L i && not b) (go i (ℕ_discrete (f i) (g i))))
    where
      go : (i : ℕ) → Dec (f i ≡ g i) → eqb (f i) (g i) ≡ eqb (g i) (f i)
      go i (yes e) = eq-eqb (f i) (g i) e ∙ sym (eq-eqb (g i) (f i) (sym e))
      go i (no d) = ne_eqb (f i) (g i) d ∙ sym (ne_eqb (g i) (f i) (λ e. d (sym e)))
