-- The remainder of a word: cell by cell, and how one changed cell changes it, for any layout of cells.
use Prim.Native.Nat.{ℕ, zero, suc, ◌+◌, ◌*◌, ◌%◌, ◌<◌}
use mathlib.Core.Bool.{Bool, true, false}
use mathlib.Core.Logic.{◌≢◌, ◌⊎◌, inl, inr}
use mathlib.Core.Path.{◌≡◌, refl, sym, ap, ◌∙◌}
use native.Mathlib.Nat.{mod-lt, le_refl}
use native.Mathlib.Omega.{arith}
use lib.Dec.{lit<}
use Rattle.lattice.specs.Counting.{sum_below}
use Rattle.lattice.specs.Position.{Layout}
use Rattle.lattice.proofs.theory.Counting.{sum_more, sum_same}
use Rattle.codec.specs.Field.{Field}
use Rattle.levels.specs.Faults.{multiplier, effect}
use Rattle.levels.specs.Words.{slot, is_of, share, weighted, remainder, LawfulWord}
use Rattle.levels.proofs.theory.SixCells.{sum_changed}

module _ (L : Layout) (f : Field) (w : ℕ) where
  -- what a cell adds to its own word and to another
  pub share_own : (i : ℕ) → is_of L w i ≡ true → share L f w i ≡ multiplier (slot L i) * f i
  unfolding share
  share_own i e = rw e

  pub share_other : (i : ℕ) → is_of L w i ≡ false → share L f w i ≡ 0
  unfolding share
  share_other i e = rw e

  -- the sum over one cell more
  pub weighted_zero : weighted L f w 0 ≡ 0
  unfolding weighted
  weighted_zero = refl

  pub weighted_step : (i : ℕ) → weighted L f w (i + 1) ≡ share L f w i + weighted L f w i
  unfolding weighted
  weighted_step i = sym (sum_more (share L f w) i (weighted L f w i) (share L f w i) refl refl) ∙ omega arith

  -- the remainder over one cell more
  pub remainder_own : (i : ℕ) → is_of L w i ≡ true
      → weighted L f w (i + 1) % 25 ≡ (weighted L f w i % 25 + multiplier (slot L i) * f i) % 25
  remainder_own i e = omega (arith, weighted_step i, share_own i e)

  pub remainder_other : (i : ℕ) → is_of L w i ≡ false → weighted L f w (i + 1) % 25 ≡ weighted L f w i % 25
  remainder_other i e =
      ap (λ (x : ℕ). x % 25) (weighted_step i ∙ ap (λ (x : ℕ). x + weighted L f w i) (share_other i e) ∙ omega arith)

  pub remainder_below : remainder L f w < 25
  unfolding remainder
  remainder_below = mod-lt (weighted L f w L.cells) (lit< tt)

  -- a word has a cell, or adds up to 0
  pub cell_or_none : (m : ℕ) → ((i : ℕ) × (i < m) × (is_of L w i ≡ true)) ⊎ (weighted L f w m ≡ 0)
  unfolding weighted
  cell_or_none zero = inr refl
  cell_or_none (suc m) = go (is_of L w m) refl (cell_or_none m)
    where
      go : (b : Bool) → is_of L w m ≡ b → ((i : ℕ) × (i < m) × (is_of L w i ≡ true)) ⊎ (sum_below (share L f w) m ≡ 0)
          → ((i : ℕ) × (i < suc m) × (is_of L w i ≡ true)) ⊎ (sum_below (share L f w) (suc m) ≡ 0)
      go true e before = inl (m, le_refl _, e)
      go false e (inl r) = inl (r.0, omega (arith, r.1), r.2)
      go false e (inr z) = inr (omega (arith, share_other m e, z))

module _ (L : Layout) (f g : Field) (w : ℕ) where
  -- a cell's share depends on its value alone
  pub share_same : (i : ℕ) → (is_of L w i ≡ true → f i ≡ g i) → share L f w i ≡ share L g w i
  share_same i e = go (is_of L w i) refl
    where
      go : (b : Bool) → is_of L w i ≡ b → share L f w i ≡ share L g w i
      go true p =
          share_own L f w i p ∙ ap (λ (x : ℕ). multiplier (slot L i) * x) (e p) ∙ sym (share_own L g w i p)
      go false p = share_other L f w i p ∙ sym (share_other L g w i p)

  -- fields that agree on the word have one sum
  weighted_same : ((i : ℕ) → i < L.cells → is_of L w i ≡ true → f i ≡ g i)
      → weighted L f w L.cells ≡ weighted L g w L.cells
  unfolding weighted
  weighted_same e = sum_same _ _ L.cells (λ i l. share_same i (e i l))

  pub remainder_same : ((i : ℕ) → i < L.cells → is_of L w i ≡ true → f i ≡ g i) → remainder L f w ≡ remainder L g w
  unfolding remainder
  remainder_same e = ap (λ (x : ℕ). x % 25) (weighted_same e)

  -- two fields that differ in one cell of the word
  module _ (d : ℕ) (below : d < L.cells) (own : is_of L w d ≡ true)
      (rest : (i : ℕ) → i < L.cells → is_of L w i ≡ true → i ≢ d → f i ≡ g i) where
    pub weighted_changed : weighted L f w L.cells + multiplier (slot L d) * g d
        ≡ weighted L g w L.cells + multiplier (slot L d) * f d
    unfolding weighted
    weighted_changed =
        ap (λ (x : ℕ). sum_below (share L f w) L.cells + x) (sym (share_own L g w d own))
        ∙ sum_changed (share L f w) (share L g w) d L.cells below (λ i l h. share_same i (λ e. rest i l e h))
        ∙ ap (λ (x : ℕ). sum_below (share L g w) L.cells + x) (share_own L f w d own)

    -- where f's cell is g's with u − 1 added, the sums differ by the effect of that change
    sums : (u : ℕ) → f d + 1 ≡ g d + u
        → weighted L f w L.cells + 25 * multiplier (slot L d) ≡ weighted L g w L.cells + multiplier (slot L d) * (u + 24)
    sums u e =
        let m : ℕ = multiplier (slot L d) in
        let c : m * f d + m ≡ m * g d + m * u = omega (arith, ap (λ (x : ℕ). m * x) e) in
        omega (arith, weighted_changed, c)

    -- so f's remainder is that effect where g's word is lawful
    pub lawful_effect : (u : ℕ) → f d + 1 ≡ g d + u → LawfulWord L g w → remainder L f w ≡ effect (slot L d) u
    unfolding remainder LawfulWord effect
    lawful_effect u e z = from _ _ _ (multiplier (slot L d)) (sums u e) z
      where
        from : (x y z m : ℕ) → x + 25 * m ≡ y + z → y % 25 ≡ 0 → x % 25 ≡ z % 25
        from x y z m p q = omega arith

    -- and g's word is lawful where f's remainder is that effect
    pub effect_lawful : (u : ℕ) → f d + 1 ≡ g d + u → remainder L f w ≡ effect (slot L d) u → LawfulWord L g w
    unfolding remainder LawfulWord effect
    effect_lawful u e z = back _ _ _ (multiplier (slot L d)) (sums u e) z
      where
        back : (x y z m : ℕ) → x + 25 * m ≡ y + z → x % 25 ≡ z % 25 → y % 25 ≡ 0
        back x y z m p q = omega arith

  pub lawful_same : ((i : ℕ) → i < L.cells → is_of L w i ≡ true → f i ≡ g i) → LawfulWord L f w → LawfulWord L g w
  unfolding LawfulWord
  lawful_same e z = sym (remainder_same e) ∙ z
