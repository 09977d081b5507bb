-- A class with one or two erased cells: a codeword that agrees with the cells that were read is what filling gives, and there is
-- one with certain syndromes only.
use Prim.Native.Nat.{ℕ, ◌<◌, ◌≤◌}
use mathlib.Core.Bool.{true, cond, ◌||◌}
use mathlib.Core.Logic.{◌≢◌, ◌⊎◌, inl, inr, ⊎_elim}
use mathlib.Core.Path.{◌≡◌, sym, ap, ◌∙◌}
use lib.Bits.{bit_xor, xor_comm, xor_self, xor_zero_r}
use lib.Dec.{eqb}
use borrow.Author.Tests.{eq-eqb, ne_eqb}
use Rattle.lattice.specs.Position.{Layout}
use Rattle.lattice.proofs.theory.Bools.{or_true_left, or_true_right}
use Rattle.lattice.proofs.theory.Counting.{bit}
use Rattle.codec.specs.Field.{Field, is_cell, Cells, erased}
use Rattle.codec.specs.Hamming.{Tags, Tells, syndrome, Codeword}
use Rattle.codec.specs.Erasure.{erasures_to, erasures, Agrees, erased_sum, filled}
use Rattle.codec.specs.Working.{IsErasure}
use Rattle.codec.proofs.theory.Xor.{xor_cancel_left, xor_zero, xor_equal}
use Rattle.codec.proofs.theory.CellValues.{cell_values_lem}
use Rattle.codec.proofs.theory.Pairs.{alone_or_two}
use Rattle.codec.proofs.theory.ErasedCells.{
  Alone,
  Pair,
  erasure_test,
  erasure_passes,
  passes_erasure,
  alone_sum,
  pair_sum,
  alone_syndrome,
  pair_syndrome,
}

-- filling: cells that were read stay, and an erased one becomes 1 or 0
pub filled_kept : (L : Layout) (tag : Tags) (f : Field) (i : ℕ) → f i ≢ erased → filled L tag f i ≡ f i
unfolding filled
filled_kept L tag f i d = rw (ne_eqb (f i) erased d)

module _ (L : Layout) (tag : Tags) (f : Field) (a : ℕ) where
  filled_agrees : Agrees L f (filled L tag f) a
  unfolding Agrees
  filled_agrees i l c d = sym (filled_kept L tag f i d)

  filled_erased : (i : ℕ) → IsErasure L f a L.cells i
      → filled L tag f i ≡ bit (eqb (syndrome L tag f a) (tag i) || eqb (syndrome L tag f a) (erased_sum L tag f a))
  unfolding filled
  filled_erased i o = rw (o.class, eq-eqb (f i) erased o.value)

  pub set_own : (i : ℕ) → IsErasure L f a L.cells i → syndrome L tag f a ≡ tag i → filled L tag f i ≡ 1
  set_own i o e = filled_erased i o ∙ ap bit (or_true_left _ _ (eq-eqb _ _ e))

  pub set_sum : (i : ℕ) → IsErasure L f a L.cells i → syndrome L tag f a ≡ erased_sum L tag f a → filled L tag f i ≡ 1
  set_sum i o e = filled_erased i o ∙ ap bit (or_true_right (eqb (syndrome L tag f a) (tag i)) _ (eq-eqb _ _ e))

  pub clear : (i : ℕ) → IsErasure L f a L.cells i → syndrome L tag f a ≢ tag i → syndrome L tag f a ≢ erased_sum L tag f a
      → filled L tag f i ≡ 0
  clear i o d e =
      filled_erased i o ∙ rw (ne_eqb (syndrome L tag f a) (tag i) d, ne_eqb (syndrome L tag f a) (erased_sum L tag f a) e)

-- what adds to a number changes it
xor_other : (p q : ℕ) → q ≢ 0 → bit_xor p q ≢ p
xor_other p q d e = d (sym (xor_cancel_left p q) ∙ ap (λ (x : ℕ). bit_xor p x) e ∙ xor_self p)

module _ {L : Layout} {tag : Tags} (tells : Tells L tag) (f : Field) (a : ℕ) where
  -- one erased cell: what it becomes with the syndrome 0, and that it is filled as a codeword has it
  module _ {u : ℕ} (o : Alone L f a u) where
    alone_none : syndrome L tag f a ≡ 0 → filled L tag f u ≡ 0
    alone_none z =
        let some = tells.some u o.erasure.below in
        clear L tag f a u o.erasure (λ e. some (sym e ∙ z)) (λ e. some (sym (alone_sum L tag f a u o) ∙ sym e ∙ z))

    alone_fills : (g : Field) → Agrees L f g a → Codeword L tag g a → is_cell (g u) ≡ true → filled L tag f u ≡ g u
    unfolding Codeword
    alone_fills g agrees word cell =
        ⊎_elim
        (λ e. alone_none (s 0 e) ∙ sym e)
        (λ e. set_own L tag f a u o.erasure (s 1 e) ∙ sym e)
        ((cell_values_lem (g u)).0 cell)
      where
        s : (x : ℕ) → g u ≡ x → syndrome L tag f a ≡ cond (eqb x 1) (tag u) 0
        s x e = xor_zero (syndrome L tag f a) _ (sym (alone_syndrome L tag f a g agrees u x o e) ∙ word)

  -- two of them: what they become with each syndrome that they may add to
  module _ {u v : ℕ} (o : Pair L f a u v) where
    first_some : tag u ≢ 0
    first_some = tells.some u o.first.below

    second_some : tag v ≢ 0
    second_some = tells.some v o.second.below

    differ : tag u ≢ tag v
    differ e = o.different (tells.one u v o.first.below o.second.below (o.first.class ∙ sym o.second.class) e)

    not_sum : (s : ℕ) → (s ≡ 0) ⊎ (s ≡ tag u) ⊎ (s ≡ tag v) → s ≢ erased_sum L tag f a
    not_sum s h e = go h
      where
        sum : bit_xor (tag u) (tag v) ≡ s
        sum = sym (pair_sum L tag f a u v o) ∙ sym e

        go : (s ≡ 0) ⊎ (s ≡ tag u) ⊎ (s ≡ tag v) → ⊥
        go (inl z) = differ (xor_zero (tag u) (tag v) (sum ∙ z))
        go (inr (inl z)) = xor_other (tag u) (tag v) second_some (sum ∙ z)
        go (inr (inr z)) = xor_other (tag v) (tag u) first_some (xor_comm (tag v) (tag u) ∙ sum ∙ z)

    pair_none : syndrome L tag f a ≡ 0 → (filled L tag f u ≡ 0) × (filled L tag f v ≡ 0)
    pair_none z =
        let d = not_sum (syndrome L tag f a) (inl z) in (
          clear L tag f a u o.first (λ e. first_some (sym e ∙ z)) d,
          clear L tag f a v o.second (λ e. second_some (sym e ∙ z)) d,
        )

    pair_first : syndrome L tag f a ≡ tag u → (filled L tag f u ≡ 1) × (filled L tag f v ≡ 0)
    pair_first z =
        let d = not_sum (syndrome L tag f a) (inr (inl z)) in
        (set_own L tag f a u o.first z, clear L tag f a v o.second (λ e. differ (sym z ∙ e)) d)

    pair_second : syndrome L tag f a ≡ tag v → (filled L tag f u ≡ 0) × (filled L tag f v ≡ 1)
    pair_second z =
        let d = not_sum (syndrome L tag f a) (inr (inr z)) in
        (clear L tag f a u o.first (λ e. differ (sym e ∙ z)) d, set_own L tag f a v o.second z)

    pair_both : syndrome L tag f a ≡ bit_xor (tag u) (tag v) → (filled L tag f u ≡ 1) × (filled L tag f v ≡ 1)
    pair_both z =
        let e = z ∙ sym (pair_sum L tag f a u v o) in
        (set_sum L tag f a u o.first e, set_sum L tag f a v o.second e)

    pair_fills : (g : Field) → Agrees L f g a → Codeword L tag g a → is_cell (g u) ≡ true → is_cell (g v) ≡ true
        → filled L tag f u ≡ g u
    unfolding Codeword
    pair_fills g agrees word cell cell' = go ((cell_values_lem (g u)).0 cell) ((cell_values_lem (g v)).0 cell')
      where
        s : (x y : ℕ) → g u ≡ x → g v ≡ y → syndrome L tag f a ≡ bit_xor (cond (eqb x 1) (tag u) 0) (cond (eqb y 1) (tag v) 0)
        s x y e t = xor_zero (syndrome L tag f a) _ (sym (pair_syndrome L tag f a g agrees u v x y o e t) ∙ word)

        go : (g u ≡ 0) ⊎ (g u ≡ 1) → (g v ≡ 0) ⊎ (g v ≡ 1) → filled L tag f u ≡ g u
        go (inl e) (inl t) = (pair_none (s 0 0 e t)).0 ∙ sym e
        go (inl e) (inr t) = (pair_second (s 0 1 e t)).0 ∙ sym e
        go (inr e) (inl t) = (pair_first (s 1 0 e t ∙ xor_zero_r (tag u))).0 ∙ sym e
        go (inr e) (inr t) = (pair_both (s 1 1 e t)).0 ∙ sym e

-- with at most two erasures in its class, an erased cell is filled as a codeword has it that agrees with the cells that were read
pub fills : {L : Layout} {tag : Tags} → Tells L tag → (f g : Field) (a : ℕ) → erasures L f a ≤ 2 → Cells g L.cells
    → Agrees L f g a → Codeword L tag g a → (i : ℕ) → i < L.cells → L.class i ≡ a → f i ≡ erased → filled L tag f i ≡ g i
unfolding erasures_to
fills {L} {tag} tells f g a few cells agrees word i l c e =
    ⊎_elim
    (λ only. one record { erasure = own; only = λ j o. only j o.below (erasure_passes L f a j o) })
    (λ r.
    two
    record {
      first = own;
      second = passes_erasure L f a r.0 r.1 r.2;
      different = λ h. r.3 (sym h);
      only = λ j o. r.4 j o.below (erasure_passes L f a j o);
    })
    (alone_or_two (erasure_test L f a) L.cells i l (erasure_passes L f a i own) few)
  where
    own : IsErasure L f a L.cells i
    own = record { below = l; class = c; value = e }

    one : Alone L f a i → filled L tag f i ≡ g i
    one o = alone_fills tells f a o g agrees word (cells i l)

    two : {j : ℕ} → Pair L f a i j → filled L tag f i ≡ g i
    two {j} o = pair_fills tells f a o g agrees word (cells i l) (cells j o.second.below)

-- filling leaves a codeword exactly with the syndromes that the erased cells can make up for
module _ {L : Layout} {tag : Tags} (tells : Tells L tag) (f : Field) (a : ℕ) where
  module _ {u : ℕ} (o : Alone L f a u) where
    -- the syndrome of what filling leaves, where it leaves x in the cell
    left_one : (x : ℕ) → filled L tag f u ≡ x
        → syndrome L tag (filled L tag f) a ≡ bit_xor (syndrome L tag f a) (cond (eqb x 1) (tag u) 0)
    left_one x h = alone_syndrome L tag f a (filled L tag f) (filled_agrees L tag f a) u x o h

    pub one_reached : (syndrome L tag f a ≡ 0) ⊎ (syndrome L tag f a ≡ tag u) → Codeword L tag (filled L tag f) a
    unfolding Codeword
    one_reached (inl z) = left_one 0 (alone_none tells f a o z) ∙ xor_equal _ _ z
    one_reached (inr z) = left_one 1 (set_own L tag f a u o.erasure z) ∙ xor_equal _ _ z

    pub one_unreached : syndrome L tag f a ≢ 0 → syndrome L tag f a ≢ tag u → syndrome L tag (filled L tag f) a ≢ 0
    one_unreached some other h =
        let z = clear L tag f a u o.erasure other (λ s. other (s ∙ alone_sum L tag f a u o)) in
        some (sym (left_one 0 z ∙ xor_zero_r (syndrome L tag f a)) ∙ h)

  module _ {u v : ℕ} (o : Pair L f a u v) where
    left_two : (x y : ℕ) → (filled L tag f u ≡ x) × (filled L tag f v ≡ y)
        → syndrome L tag (filled L tag f) a
        ≡ bit_xor (syndrome L tag f a) (bit_xor (cond (eqb x 1) (tag u) 0) (cond (eqb y 1) (tag v) 0))
    left_two x y h = pair_syndrome L tag f a (filled L tag f) (filled_agrees L tag f a) u v x y o h.0 h.1

    pub two_reached : (syndrome L tag f a ≡ 0) ⊎ (syndrome L tag f a ≡ tag u) ⊎ (syndrome L tag f a ≡ tag v)
        ⊎ (syndrome L tag f a ≡ bit_xor (tag u) (tag v)) → Codeword L tag (filled L tag f) a
    unfolding Codeword
    two_reached (inl z) = left_two 0 0 (pair_none tells f a o z) ∙ xor_equal _ _ z
    two_reached (inr (inl z)) = left_two 1 0 (pair_first tells f a o z) ∙ xor_equal _ _ (z ∙ sym (xor_zero_r (tag u)))
    two_reached (inr (inr (inl z))) = left_two 0 1 (pair_second tells f a o z) ∙ xor_equal _ _ z
    two_reached (inr (inr (inr z))) = left_two 1 1 (pair_both tells f a o z) ∙ xor_equal _ _ z

    pub two_unreached : syndrome L tag f a ≢ 0 → syndrome L tag f a ≢ tag u → syndrome L tag f a ≢ tag v
        → syndrome L tag f a ≢ bit_xor (tag u) (tag v) → syndrome L tag (filled L tag f) a ≢ 0
    two_unreached some first second sum h =
        let s : syndrome L tag f a ≢ erased_sum L tag f a = λ t. sum (t ∙ pair_sum L tag f a u v o) in
        let z = left_two 0 0 (clear L tag f a u o.first first s, clear L tag f a v o.second second s) in
        some (sym (z ∙ xor_zero_r (syndrome L tag f a)) ∙ h)
