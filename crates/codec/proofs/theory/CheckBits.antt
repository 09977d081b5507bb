-- The check cells of a class as the bits of a number: a class is a codeword exactly when its checks are the bits of the syndrome
-- of its data.
use Prim.Native.Nat.{ℕ, zero, suc, ◌/◌, ◌%◌, ◌^◌, ◌<◌, ◌≤◌}
use mathlib.Core.Bool.{Bool, true, false, cond, true≢false, false≢true}
use mathlib.Core.Logic.{◌≢◌, ⊎_elim}
use mathlib.Core.Path.{◌≡◌, refl, sym, ap, ap₂, subst, ◌∙◌}
use native.Mathlib.Decide.{ℕ_discrete}
use native.Mathlib.Nat.{le_refl, not-suc-le-zero, eq-or-lt_of_le, le_of_suc-le-suc}
use native.Mathlib.Numerals.{add-one}
use native.Mathlib.Omega.{arith}
use lib.Bits.{bit_xor, xor_zero_r}
use Rattle.lattice.specs.Position.{Layout, size, position}
use Rattle.lattice.specs.Check.{checks, holds_data}
use Rattle.lattice.proofs.theory.Positions.{position_rises, position_one}
use Rattle.codec.specs.Field.{Field, Cells}
use Rattle.codec.specs.Hamming.{tags_of, syndrome_to, syndrome, Codeword}
use Rattle.codec.proofs.theory.CellValues.{cell_most, zero_cell, cond_cell}
use Rattle.codec.proofs.theory.BinaryDigits.{bits_same, xor_bit, xor_bit_left, bit_above, power_bit, power_bit_other}
use Rattle.codec.proofs.theory.PowerPositions.{below_checks, check_exponent, check_power, check_cell}
use Rattle.codec.proofs.theory.Syndrome.{sum_of, syndrome_own, syndrome_other, syndrome_same, syndrome_below, syndrome_sum}
use Rattle.codec.proofs.theory.Tags.{tag_position, syndrome_size}
use Rattle.codec.proofs.theory.Xor.{xor_zero, xor_equal}

module _ (L : Layout) where
  -- a field with 0 in its check cells, and with 0 in the others
  abbrev pub data_part : Field → Field
  data_part f i = cond (holds_data L i) (f i) 0

  abbrev check_part : Field → Field
  check_part f i = cond (holds_data L i) 0 (f i)

  data_cells_lem : (f : Field) (m : ℕ) → Cells f m → Cells (data_part f) m
  data_cells_lem f m c i l = cond_cell (holds_data L i) _ _ (c i l) zero_cell

  check_cells : (f : Field) (m : ℕ) → Cells f m → Cells (check_part f) m
  check_cells f m c i l = cond_cell (holds_data L i) _ _ zero_cell (c i l)

  -- the field is the sum of the two
  part_sum : (b : Bool) (v : ℕ) → bit_xor (cond b v 0) (cond b 0 v) ≡ v
  part_sum true v = xor_zero_r v
  part_sum false v = refl

  syndrome_parts : (f : Field) (a m : ℕ) → Cells f m
      → syndrome_to L (tags_of L) f a m
      ≡ bit_xor (syndrome_to L (tags_of L) (data_part f) a m) (syndrome_to L (tags_of L) (check_part f) a m)
  syndrome_parts f a m c =
      syndrome_same L (tags_of L) f (sum_of (data_part f) (check_part f)) a m (λ i l e. sym (part_sum (holds_data L i) (f i)))
      ∙ syndrome_sum L (tags_of L) (data_part f) (check_part f) a m (data_cells_lem f m c) (check_cells f m c)

  -- no cell but a check is 1 among the first m cells of class a
  abbrev ChecksOnly : Field → ℕ → ℕ → Type 0
  ChecksOnly f a m = (i : ℕ) → i < m → L.class i ≡ a → holds_data L i ≡ true → f i ≡ 0

  module _ (f : Field) (a : ℕ) where
    one_suc : (m : ℕ) → L.class m ≡ a → f m ≡ 1
        → syndrome_to L (tags_of L) f a (suc m) ≡ bit_xor (syndrome_to L (tags_of L) f a m) (position L m)
    one_suc m p q =
        rw (add-one m) at
        (syndrome_own L (tags_of L) f a m p q ∙ ap (bit_xor (syndrome_to L (tags_of L) f a m)) (tag_position L m))

    other_suc : (m : ℕ) → (L.class m ≡ a → f m ≢ 1) → syndrome_to L (tags_of L) f a (suc m) ≡ syndrome_to L (tags_of L) f a m
    other_suc m p = rw (add-one m) at (syndrome_other L (tags_of L) f a m p)

    -- before the cell at 2^k the syndrome is below 2^k
    before : (m k : ℕ) → L.class m ≡ a → 2 ^ k ≡ position L m → syndrome_to L (tags_of L) f a m / 2 ^ k % 2 ≡ 0
    before m k p e =
        bit_above
        (syndrome_to L (tags_of L) f a m)
        k
        (syndrome_below L (tags_of L) f a m k (λ i l q. omega (arith, tag_position L i, position_rises L i m (q ∙ sym p) l)))

    -- with it the syndrome gains bit k
    own_bit : (m k : ℕ) → f m ≤ 1 → L.class m ≡ a → 2 ^ k ≡ position L m → syndrome_to L (tags_of L) f a (suc m) / 2 ^ k % 2 ≡ f m
    own_bit m k c p e = go (ℕ_discrete (f m) 1)
      where
        go : Dec (f m ≡ 1) → syndrome_to L (tags_of L) f a (suc m) / 2 ^ k % 2 ≡ f m
        go (yes o) =
            ap (λ (x : ℕ). x / 2 ^ k % 2) (one_suc m p o ∙ ap (bit_xor (syndrome_to L (tags_of L) f a m)) (sym e))
            ∙ xor_bit (syndrome_to L (tags_of L) f a m) (2 ^ k) k
            ∙ ap₂ bit_xor (before m k p e) (power_bit k)
            ∙ sym o
        go (no o) = ap (λ (x : ℕ). x / 2 ^ k % 2) (other_suc m (λ q. o)) ∙ before m k p e ∙ omega arith

    -- and any other check cell leaves bit k as it was
    other_bit : (m k : ℕ) → ChecksOnly f a (suc m) → (L.class m ≡ a → 2 ^ k ≢ position L m)
        → syndrome_to L (tags_of L) f a (suc m) / 2 ^ k % 2 ≡ syndrome_to L (tags_of L) f a m / 2 ^ k % 2
    other_bit m k o d = go (ℕ_discrete (L.class m) a) (ℕ_discrete (f m) 1) (holds_data L m) refl
      where
        check : L.class m ≡ a → f m ≡ 1 → (j : ℕ) × (2 ^ j ≡ position L m)
            → syndrome_to L (tags_of L) f a (suc m) / 2 ^ k % 2 ≡ syndrome_to L (tags_of L) f a m / 2 ^ k % 2
        check p q r =
            ap (λ (x : ℕ). x / 2 ^ k % 2) (one_suc m p q ∙ ap (bit_xor (syndrome_to L (tags_of L) f a m)) (sym r.1))
            ∙ xor_bit_left
            (syndrome_to L (tags_of L) f a m)
            (2 ^ r.0)
            k
            (power_bit_other r.0 k (λ e. d p (ap (λ (x : ℕ). 2 ^ x) (sym e) ∙ r.1)))

        go : Dec (L.class m ≡ a) → Dec (f m ≡ 1) → (b : Bool) → holds_data L m ≡ b
            → syndrome_to L (tags_of L) f a (suc m) / 2 ^ k % 2 ≡ syndrome_to L (tags_of L) f a m / 2 ^ k % 2
        go (yes p) (yes q) true h = absurd (omega (arith, o m (le_refl _) p h))
        go (yes p) (yes q) false h = check p q (check_exponent L m h)
        go (yes p) (no q) b h = ap (λ (x : ℕ). x / 2 ^ k % 2) (other_suc m (λ r. q))
        go (no p) q b h = ap (λ (x : ℕ). x / 2 ^ k % 2) (other_suc m (λ r. absurd (p r)))

    -- so each bit of the syndrome of the checks is the check cell at its position
    check_bit : (m j k : ℕ) → ChecksOnly f a m → f j ≤ 1 → j < m → L.class j ≡ a → 2 ^ k ≡ position L j
        → syndrome_to L (tags_of L) f a m / 2 ^ k % 2 ≡ f j
    check_bit zero j k o c l p e = absurd (not-suc-le-zero l)
    check_bit (suc m) j k o c l p e =
        ⊎_elim
        (λ (d : j ≡ m).
        subst
        (λ (i : ℕ). f i ≤ 1 → L.class i ≡ a → 2 ^ k ≡ position L i → syndrome_to L (tags_of L) f a (suc m) / 2 ^ k % 2 ≡ f i)
        (sym d)
        (own_bit m k)
        c
        p
        e)
        (λ (d : j < m).
        other_bit m k o (λ q h. omega (arith, position_one L j m (p ∙ sym q) (sym e ∙ h)))
        ∙ check_bit m j k (λ i r. o i (omega arith)) c d p e)
        (eq-or-lt_of_le (le_of_suc-le-suc l))

  data_zero : (b : Bool) (v : ℕ) → b ≡ true → cond b 0 v ≡ 0
  data_zero true v e = refl
  data_zero false v e = absurd (false≢true e)

  check_value : (b : Bool) (v : ℕ) → b ≡ false → cond b 0 v ≡ v
  check_value true v e = absurd (true≢false e)
  check_value false v e = refl

  module _ (f : Field) (cells : Cells f L.cells) (a : ℕ) where
    -- the bits of the syndrome of the checks are the checks
    part_bit : (j k : ℕ) → j < L.cells → L.class j ≡ a → 2 ^ k ≡ position L j
        → syndrome L (tags_of L) (check_part f) a / 2 ^ k % 2 ≡ f j
    part_bit j k l p e =
        check_bit
        (check_part f)
        a
        L.cells
        j
        k
        (λ i r q h. data_zero (holds_data L i) (f i) h)
        (cell_most _ (check_cells f L.cells cells j l))
        l
        p
        e
        ∙ check_value (holds_data L j) (f j) (check_power L j k e)

    -- a class is a codeword exactly when its checks are the bits of the syndrome of its data
    pub codeword_checks : Codeword L (tags_of L) f a → (j : ℕ) → j < L.cells → L.class j ≡ a → holds_data L j ≡ false
        → f j ≡ syndrome L (tags_of L) (data_part f) a / position L j % 2
    unfolding Codeword
    codeword_checks w j l p h = go (check_exponent L j h)
      where
        same : syndrome L (tags_of L) (data_part f) a ≡ syndrome L (tags_of L) (check_part f) a
        same = xor_zero _ _ (sym (syndrome_parts f a L.cells cells) ∙ w)

        go : (k : ℕ) × (2 ^ k ≡ position L j) → f j ≡ syndrome L (tags_of L) (data_part f) a / position L j % 2
        go r =
            sym (part_bit j r.0 l p r.1)
            ∙ ap₂ (λ (x y : ℕ). x / y % 2) (sym same) r.1

    pub checks_codeword : ((j : ℕ) → j < L.cells → L.class j ≡ a → holds_data L j ≡ false
        → f j ≡ syndrome L (tags_of L) (data_part f) a / position L j % 2) → Codeword L (tags_of L) f a
    unfolding Codeword
    checks_codeword h =
        syndrome_parts f a L.cells cells
        ∙ xor_equal _ _ (bits_same c _ _ (below (data_part f)) (below (check_part f)) same)
      where
        c : ℕ
        c = checks (size L a)

        below : (g : Field) → syndrome L (tags_of L) g a < 2 ^ c
        below g = syndrome_size L g a c (below_checks (size L a))

        same : (k : ℕ) → k < c
            → syndrome L (tags_of L) (data_part f) a / 2 ^ k % 2 ≡ syndrome L (tags_of L) (check_part f) a / 2 ^ k % 2
        same k l = go (check_cell L a k l)
          where
            go : (i : ℕ) × (i < L.cells) × (L.class i ≡ a) × (position L i ≡ 2 ^ k)
                → syndrome L (tags_of L) (data_part f) a / 2 ^ k % 2 ≡ syndrome L (tags_of L) (check_part f) a / 2 ^ k % 2
            go r =
                ap (λ (x : ℕ). syndrome L (tags_of L) (data_part f) a / x % 2) (sym r.3)
                ∙ sym (h r.0 r.1 r.2 (check_power L r.0 k (sym r.3)))
                ∙ sym (part_bit r.0 k r.1 r.2 (sym r.3))
