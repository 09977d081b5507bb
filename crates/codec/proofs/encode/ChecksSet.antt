-- The checks of a field set one by one, from the syndromes of the data alone.
use Prim.Native.Nat.{ℕ, suc, ◌+◌, ◌/◌, ◌%◌, ◌^◌, ◌<◌, ◌≤◌, zero-le}
use mathlib.Core.Bool.{Bool, true, false}
use mathlib.Core.List.{List}
use mathlib.Core.Path.{◌≡◌, refl, sym, ap, ap₂, ◌∙◌}
use native.Mathlib.Decide.{dec_lt, ℕ_discrete}
use native.Mathlib.Nat.{le_refl}
use native.Mathlib.Omega.{arith}
use borrow.Author.Tests.{lt-ltb, le-ltb}
use lib.ListN.{length, get_or, set}
use lib.Pow.{pow_mono, pow_pos}
use lib.Seq.{get_or-set_same, get_or-set_other}
use Rattle.lattice.specs.Shape.{max_classes}
use Rattle.lattice.specs.Position.{Layout, position}
use Rattle.lattice.specs.Check.{checks, holds_data}
use Rattle.lattice.specs.Listing.{checks_to, place_of}
use Rattle.lattice.proofs.theory.BitLength.{bit_length}
use Rattle.lattice.proofs.theory.Positions.{position_most, size_most}
use Rattle.lattice.proofs.theory.Runs.{checks_check, checks_mono, check_at}
use Rattle.codec.specs.Field.{Field, field_of, Same}
use Rattle.codec.specs.Hamming.{tags_of, syndrome}
use Rattle.codec.specs.Payload.{padding, data_field, encoded_with}
use Rattle.codec.specs.Filling.{checked_to, ToCheck, bit_at}
use Rattle.codec.proofs.theory.EncodedField.{encoded_check}
use Rattle.codec.proofs.theory.PowerPositions.{check_exponent}

-- the place of a check, in its parts
module _ (L : Layout) (i : ℕ) (below : i < L.cells) (few : L.cells ≤ 65536) (check : holds_data L i ≡ false) where
  power : (j : ℕ) × (2 ^ j ≡ position L i)
  power = check_exponent L i check

  low : power.0 < 32
  low = go (dec_lt power.0 32)
    where
      go : Dec (power.0 < 32) → power.0 < 32
      go (yes l) = l
      go (no l) =
          let h : 32 ≤ power.0 = omega arith in
          absurd (omega (arith, pow_mono h, power.1, position_most L i L.cells below, size_most L (L.class i) L.cells))

  number : checks (position L i) ≡ suc power.0
  number = bit_length (position L i) power.0 (omega (arith, power.1)) (omega (arith, power.1, pow_pos power.0))

  pub place_class : place_of L i / 32 ≡ L.class i
  place_class = omega (arith, number, low)

  place_power : 2 ^ (place_of L i % 32) ≡ position L i
  place_power =
      let e : place_of L i % 32 ≡ power.0 = omega (arith, number, low) in
      ap (λ (j : ℕ). 2 ^ j) e ∙ power.1

-- the data cells are the same in the data alone and in the field written
data_same : (L : Layout) (p : List ℕ) (i : ℕ) → holds_data L i ≡ true → data_field L padding p i ≡ encoded_with L padding p i
unfolding data_field encoded_with
data_same L p i e = rw e

module _ (L : Layout) (p : List ℕ) where
  -- a cell with the first k checks set
  set_before : (k i : ℕ) → checks_to L i < k → checked_to L p k i ≡ encoded_with L padding p i
  unfolding checked_to
  set_before k i l = rw (lt-ltb (checks_to L i) k l)

  set_behind : (k i : ℕ) → k ≤ checks_to L i → checked_to L p k i ≡ data_field L padding p i
  unfolding checked_to
  set_behind k i l = rw (le-ltb (checks_to L i) k l)

  set_data : (k i : ℕ) → holds_data L i ≡ true → checked_to L p k i ≡ encoded_with L padding p i
  set_data k i h = go (dec_lt (checks_to L i) k)
    where
      go : Dec (checks_to L i < k) → checked_to L p k i ≡ encoded_with L padding p i
      go (yes l) = set_before k i l
      go (no l) = set_behind k i (omega arith) ∙ data_same L p i h

  pub checked_none : (f : Field) → Same f (data_field L padding p) L.cells → Same f (checked_to L p 0) L.cells
  checked_none f same i l = same i l ∙ sym (set_behind 0 i zero-le)

  module _ (list places syndromes : List ℕ) (amount : ℕ) (to : ToCheck L p list places syndromes amount) where
    -- the bit of check k is its cell of the field written
    bit_encoded : (k : ℕ) → k < amount → get_or places k 0 / 32 < max_classes
        → bit_at syndromes (get_or places k 0) ≡ encoded_with L padding p (get_or list k 0)
    bit_encoded k l small =
        let c = to.lists.at k l in
        let place = to.placed.at k l in
        let own = ap (λ (x : ℕ). x / 32) place ∙ place_class L _ c.below to.few c.check in
        ap₂ (λ (x y : ℕ). x / y % 2)
        (to.held.at _ small ∙ ap (syndrome L (tags_of L) (data_field L padding p)) own)
        (ap (λ (x : ℕ). 2 ^ (x % 32)) place ∙ place_power L _ c.below to.few c.check)
        ∙ sym (encoded_check L padding p (get_or list k 0) c.check)

    -- one check more
    pub checked_more : (l : List ℕ) (k cell place v : ℕ) → k < amount → cell ≡ get_or list k 0 → place ≡ get_or places k 0
        → cell < length l → place / 32 < max_classes → v ≡ bit_at syndromes place
        → Same (field_of l) (checked_to L p k) L.cells → Same (field_of (set l cell v)) (checked_to L p (k + 1)) L.cells
    checked_more l k cell place v inside there at room small e same i b = go (ℕ_discrete i cell) (holds_data L i) refl
      where
        before : checks_to L cell ≡ k
        before = ap (checks_to L) there ∙ (to.lists.at k inside).before

        value : v ≡ encoded_with L padding p cell
        value =
            e ∙ ap (bit_at syndromes) at ∙ bit_encoded k inside (rw at at small) ∙ ap (encoded_with L padding p) (sym there)

        go : Dec (i ≡ cell) → (d : Bool) → holds_data L i ≡ d → get_or (set l cell v) i 0 ≡ checked_to L p (k + 1) i
        go (yes q) d h =
            ap (λ (x : ℕ). get_or (set l cell v) x 0) q
            ∙ get_or-set_same l cell v 0 room
            ∙ value
            ∙ sym (ap (checked_to L p (k + 1)) q ∙ set_before (k + 1) cell (omega (arith, before)))
        go (no q) true h = get_or-set_other l cell i v 0 q ∙ same i b ∙ set_data k i h ∙ sym (set_data (k + 1) i h)
        go (no q) false h = get_or-set_other l cell i v 0 q ∙ same i b ∙ other (dec_lt (checks_to L i) k)
          where
            other : Dec (checks_to L i < k) → checked_to L p k i ≡ checked_to L p (k + 1) i
            other (yes s) = set_before k i s ∙ sym (set_before (k + 1) i (omega arith))
            other (no s) = set_behind k i (omega arith) ∙ sym (set_behind (k + 1) i (later (ℕ_discrete (checks_to L i) k)))
              where
                later : Dec (checks_to L i ≡ k) → k + 1 ≤ checks_to L i
                later (yes z) = absurd (q (sym (there ∙ (check_at L _ _ _ to.lists (le_refl _) k i b z h).1)))
                later (no z) = omega arith

    -- all checks
    pub checked_all : (f : Field) → Same f (checked_to L p amount) L.cells → Same f (encoded_with L padding p) L.cells
    checked_all f same i b = same i b ∙ go (holds_data L i) refl
      where
        go : (d : Bool) → holds_data L i ≡ d → checked_to L p amount i ≡ encoded_with L padding p i
        go true h = set_data amount i h
        go false h =
            set_before amount i
            (omega (arith, to.lists.all, checks_check L i h, checks_mono L (i + 1) L.cells (omega arith)))
