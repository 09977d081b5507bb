-- The bytes that a field holds, cell by cell: a byte takes the values of its data cells as bits, the highest first.
use Prim.Native.Nat.{ℕ, zero, suc, ◌+◌, ◌-◌, ◌*◌, ◌/◌, ◌%◌, ◌^◌, ◌<◌, ◌≤◌, min}
use mathlib.Core.Bool.{Bool, true, false, cond, ◌&&◌, true≢false}
use mathlib.Core.Logic.{⊎_elim}
use mathlib.Core.Path.{◌≡◌, refl, sym, ap, ap₂, subst, ◌∙◌}
use native.Mathlib.Nat.{eq-or-lt_of_le, le_of_suc-le-suc, not-suc-le-zero}
use native.Mathlib.Omega.{arith}
use lib.Dec.{eqb}
use lib.Pow.{pow_pos}
use borrow.Author.Tests.{eq-eqb, ne_eqb, eqb-true, eqb-false}
use Rattle.lattice.specs.Position.{Layout}
use Rattle.lattice.specs.Check.{holds_data}
use Rattle.codec.specs.Field.{Field}
use Rattle.codec.specs.Payload.{rank, held_byte}
use Rattle.codec.proofs.theory.BinaryDigits.{half_bit}
use Rattle.codec.proofs.theory.Ranks.{rank_data_suc, rank_check_suc, rank_rises}

-- the data cells among the first i are 0 or 1
abbrev pub DataCells : Layout → Field → ℕ → Type 0
DataCells L f i = (k : ℕ) → k < i → holds_data L k ≡ true → f k ≤ 1

-- how many bits of byte j the first r data cells make
abbrev pub bits_of : ℕ → ℕ → ℕ
bits_of j r = min 8 (r - 8 * j)

-- a bit more where the next data cell is one of the byte's, and no more where it isn't
bits_here : (j r : ℕ) → r / 8 ≡ j → bits_of j (r + 1) ≡ suc (bits_of j r)
bits_here j r e = omega arith

bits_other : (j r : ℕ) → (r / 8 ≡ j → ⊥) → bits_of j (r + 1) ≡ bits_of j r
bits_other j r e = omega arith

-- a data cell of the byte that is passed has made its bit
bits_past : (j q r : ℕ) → q / 8 ≡ j → q < r → q % 8 < bits_of j r
bits_past j q r e l = omega arith

bits_at : (j r : ℕ) → r / 8 ≡ j → bits_of j r ≡ r % 8
bits_at j r e = omega arith

module _ (L : Layout) (f : Field) (j : ℕ) where
  -- the byte after one more cell
  pub byte_here : (i : ℕ) → holds_data L i ≡ true → rank L i / 8 ≡ j
      → held_byte L f j (suc i) ≡ held_byte L f j i * 2 + f i
  byte_here i p q = rw (p, eq-eqb (rank L i / 8) j q)

  pub byte_other : (i : ℕ) → (rank L i / 8 ≡ j → ⊥) → held_byte L f j (suc i) ≡ held_byte L f j i
  byte_other i q = rw (ne_eqb (rank L i / 8) j q) (cut (holds_data L i))
    where
      cut : (b : Bool) → cond (b && false) (held_byte L f j i * 2 + f i) (held_byte L f j i) ≡ held_byte L f j i
      cut true = refl
      cut false = refl

  pub byte_check : (i : ℕ) → holds_data L i ≡ false → held_byte L f j (suc i) ≡ held_byte L f j i
  byte_check i p = rw p

  -- how cell i goes on from byte x of m bits to byte y of l bits
  data Step (i x m y l : ℕ) : Type 0 where
    here : holds_data L i ≡ true → rank L i / 8 ≡ j → y ≡ x * 2 + f i → l ≡ suc m → Step i x m y l
    other : (holds_data L i ≡ true → rank L i / 8 ≡ j → ⊥) → y ≡ x → l ≡ m → Step i x m y l

  step : (i : ℕ)
      → Step i (held_byte L f j i) (bits_of j (rank L i)) (held_byte L f j (suc i)) (bits_of j (rank L (suc i)))
  step i = go (holds_data L i) refl (eqb (rank L i / 8) j) refl
    where
      go : (b : Bool) → holds_data L i ≡ b → (c : Bool) → eqb (rank L i / 8) j ≡ c
          → Step i (held_byte L f j i) (bits_of j (rank L i)) (held_byte L f j (suc i)) (bits_of j (rank L (suc i)))
      go true p true q =
          let e = eqb-true (rank L i / 8) j q in
          here p e (byte_here i p e) (ap (bits_of j) (rank_data_suc L i p) ∙ bits_here j (rank L i) e)
      go true p false q =
          let e = eqb-false (rank L i / 8) j q in
          other (λ a. e) (byte_other i e) (ap (bits_of j) (rank_data_suc L i p) ∙ bits_other j (rank L i) e)
      go false p c q =
          other (λ a b. true≢false (sym a ∙ p)) (byte_check i p) (ap (bits_of j) (rank_check_suc L i p))

  -- the byte is below 2 to the power of its number of bits
  below_step : {i x m y l : ℕ} → (holds_data L i ≡ true → f i ≤ 1) → x < 2 ^ m → Step i x m y l → y < 2 ^ l
  below_step c p (here a b d e) = rw e (omega (arith, c a))
  below_step c p (other a d e) = rw (d, e) p

  pub byte_below : (i : ℕ) → DataCells L f i → held_byte L f j i < 2 ^ bits_of j (rank L i)
  byte_below zero c = pow_pos (bits_of j (rank L 0))
  byte_below (suc i) c = below_step (c i (omega arith)) (byte_below i (λ k l. c k (omega arith))) (step i)

  -- the last bit is the cell's own value, and the bits before it move up
  new_bit : {i x m y l : ℕ} → (holds_data L i ≡ true → f i ≤ 1) → m ≡ rank L i % 8 → Step i x m y l
      → holds_data L i ≡ true → rank L i / 8 ≡ j → (e : ℕ) → e + suc (rank L i % 8) ≡ l → y / 2 ^ e % 2 ≡ f i
  new_bit c r (here a b d h) p q zero g = omega (arith, c a)
  new_bit c r (here a b d h) p q (suc e) g = absurd (omega arith)
  new_bit c r (other a d h) p q e g = absurd (a p q)

  old_bit : {i x m y l k v : ℕ} → (holds_data L i ≡ true → f i ≤ 1) → k < m → ((e : ℕ) → e + suc k ≡ m → x / 2 ^ e % 2 ≡ v)
      → Step i x m y l → (e : ℕ) → e + suc k ≡ l → y / 2 ^ e % 2 ≡ v
  old_bit c p ih (here a b d h) zero g = absurd (omega arith)
  old_bit {x = x} {y = y} c p ih (here a b d h) (suc e) g =
      let half : y / 2 ≡ x = omega (arith, c a) in
      ap (λ (z : ℕ). z % 2) (half_bit y e ∙ ap (λ (z : ℕ). z / 2 ^ e) half) ∙ ih e (omega arith)
  old_bit c p ih (other a d h) e g = ap (λ (z : ℕ). z / 2 ^ e % 2) d ∙ ih e (omega arith)

  -- cell t is the bit of the byte that its rank says, counted from the highest, after the first i cells
  Bit : ℕ → ℕ → Type 0
  Bit i t =
      holds_data L t ≡ true → rank L t / 8 ≡ j
      → (e : ℕ) → e + suc (rank L t % 8) ≡ bits_of j (rank L i) → held_byte L f j i / 2 ^ e % 2 ≡ f t

  pub byte_bit : (t i : ℕ) → t < i → DataCells L f i → holds_data L t ≡ true → rank L t / 8 ≡ j
      → (e : ℕ) → e + suc (rank L t % 8) ≡ bits_of j (rank L i) → held_byte L f j i / 2 ^ e % 2 ≡ f t
  unfolding Bit
  byte_bit t zero l c p q = absurd (not-suc-le-zero l)
  byte_bit t (suc i) l c p q =
      ⊎_elim
      (λ (d : t ≡ i). subst (Bit (suc i)) (sym d) last p q)
      (λ (d : t < i).
      old_bit
      (c i (omega arith))
      (bits_past j (rank L t) (rank L i) q (rank_rises L t i d p))
      (byte_bit t i d (λ k r. c k (omega arith)) p q)
      (step i))
      (eq-or-lt_of_le (le_of_suc-le-suc l))
    where
      last : Bit (suc i) i
      last a b = new_bit (c i (omega arith)) (bits_at j (rank L i) b) (step i) a b

-- fields that agree on the data cells hold one byte
pub byte_same : (L : Layout) (f g : Field) (j i : ℕ) → ((k : ℕ) → k < i → holds_data L k ≡ true → f k ≡ g k)
    → held_byte L f j i ≡ held_byte L g j i
byte_same L f g j zero s = refl
byte_same L f g j (suc i) s =
    joined (holds_data L i) (eqb (rank L i / 8) j) (byte_same L f g j i (λ k l. s k (omega arith))) (s i (omega arith))
  where
    joined : (b c : Bool) {x y v w : ℕ} → x ≡ y → (b ≡ true → v ≡ w) → cond (b && c) (x * 2 + v) x ≡ cond (b && c) (y * 2 + w) y
    joined true true p q = ap₂ (λ (x v : ℕ). x * 2 + v) p (q refl)
    joined true false p q = p
    joined false c p q = p
