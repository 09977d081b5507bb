-- A bit of a payload flipped, and the data cell that it is the bit of.
use Prim.Native.Nat.{ℕ, zero, suc, ◌-◌, ◌*◌, ◌/◌, ◌%◌, ◌^◌, ◌<◌, ◌≤◌}
use mathlib.Core.Bool.{Bool, true, false, cond, true≢false}
use mathlib.Core.List.{List}
use mathlib.Core.Logic.{◌≢◌}
use mathlib.Core.Path.{◌≡◌, refl, sym, ap, ap₂, subst, ◌∙◌}
use native.Mathlib.Decide.{ℕ_discrete, dec_lt}
use native.Mathlib.Nat.{le_refl}
use native.Mathlib.Omega.{arith}
use lib.Bits.{bit_xor}
use lib.Dec.{eqb}
use lib.ListN.{length, get_or, set}
use lib.Seq.{get_or-set_same, get_or-set_other}
use borrow.Author.Tests.{eq-eqb, ne_eqb}
use Rattle.lattice.specs.Position.{Layout}
use Rattle.lattice.specs.Check.{holds_data}
use Rattle.lattice.specs.Listing.{checks_to, ListsChecks}
use Rattle.lattice.proofs.theory.Runs.{check_at}
use Rattle.codec.specs.Field.{Field, Cells, Same, flip}
use Rattle.codec.specs.Payload.{Bytes, payload_bytes, rank, payload_bit, held_payload}
use Rattle.codec.specs.Packing.{BitFlipped, HoldsBits, flipped_at}
use Rattle.codec.proofs.theory.BinaryDigits.{xor_bit, xor_bit_left, power_bit, power_bit_other}
use Rattle.codec.proofs.theorems.Payload.{bits_tell}
use Rattle.codec.proofs.theory.NamedCells.{flipped_own, flipped_other}
use Rattle.codec.proofs.theory.Gathered.{rank_checks}
use Rattle.codec.proofs.theory.HeldPayload.{held_length, held_bytes, held_bit}
use Rattle.codec.proofs.theory.Ranks.{bytes_most, rank_rises, rank_some}
use Rattle.codec.proofs.theory.PayloadByte.{byte_power}

-- the exclusive or of a digit and 1
digit_flips : (d : ℕ) → d ≤ 1 → bit_xor d 1 ≡ 1 - d
digit_flips zero l = refl
digit_flips (suc zero) l = refl
digit_flips (suc (suc d)) l = absurd (omega arith)

-- one bit of a byte flipped
byte_flips : (x e : ℕ) → bit_xor x (2 ^ e) / 2 ^ e % 2 ≡ flip (x / 2 ^ e % 2)
byte_flips x e =
    xor_bit x (2 ^ e) e ∙ ap (bit_xor (x / 2 ^ e % 2)) (power_bit e) ∙ digit_flips (x / 2 ^ e % 2) (omega arith)

byte_keeps : (x d e : ℕ) → d ≢ e → bit_xor x (2 ^ d) / 2 ^ e % 2 ≡ x / 2 ^ e % 2
byte_keeps x d e n = xor_bit_left x (2 ^ d) e (power_bit_other d e n)

module _ (l : List ℕ) (k : ℕ) where
  pub bit_flipped : k / 8 < length l → BitFlipped l (set l (k / 8) (bit_xor (get_or l (k / 8) 0) (1 * 2 ^ (7 - k % 8) % 256))) k
  unfolding payload_bit
  bit_flipped h = record { at = λ j p. go j p (ℕ_discrete j k) (ℕ_discrete (j / 8) (k / 8)) }
    where
      after : List ℕ
      after = set l (k / 8) (bit_xor (get_or l (k / 8) 0) (1 * 2 ^ (7 - k % 8) % 256))

      byte : (j : ℕ) → j / 8 ≡ k / 8 → get_or after (j / 8) 0 ≡ bit_xor (get_or l (j / 8) 0) (2 ^ (7 - k % 8))
      byte j q =
          ap (λ (i : ℕ). get_or after i 0) q
          ∙ get_or-set_same l (k / 8) _ 0 h
          ∙ ap₂ bit_xor (ap (λ (i : ℕ). get_or l i 0) (sym q)) (byte_power k)

      go : (j : ℕ) → j < 8 * length l → Dec (j ≡ k) → Dec (j / 8 ≡ k / 8)
          → get_or after (j / 8) 0 / 2 ^ (7 - j % 8) % 2
          ≡ cond (eqb j k) (flip (get_or l (j / 8) 0 / 2 ^ (7 - j % 8) % 2)) (get_or l (j / 8) 0 / 2 ^ (7 - j % 8) % 2)
      go j p (yes e) q =
          ap (λ (x : ℕ). x / 2 ^ (7 - j % 8) % 2) (byte j (ap (λ (i : ℕ). i / 8) e)
          ∙ ap (λ (i : ℕ). bit_xor (get_or l (j / 8) 0) (2 ^ (7 - i % 8))) (sym e))
          ∙ byte_flips (get_or l (j / 8) 0) (7 - j % 8)
          ∙ rw (eq-eqb j k e)
      go j p (no d) (yes q) =
          ap (λ (x : ℕ). x / 2 ^ (7 - j % 8) % 2) (byte j q)
          ∙ byte_keeps (get_or l (j / 8) 0) (7 - k % 8) (7 - j % 8) (λ (z : 7 - k % 8 ≡ 7 - j % 8). d (omega arith))
          ∙ rw (ne_eqb j k d)
      go j p (no d) (no q) =
          ap (λ (x : ℕ). x / 2 ^ (7 - j % 8) % 2) (get_or-set_other l (k / 8) (j / 8) _ 0 q) ∙ rw (ne_eqb j k d)

module _ (L : Layout) where
  -- the bits of fields that are the same
  pub bits_same : (f g : Field) (l : List ℕ) → Same f g L.cells → HoldsBits L f l → HoldsBits L g l
  bits_same f g l s h = record { at = λ i p q r. h.at i p q r ∙ s i p }

  -- the bit of a data cell is flipped with it; a check has none
  bits_flipped : (f : Field) (l after : List ℕ) (c : ℕ) → c < L.cells → holds_data L c ≡ true → length after ≡ length l
      → BitFlipped l after (rank L c) → HoldsBits L f l → HoldsBits L (flipped_at f c) after
  bits_flipped f l after c p held long flipped h = record { at = λ i q d r. go i q d (omega arith) (ℕ_discrete i c) }
    where
      differ : (i : ℕ) → i < L.cells → holds_data L i ≡ true → i ≢ c → rank L i ≢ rank L c
      differ i q d n e = low (dec_lt i c)
        where
          low : Dec (i < c) → ⊥
          low (yes z) = omega (arith, rank_rises L i c z d)
          low (no z) = omega (arith, n, rank_rises L c i (above (dec_lt c i)) held)
            where
              above : Dec (c < i) → c < i
              above (yes y) = y
              above (no y) = absurd (n (omega arith))

      go : (i : ℕ) → i < L.cells → holds_data L i ≡ true → rank L i < 8 * length l → Dec (i ≡ c)
          → payload_bit after (rank L i) ≡ flipped_at f c i
      go i q d r (yes e) =
          flipped.at (rank L i) r
          ∙ rw (eq-eqb (rank L i) (rank L c) (ap (rank L) e)) (ap flip (h.at i q d r))
          ∙ sym (ap (flipped_at f c) e ∙ flipped_own f c ∙ ap (λ (x : ℕ). flip (f x)) (sym e))
      go i q d r (no n) =
          flipped.at (rank L i) r
          ∙ rw (ne_eqb (rank L i) (rank L c) (differ i q d n)) (h.at i q d r)
          ∙ sym (flipped_other f c i n)

  bits_check : (f : Field) (l : List ℕ) (c : ℕ) → holds_data L c ≡ false → HoldsBits L f l → HoldsBits L (flipped_at f c) l
  bits_check f l c held h =
      record {
        at = λ i p d r. h.at i p d r ∙ sym (flipped_other f c i (λ (e : i ≡ c). true≢false (sym d ∙ ap (holds_data L) e ∙ held)));
      }

  pub bits_outside : (f : Field) (l : List ℕ) (c : ℕ) → L.cells ≤ c → HoldsBits L f l → HoldsBits L (flipped_at f c) l
  bits_outside f l c out h =
      record { at = λ i p d r. h.at i p d r ∙ sym (flipped_other f c i (λ (e : i ≡ c). omega arith)) }

  -- by the list of the check cells: a listed cell has no bit, and the bit of another is its number less the checks before it
  module _ (f : Field) (l : List ℕ) (amount : ℕ) (checks : List ℕ) (k : ℕ) (lists : ListsChecks L L.cells amount checks) where
    pub bits_listed : k < amount → (c : ℕ) → get_or checks k 0 ≡ c → HoldsBits L f l → HoldsBits L (flipped_at f c) l
    bits_listed p c e h = bits_check f l c (ap (holds_data L) (sym e) ∙ (lists.at k p).check) h

    pub bits_unlisted : (c : ℕ)
        → c < L.cells
        → k ≡ checks_to L c
        → (k < amount → get_or checks k 0 ≡ c → ⊥)
        → (after : List ℕ)
        → length after ≡ length l
        → BitFlipped l after (c - k)
        → HoldsBits L f l
        → HoldsBits L (flipped_at f c) after
    bits_unlisted c p e other after long flipped h = go (holds_data L c) refl
      where
        ranked : c - k ≡ rank L c
        ranked = omega (arith, rank_checks L c)

        go : (b : Bool) → holds_data L c ≡ b → HoldsBits L (flipped_at f c) after
        go true held = bits_flipped f l after c p held long (subst (BitFlipped l after) ranked flipped) h
        go false held =
            let at = check_at L L.cells amount checks lists (le_refl _) k c p (sym e) held in absurd (other at.0 at.1)

  -- a payload of the right length with those bits is the one that the field holds
  pub bits_all : (f : Field) (l : List ℕ) → Cells f L.cells → length l ≡ payload_bytes L → Bytes l → HoldsBits L f l
      → l ≡ held_payload L f
  bits_all f l cells long bytes h = bits_tell l (held_payload L f) bytes (held_bytes L f cells) (long ∙ sym (held_length L f)) bit
    where
      at : (k : ℕ) → k < 8 * length l → (i : ℕ) × (i < L.cells) × (holds_data L i ≡ true) × (rank L i ≡ k)
          → payload_bit l k ≡ payload_bit (held_payload L f) k
      at k p r =
          ap (payload_bit l) (sym r.3)
          ∙ h.at r.0 r.1 r.2 (omega (arith, r.3))
          ∙ sym (held_bit L f cells r.0 r.1 r.2 (omega (arith, r.3)))
          ∙ ap (payload_bit (held_payload L f)) r.3

      bit : (k : ℕ) → k < 8 * length l → payload_bit l k ≡ payload_bit (held_payload L f) k
      bit k p = at k p (rank_some L k (omega (arith, bytes_most L)))
