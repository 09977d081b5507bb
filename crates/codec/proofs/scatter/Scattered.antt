-- The values of the cells that hold no check, put into a part of the field run by run: eight cells at a time or one by one.
use Prim.Native.Nat.{ℕ, zero, suc, ◌+◌, ◌-◌, ◌/◌, ◌%◌, ◌^◌, ◌<◌, ◌≤◌}
use mathlib.Core.List.{List}
use mathlib.Core.Logic.{◌⊎◌, inl, inr, ⊎_elim}
use mathlib.Core.Path.{◌≡◌, sym, ap, ap₂, ◌∙◌}
use native.Mathlib.Omega.{arith}
use lib.ListN.{length, get_or, set}
use lib.Seq.{get_or-set_same}
use Rattle.codec.specs.Payload.{padding, payload_bit, data_value}
use Rattle.codec.specs.Packing.{BeginsByte}
use Rattle.codec.specs.Filling.{BitsPut, ValuesPut}
use Rattle.codec.proofs.theory.PayloadBits.{value_bit}

-- the entry that is stored
stored : (l : List ℕ) (i v y : ℕ) → i < length l → y ≡ i → get_or (set l i v) y 0 ≡ v
stored l i v y h e = ap (λ (k : ℕ). get_or (set l i v) k 0) e ∙ get_or-set_same l i v 0 h

-- four cells stored one by one
module _ (l : List ℕ) (x v : ℕ) (room : x + 4 ≤ length l) where
  abbrev one : List ℕ
  one = set l x (v / 8 % 2)

  abbrev two : List ℕ
  two = set one (x + 1) (v / 4 % 2)

  abbrev three : List ℕ
  three = set two (x + 2) (v / 2 % 2)

-- a byte's cells from those of its halves
pub byte_put : (before between after : List ℕ) (x v : ℕ) → BitsPut before between x 4 (v / 16)
    → BitsPut between after (x + 4) 4 (v % 16) → BitsPut before after x 8 v
byte_put before between after x v a b = record { own = own; others = others }
  where
    high : (d : ℕ) → d < 4 → get_or after (x + d) 0 ≡ v / 16 / 2 ^ (4 - 1 - d) % 2
    high d p = b.others (x + d) (inl (omega arith)) ∙ a.own d p

    low : (d : ℕ) → d < 4 → get_or after (x + (4 + d)) 0 ≡ v % 16 / 2 ^ (4 - 1 - d) % 2
    low d p =
        let e : x + (4 + d) ≡ x + 4 + d = omega arith in
        ap (λ (k : ℕ). get_or after k 0) e ∙ b.own d p

    own : (d : ℕ) → d < 8 → get_or after (x + d) 0 ≡ v / 2 ^ (8 - 1 - d) % 2
    own zero p = high 0 (omega arith) ∙ omega arith
    own (suc zero) p = high 1 (omega arith) ∙ omega arith
    own (suc (suc zero)) p = high 2 (omega arith) ∙ omega arith
    own (suc (suc (suc zero))) p = high 3 (omega arith) ∙ omega arith
    own (suc (suc (suc (suc zero)))) p = low 0 (omega arith) ∙ omega arith
    own (suc (suc (suc (suc (suc zero))))) p = low 1 (omega arith) ∙ omega arith
    own (suc (suc (suc (suc (suc (suc zero)))))) p = low 2 (omega arith) ∙ omega arith
    own (suc (suc (suc (suc (suc (suc (suc zero))))))) p = low 3 (omega arith) ∙ omega arith
    own (suc (suc (suc (suc (suc (suc (suc (suc d)))))))) p = absurd (omega arith)

    others : (y : ℕ) → (y < x) ⊎ (x + 8 ≤ y) → get_or after y 0 ≡ get_or before y 0
    others y o =
        b.others y (⊎_elim (λ s. inl (omega arith)) (λ s. inr (omega arith)) o)
        ∙ a.others y (⊎_elim (λ s. inl s) (λ s. inr (omega arith)) o)

module _ (payload : List ℕ) (at k i : ℕ) where
  -- the eight cells of a byte
  pub values_byte : (before after : List ℕ) (room : ℕ) → k ≤ i → at ≤ i → BeginsByte (i - k) room (length payload)
      → BitsPut before after (i - at) 8 (get_or payload ((i - k) / 8) 0) → ValuesPut payload before after at k i (i + 8)
  unfolding payload_bit
  values_byte before after room few p begins put = record { own = own; others = others }
    where
      bit : (d : ℕ) → d < 8 → get_or payload ((i - k) / 8) 0 / 2 ^ (8 - 1 - d) % 2 ≡ payload_bit payload (i - k + d)
      bit d l =
          let j : (i - k) / 8 ≡ (i - k + d) / 8 = omega (arith, begins.first) in
          let r : 8 - 1 - d ≡ 7 - (i - k + d) % 8 = omega (arith, begins.first) in
          ap₂ (λ (a b : ℕ). get_or payload a 0 / 2 ^ b % 2) j r

      own : (x : ℕ) → i ≤ x → x < i + 8 → get_or after (x - at) 0 ≡ data_value padding (length payload) payload (x - k)
      own x a b =
          let place : x - at ≡ i - at + (x - i) = omega arith in
          let number : i - k + (x - i) ≡ x - k = omega arith in
          ap (λ (y : ℕ). get_or after y 0) place
          ∙ put.own (x - i) (omega arith)
          ∙ bit (x - i) (omega arith)
          ∙ sym (value_bit padding (length payload) payload (i - k + (x - i)) (omega (arith, begins.first, begins.inside)))
          ∙ ap (data_value padding (length payload) payload) number

      others : (y : ℕ) → (at + y < i) ⊎ (i + 8 ≤ at + y) → get_or after y 0 ≡ get_or before y 0
      others y o = put.others y (⊎_elim (λ s. inl (omega arith)) (λ s. inr (omega arith)) o)
