-- The line payload, read digit by digit.
use Prim.Native.Nat.{ℕ, ◌+◌, ◌-◌, ◌*◌, ◌/◌, ◌%◌, ◌<◌, ◌≤◌}
use mathlib.Core.Bool.{Bool, true, false}
use mathlib.Core.List.{List}
use mathlib.Core.Logic.{⊎_elim}
use mathlib.Core.Path.{◌≡◌, sym, ap, ap₂, ◌∙◌}
use native.Mathlib.Nat.{add_assoc}
use native.Mathlib.Omega.{arith}
use lib.ListN.{length, get_or}
use borrow.Author.Tests.{eq-eqb, ne_eqb, lt-ltb, le-ltb}
use Rattle.lattice.specs.Range.{in_range}
use Rattle.lattice.specs.Counting.{all_below}
use Rattle.lattice.proofs.theory.Bools.{or_cases}
use Rattle.lattice.proofs.theory.Limits.{range_low, range_high}
use Rattle.codec.specs.Field.{list_of}
use Rattle.card.specs.Text.{payload_key}
use Rattle.card.specs.Parse.{key_at, is_hex, hex_value, hex_count, payload_ok, payload_of}
use Rattle.card.proofs.theory.StandsAt.{at_key, byte_inside}
use Rattle.card.proofs.theory.HexText.{hex_range}
use Rattle.card.proofs.theory.PayloadText.{ok_tests, payload_byte}
use Rattle.card.proofs.theory.StoredFront.{StoredTo, stored_all}

-- a hexadecimal digit
module _ (b : ℕ) where
  pub hex_least : is_hex b ≡ true → 48 ≤ b
  unfolding is_hex
  hex_least p =
      ⊎_elim
      (λ q. range_low 48 57 b q)
      (λ q. omega (arith, range_low 97 102 b q))
      (or_cases (in_range 48 57 b) (in_range 97 102 b) p)

  pub hex_letter : is_hex b ≡ true → 58 ≤ b → 87 ≤ b
  unfolding is_hex
  hex_letter p l =
      ⊎_elim
      (λ q. omega (arith, range_high 48 57 b q))
      (λ q. omega (arith, range_low 97 102 b q))
      (or_cases (in_range 48 57 b) (in_range 97 102 b) p)

-- the tests of the line, in the code's order
module _ (s : List ℕ) (at : ℕ) where
  pub payload_no_key : key_at payload_key s at ≡ false → false ≡ payload_ok s at
  unfolding payload_ok
  payload_no_key p = rw p

  module _ (key : key_at payload_key s at ≡ true) where
    -- the key ends inside
    pub payload_inside : at + 8 ≤ length s
    payload_inside =
        let b : get_or s (at + 7) 0 ≡ 61 = at_key payload_key s at key 7 (omega arith) in
        omega (arith, byte_inside s (at + 7) (λ e. omega arith))

    pub payload_short : length s ≤ at + 8 → false ≡ payload_ok s at
    unfolding payload_ok
    payload_short l = rw (key, le-ltb (at + 8) (length s) l)

    module _ (fits : at + 8 < length s) where
      pub payload_unended : (get_or s (length s - 1) 0 ≡ 10 → ⊥) → false ≡ payload_ok s at
      unfolding payload_ok
      payload_unended p = rw (key, lt-ltb (at + 8) (length s) fits, ne_eqb (get_or s (length s - 1) 0) 10 p)

      module _ (ended : get_or s (length s - 1) 0 ≡ 10) where
        pub payload_odd : (hex_count s at % 2 ≡ 0 → ⊥) → false ≡ payload_ok s at
        unfolding payload_ok
        payload_odd p =
            rw (
              key,
              lt-ltb (at + 8) (length s) fits,
              eq-eqb (get_or s (length s - 1) 0) 10 ended,
              ne_eqb (hex_count s at % 2) 0
                  p,
            )

        pub payload_digits : hex_count s at % 2 ≡ 0 → (t : Bool)
            → t ≡ all_below (λ j. is_hex (get_or s (at + 8 + j) 0)) (hex_count s at) → t ≡ payload_ok s at
        unfolding payload_ok
        payload_digits p t e =
            rw (
              key,
              lt-ltb (at + 8) (length s) fits,
              eq-eqb (get_or s (length s - 1) 0) 10 ended,
              eq-eqb (hex_count s at % 2) 0
                  p,
            ) e

-- the bytes of the payload, stored one by one
module _ (s : List ℕ) (at : ℕ) where
  pub payload_room : payload_ok s at ≡ true → at + 8 < length s
  payload_room ok = (ok_tests s at ok).fits

  pub payload_digit : payload_ok s at ≡ true → (n j i b : ℕ) → n ≡ hex_count s at / 2 → j < n → i ≤ 2 * j + 1
      → b ≡ get_or s (at + 8 + i) 0 → is_hex b ≡ true
  payload_digit ok n j i b e l m h = rw h ((ok_tests s at ok).each i (omega arith))

  pub payload_byte_lem : (j high low x y : ℕ) → x ≡ get_or s (at + 8 + 2 * j) 0 → y ≡ get_or s (at + 8 + (2 * j + 1)) 0
      → high ≡ hex_value x → low ≡ hex_value y → high * 16 + low ≡ payload_byte s at j
  unfolding payload_byte
  payload_byte_lem j high low x y p q e f =
      ap₂ (λ (a b : ℕ). a * 16 + b)
      (e ∙ ap hex_value p)
      (f ∙ ap hex_value (q ∙ ap (λ (i : ℕ). get_or s i 0) (sym (add_assoc (at + 8) (2 * j) 1))))

  pub payload_stored : (xs ys : List ℕ) (n : ℕ)
      → length xs ≡ hex_count s at / 2
      → StoredTo (payload_byte s at) xs ys n
      → n ≡ length xs
      → ys ≡ payload_of s at
  unfolding payload_of payload_byte
  payload_stored xs ys n long p e = stored_all (payload_byte s at) xs ys n p e ∙ ap (list_of (payload_byte s at)) long

pub value_below : (b : ℕ) → is_hex b ≡ true → (v : ℕ) → v ≡ hex_value b → v < 16
value_below b p v e = rw e (hex_range b p).0
