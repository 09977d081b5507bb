-- Bytes in lower-case hexadecimal: the digits and their values, and the text of a list of bytes, two digits a byte.
use Prim.Native.Nat.{ℕ, zero, suc, ◌+◌, ◌-◌, ◌*◌, ◌/◌, ◌%◌, ◌<◌, ◌≤◌}
use mathlib.Core.Bool.{true, ◌||◌}
use mathlib.Core.List.{List, [], ◌∷◌}
use mathlib.Core.Logic.{⊎_elim}
use mathlib.Core.Path.{◌≡◌, refl, sym, ap, ◌∙◌}
use native.Mathlib.Decide.{dec_lt, ℕ_discrete}
use native.Mathlib.Nat.{not-suc-le-zero}
use native.Mathlib.Omega.{arith}
use borrow.Author.Tests.{lt-ltb, le-ltb}
use lib.ListN.{length, get_or}
use Rattle.lattice.specs.Range.{in_range}
use Rattle.lattice.proofs.theory.Bools.{or_true_left, or_true_right, or_cases}
use Rattle.lattice.proofs.theory.Limits.{in_range_lem, range_low, range_high}
use Rattle.codec.specs.Payload.{Bytes}
use Rattle.card.specs.Text.{hex_digit, hex_text}
use Rattle.card.specs.Parse.{is_hex, hex_value}
use Rattle.card.proofs.theory.StandsAt.{StandsAt}

-- the digit of a value below 16: it is a digit, and its value is that value
pub digit_low : (d : ℕ) → d < 10 → hex_digit d ≡ 48 + d
unfolding hex_digit
digit_low d l = rw (lt-ltb d 10 l)

pub digit_high : (d : ℕ) → 10 ≤ d → hex_digit d ≡ 87 + d
unfolding hex_digit
digit_high d l = rw (le-ltb d 10 l)

pub value_low : (b : ℕ) → b < 58 → hex_value b ≡ b - 48
unfolding hex_value
value_low b l = rw (lt-ltb b 58 l)

pub value_high : (b : ℕ) → 58 ≤ b → hex_value b ≡ b - 87
unfolding hex_value
value_high b l = rw (le-ltb b 58 l)

digit_is_hex : (d : ℕ) → d < 16 → is_hex (hex_digit d) ≡ true
unfolding is_hex
digit_is_hex d l = go (dec_lt d 10)
  where
    go : Dec (d < 10) → (in_range 48 57 (hex_digit d) || in_range 97 102 (hex_digit d)) ≡ true
    go (yes k) =
        or_true_left (in_range 48 57 (hex_digit d)) _
        (in_range_lem 48 57 (hex_digit d) (omega (arith, digit_low d k)) (omega (arith, digit_low d k)))
    go (no k) =
        let e = digit_high d (omega arith) in
        or_true_right (in_range 48 57 (hex_digit d)) _ (in_range_lem 97 102 (hex_digit d) (omega arith) (omega arith))

value_of_digit : (d : ℕ) → d < 16 → hex_value (hex_digit d) ≡ d
value_of_digit d l = go (dec_lt d 10)
  where
    go : Dec (d < 10) → hex_value (hex_digit d) ≡ d
    go (yes k) = let e = digit_low d k in value_low (hex_digit d) (omega arith) ∙ omega arith
    go (no k) = let e = digit_high d (omega arith) in value_high (hex_digit d) (omega arith) ∙ omega arith

-- the value of a digit: it is below 16, and its digit is that digit
pub hex_range : (b : ℕ) → is_hex b ≡ true → (hex_value b < 16) × (hex_digit (hex_value b) ≡ b)
unfolding is_hex
hex_range b p = ⊎_elim low high (or_cases (in_range 48 57 b) (in_range 97 102 b) p)
  where
    low : in_range 48 57 b ≡ true → (hex_value b < 16) × (hex_digit (hex_value b) ≡ b)
    low q =
        let least = range_low 48 57 b q in
        let most = range_high 48 57 b q in
        let e = value_low b (omega arith) in
        (omega arith, digit_low (hex_value b) (omega arith) ∙ omega arith)

    high : in_range 97 102 b ≡ true → (hex_value b < 16) × (hex_digit (hex_value b) ≡ b)
    high q =
        let least = range_low 97 102 b q in
        let most = range_high 97 102 b q in
        let e = value_high b (omega arith) in
        (omega arith, digit_high (hex_value b) (omega arith) ∙ omega arith)

-- the text of a list of bytes, by byte
pub length_hex : (p : List ℕ) → length (hex_text p) ≡ 2 * length p
length_hex [] = refl
length_hex (b ∷ p) = omega (arith, length_hex p)

pub hex_high : (p : List ℕ) (j : ℕ) → j < length p → get_or (hex_text p) (2 * j) 0 ≡ hex_digit (get_or p j 0 / 16)
hex_high [] j l = absurd (not-suc-le-zero l)
hex_high (b ∷ p) zero l = refl
hex_high (b ∷ p) (suc j) l = let e : 2 * suc j ≡ suc (suc (2 * j)) = omega arith in rw e (hex_high p j (omega arith))

pub hex_low : (p : List ℕ) (j : ℕ) → j < length p → get_or (hex_text p) (2 * j + 1) 0 ≡ hex_digit (get_or p j 0 % 16)
hex_low [] j l = absurd (not-suc-le-zero l)
hex_low (b ∷ p) zero l = refl
hex_low (b ∷ p) (suc j) l = let e : 2 * suc j + 1 ≡ suc (suc (2 * j + 1)) = omega arith in rw e (hex_low p j (omega arith))

-- the text of bytes is of hexadecimal digits
pub hex_digits : (p : List ℕ) → Bytes p → (i : ℕ) → i < length (hex_text p) → is_hex (get_or (hex_text p) i 0) ≡ true
hex_digits [] bytes i l = absurd (not-suc-le-zero l)
hex_digits (b ∷ p) bytes zero l = digit_is_hex (b / 16) (omega (arith, bytes 0))
hex_digits (b ∷ p) bytes (suc zero) l = digit_is_hex (b % 16) (omega arith)
hex_digits (b ∷ p) bytes (suc (suc i)) l = hex_digits p (λ j. bytes (suc j)) i (omega arith)

-- the text stands where the two digits of each byte stand
pub record Pair (s : List ℕ) (at b : ℕ) : Type 0 where
  pub high : get_or s at 0 ≡ hex_digit (b / 16)
  pub low : get_or s (at + 1) 0 ≡ hex_digit (b % 16)

pub hex_stands : (p s : List ℕ) (at : ℕ) → ((j : ℕ) → j < length p → Pair s (at + 2 * j) (get_or p j 0))
    → StandsAt (hex_text p) s at
hex_stands p s at pairs i l = go (ℕ_discrete (i % 2) 0)
  where
    inside : i / 2 < length p
    inside = omega (arith, length_hex p)

    go : Dec (i % 2 ≡ 0) → get_or s (at + i) 0 ≡ get_or (hex_text p) i 0
    go (yes e) =
        let same : i ≡ 2 * (i / 2) = omega arith in
        ap (λ (k : ℕ). get_or s (at + k) 0) same
        ∙ (pairs (i / 2) inside).high
        ∙ sym (hex_high p (i / 2) inside)
        ∙ ap (λ (k : ℕ). get_or (hex_text p) k 0) (sym same)
    go (no e) =
        let same : i ≡ 2 * (i / 2) + 1 = omega arith in
        let place : at + i ≡ at + 2 * (i / 2) + 1 = omega arith in
        ap (λ (k : ℕ). get_or s k 0) place
        ∙ (pairs (i / 2) inside).low
        ∙ sym (hex_low p (i / 2) inside)
        ∙ ap (λ (k : ℕ). get_or (hex_text p) k 0) (sym same)

pub stands_hex : (p s : List ℕ) (at : ℕ) → StandsAt (hex_text p) s at → (j : ℕ) → j < length p
    → Pair s (at + 2 * j) (get_or p j 0)
stands_hex p s at text j l =
    let place : at + 2 * j + 1 ≡ at + (2 * j + 1) = omega arith in
    record {
      high = text (2 * j) (omega (arith, length_hex p)) ∙ hex_high p j l;
      low = ap (λ (k : ℕ). get_or s k 0) place ∙ text (2 * j + 1) (omega (arith, length_hex p)) ∙ hex_low p j l;
    }

-- the byte of two digits: from the byte, and back
pub pair_read : (s : List ℕ) (at b : ℕ) → b < 256 → Pair s at b → hex_value (get_or s at 0) * 16
    + hex_value (get_or s (at + 1) 0) ≡ b
pair_read s at b l x =
    let high : hex_value (get_or s at 0) ≡ b / 16 = ap hex_value x.high ∙ value_of_digit (b / 16) (omega arith) in
    let low : hex_value (get_or s (at + 1) 0) ≡ b % 16 = ap hex_value x.low ∙ value_of_digit (b % 16) (omega arith) in
    omega arith

pub read_pair : (s : List ℕ) (at b : ℕ) → hex_value (get_or s at 0) * 16 + hex_value (get_or s (at + 1) 0) ≡ b
    → is_hex (get_or s at 0) ≡ true → is_hex (get_or s (at + 1) 0) ≡ true → (b < 256) × Pair s at b
read_pair s at b e p q =
    let h = hex_range (get_or s at 0) p in
    let l = hex_range (get_or s (at + 1) 0) q in
    let high : b / 16 ≡ hex_value (get_or s at 0) = omega arith in
    let low : b % 16 ≡ hex_value (get_or s (at + 1) 0) = omega arith in
    (omega arith, record { high = sym (ap hex_digit high ∙ h.1); low = sym (ap hex_digit low ∙ l.1) })
