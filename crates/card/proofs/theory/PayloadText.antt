-- The line `payload`: its length, how it is read, and where it stands.
use Prim.Native.Nat.{ℕ, ◌+◌, ◌-◌, ◌*◌, ◌/◌, ◌%◌, ◌<◌}
use mathlib.Core.Bool.{Bool, true, ◌&&◌}
use mathlib.Core.List.{List, [], ◌∷◌, ◌++◌}
use mathlib.Core.Path.{◌≡◌, refl, sym, ap, ◌∙◌}
use native.Mathlib.Decide.{dec_lt}
use native.Mathlib.Omega.{arith}
use borrow.Author.Tests.{lt-ltb, ltb-true, eq-eqb, eqb-true}
use lib.Dec.{ltb, eqb, lit≤}
use lib.ListN.{length, get_or, drop, length-append}
use Rattle.lattice.specs.Counting.{all_below}
use Rattle.lattice.proofs.theory.Bools.{and_true, and_left, and_right}
use Rattle.codec.specs.Payload.{Bytes}
use Rattle.codec.proofs.theory.AllBelow.{all_below_lem, below_all}
use Rattle.codec.proofs.theory.FieldLists.{get_d_list_of, get_d_list_of_behind, length_list_of, list_field}
use Rattle.card.specs.Text.{hex_text, payload_text, payload_key, feed}
use Rattle.card.specs.Parse.{key_at, is_hex, hex_value, hex_count, payload_ok, payload_of}
use Rattle.card.proofs.theory.StandsAt.{StandsAt, stands_left, stands_right, stands_both, stands_one, one_stands}
use Rattle.card.proofs.theory.StandsAt.{stands_part, stands_last, stands_whole, key_at_lem, at_key}
use Rattle.card.proofs.theory.HexText.{Pair, length_hex, hex_stands, stands_hex, hex_digits, pair_read, read_pair}

-- the length of the line, by the number of bytes
pub length_payload : (p : List ℕ) → length (payload_text p) ≡ 9 + 2 * length p
unfolding payload_text
length_payload p =
    omega (arith, length-append payload_key (hex_text p ++ (feed ∷ [])), length-append (hex_text p) (feed ∷ []), length_hex p)

-- the line of the bytes p stands at `at`, and is the last
pub record PayloadStands (s : List ℕ) (at : ℕ) (p : List ℕ) : Type 0 where
  pub bytes : Bytes p
  pub stands : StandsAt (payload_text p) s at
  pub ends : length s ≡ at + length (payload_text p)

-- the same by parts: the key, the digits of each byte, and the line feed
record Parts (s : List ℕ) (at : ℕ) (p : List ℕ) : Type 0 where
  key : StandsAt payload_key s at
  hex : StandsAt (hex_text p) s (at + 8)
  ended : get_or s (at + 8 + 2 * length p) 0 ≡ feed

to_parts : (s : List ℕ) (at : ℕ) (p : List ℕ) → StandsAt (payload_text p) s at → Parts s at p
unfolding payload_text
to_parts s at p x =
    let behind = stands_right payload_key (hex_text p ++ (feed ∷ [])) s at x in
    record {
      key = stands_left payload_key (hex_text p ++ (feed ∷ [])) s at x;
      hex = stands_left (hex_text p) (feed ∷ []) s (at + 8) behind;
      ended = rw (length_hex p) at
          (one_stands s (at + 8 + length (hex_text p)) feed (stands_right (hex_text p) (feed ∷ []) s (at + 8) behind));
    }

from_parts : (s : List ℕ) (at : ℕ) (p : List ℕ) → Parts s at p → StandsAt (payload_text p) s at
unfolding payload_text
from_parts s at p x =
    stands_both payload_key (hex_text p ++ (feed ∷ [])) s at x.key
    (stands_both (hex_text p) (feed ∷ []) s (at + 8)
    x.hex
    (stands_one s (at + 8 + length (hex_text p)) feed (rw (length_hex p) x.ended)))

-- the tests of the line, one by one
pub record Tests (s : List ℕ) (at : ℕ) : Type 0 where
  pub key : key_at payload_key s at ≡ true
  pub fits : at + 8 < length s
  pub ended : get_or s (length s - 1) 0 ≡ feed
  pub whole : hex_count s at % 2 ≡ 0
  pub each : (j : ℕ) → j < hex_count s at → is_hex (get_or s (at + 8 + j) 0) ≡ true

five : (a b c d e : Bool) → (a && b && c && d && e) ≡ true → (a ≡ true) × (b ≡ true) × (c ≡ true) × (d ≡ true) × (e ≡ true)
five a b c d e p =
    let four = and_left (a && b && c && d) e p in
    let three = and_left (a && b && c) d four in
    let two = and_left (a && b) c three in (
      and_left a b two,
      and_right a b two,
      and_right (a && b) c three,
      and_right (a && b && c) d four,
      and_right (a && b && c && d) e p,
    )

pub ok_tests : (s : List ℕ) (at : ℕ) → payload_ok s at ≡ true → Tests s at
unfolding payload_ok
ok_tests s at p =
    let r =
    five (key_at payload_key s at) (ltb (at + 8) (length s)) (eqb (get_or s (length s - 1) 0) feed) (eqb (hex_count s at % 2) 0)
    (all_below (λ j. is_hex (get_or s (at + 8 + j) 0)) (hex_count s at)) p in
    record {
      key = r.0;
      fits = ltb-true (at + 8) (length s) r.1;
      ended = eqb-true (get_or s (length s - 1) 0) feed r.2;
      whole = eqb-true (hex_count s at % 2) 0 r.3;
      each = below_all (λ j. is_hex (get_or s (at + 8 + j) 0)) (hex_count s at) r.4;
    }

tests_ok : (s : List ℕ) (at : ℕ) → Tests s at → payload_ok s at ≡ true
unfolding payload_ok
tests_ok s at x =
    and_true _ (all_below (λ j. is_hex (get_or s (at + 8 + j) 0)) (hex_count s at))
    (and_true _ (eqb (hex_count s at % 2) 0)
    (and_true _ (eqb (get_or s (length s - 1) 0) feed)
    (and_true (key_at payload_key s at) _ x.key (lt-ltb (at + 8) (length s) x.fits))
    (eq-eqb (get_or s (length s - 1) 0) feed x.ended))
    (eq-eqb (hex_count s at % 2) 0 x.whole))
    (all_below_lem (λ j. is_hex (get_or s (at + 8 + j) 0)) (hex_count s at) x.each)

-- the payload that stands there is read
hex_count_lem : (s : List ℕ) (at : ℕ) (p : List ℕ) → length s ≡ at + length (payload_text p) → hex_count s at ≡ 2 * length p
hex_count_lem s at p e = omega (arith, length_payload p)

payload_ok_lem : (s : List ℕ) (at : ℕ) (p : List ℕ) → PayloadStands s at p → payload_ok s at ≡ true
payload_ok_lem s at p x =
    let r = to_parts s at p x.stands in
    let n = hex_count_lem s at p x.ends in
    let last : length s - 1 ≡ at + 8 + 2 * length p = omega (arith, x.ends, length_payload p) in
    tests_ok s at
    (record {
      key = key_at_lem payload_key s at r.key;
      fits = omega (arith, x.ends, length_payload p);
      ended = ap (λ (i : ℕ). get_or s i 0) last ∙ r.ended;
      whole = omega arith;
      each = λ j l. let k : j < length (hex_text p) = omega (arith, length_hex p) in rw (r.hex j k) (hex_digits p x.bytes j k);
    })

-- byte j of what is read at `at`, and how many bytes that is
unfoldable pub payload_byte : List ℕ → ℕ → ℕ → ℕ
payload_byte s at j = hex_value (get_or s (at + 8 + 2 * j) 0) * 16 + hex_value (get_or s (at + 8 + 2 * j + 1) 0)

pub payload_count : (s : List ℕ) (at : ℕ) → length (payload_of s at) ≡ hex_count s at / 2
unfolding payload_of payload_byte
payload_count s at = length_list_of (payload_byte s at) (hex_count s at / 2)

payload_read : (s : List ℕ) (at : ℕ) (p : List ℕ) → PayloadStands s at p → payload_of s at ≡ p
unfolding payload_of payload_byte
payload_read s at p x =
    let r = to_parts s at p x.stands in
    let n = hex_count_lem s at p x.ends in
    sym
    (list_field p (payload_byte s at) (hex_count s at / 2) (omega arith)
    (λ j l. sym (pair_read s (at + 8 + 2 * j) (get_or p j 0) (x.bytes j) (stands_hex p s (at + 8) r.hex j (omega arith)))))

-- the payload that is read stands there
pub at_payload : (s : List ℕ) (at : ℕ) → payload_ok s at ≡ true → PayloadStands s at (payload_of s at)
unfolding payload_of payload_byte
at_payload s at p =
    record {
      bytes = λ j. every j (dec_lt j n);
      stands =
          from_parts s at (payload_of s at)
          (record {
            key = at_key payload_key s at x.key;
            hex =
                hex_stands (payload_of s at) s (at + 8)
                (λ j l. let k : j < n = omega (arith, long) in rw (get_d_list_of (payload_byte s at) n j k) (pairs j k).1);
            ended = ap (λ (i : ℕ). get_or s i 0) last ∙ x.ended;
          });
      ends = omega (arith, length_payload (payload_of s at), long, x.fits, x.whole);
    }
  where
    x : Tests s at
    x = ok_tests s at p

    n : ℕ
    n = hex_count s at / 2

    long : length (payload_of s at) ≡ n
    long = payload_count s at

    last : at + 8 + 2 * length (payload_of s at) ≡ length s - 1
    last = omega (arith, long, x.fits, x.whole)

    pairs : (j : ℕ) → j < n → (payload_byte s at j < 256) × Pair s (at + 8 + 2 * j) (payload_byte s at j)
    pairs j l =
        let place : at + 8 + 2 * j + 1 ≡ at + 8 + (2 * j + 1) = omega arith in
        read_pair s (at + 8 + 2 * j) (payload_byte s at j) refl (x.each (2 * j) (omega arith))
        (rw place (x.each (2 * j + 1) (omega arith)))

    every : (j : ℕ) → Dec (j < n) → get_or (payload_of s at) j 0 < 256
    every j (yes l) = rw (get_d_list_of (payload_byte s at) n j l) (pairs j l).0
    every j (no l) = rw (get_d_list_of_behind (payload_byte s at) n j (omega arith)) (lit≤ tt)

-- the line behind anything is read back
pub payload_back : (before p : List ℕ) → Bytes p
    → (payload_ok (before ++ payload_text p) (length before) ≡ true) × (payload_of (before ++ payload_text p) (length before) ≡ p)
payload_back before p bytes =
    let x : PayloadStands (before ++ payload_text p) (length before) p =
    record { bytes = bytes; stands = stands_last before (payload_text p); ends = length-append before (payload_text p) } in
    (payload_ok_lem (before ++ payload_text p) (length before) p x, payload_read (before ++ payload_text p) (length before) p x)

-- what a payload is read from is its line
pub payload_text_lem : (s : List ℕ) (at : ℕ)
    → payload_ok s at ≡ true
    → Bytes (payload_of s at) × (drop at s ≡ payload_text (payload_of s at))
payload_text_lem s at p =
    let x = at_payload s at p in
    (x.bytes, stands_whole (payload_text (payload_of s at)) s at x.stands x.ends)

-- the line is that of one payload
pub payload_same : (p q : List ℕ) → Bytes p → Bytes q → payload_text p ≡ payload_text q → p ≡ q
payload_same p q bp bq e =
    sym (payload_back [] p bp).1 ∙ ap (λ (t : List ℕ). payload_of t 0) e ∙ (payload_back [] q bq).1

-- where the line stands, its key stands
pub payload_key_lem : (before p : List ℕ) → key_at payload_key (before ++ payload_text p) (length before) ≡ true
unfolding payload_text
payload_key_lem before p =
    key_at_lem payload_key (before ++ payload_text p) (length before) (stands_part before payload_key (hex_text p ++ (feed ∷ [])))
