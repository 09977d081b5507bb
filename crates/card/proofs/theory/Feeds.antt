-- Texts up to a line feed: where two texts with no line feed in them are each followed by one, what comes behind it is the same.
use Prim.Native.Nat.{ℕ, zero, suc, ◌+◌, ◌/◌, ◌%◌}
use mathlib.Core.Bool.{Bool, true, false, cond, not, ◌&&◌}
use mathlib.Core.List.{List, [], ◌∷◌, ◌++◌, append_assoc}
use mathlib.Core.Logic.{◌≢◌}
use mathlib.Core.Path.{◌≡◌, refl, sym, ap, ◌∙◌}
use native.Mathlib.Omega.{arith}
use borrow.Author.Tests.{ne_eqb, eqb-false, not-true}
use lib.Dec.{eqb, ltb}
use lib.ListN.{get_or, drop}
use Rattle.lattice.proofs.theory.Bools.{and_true, and_left, and_right}
use Rattle.card.specs.Text.{payload_key, hex_digit, hex_text, payload_text, digits, decimal, number_line, feed, digit_count}

-- the text has no line feed
abbrev no_feed : List ℕ → Bool
no_feed [] = true
no_feed (b ∷ bs) = not (eqb b feed) && no_feed bs

no_feed_append : (a b : List ℕ) → no_feed a ≡ true → no_feed b ≡ true → no_feed (a ++ b) ≡ true
no_feed_append [] b p q = q
no_feed_append (c ∷ a) b p q =
    and_true (not (eqb c feed)) (no_feed (a ++ b)) (and_left (not (eqb c feed)) (no_feed a) p)
    (no_feed_append a b (and_right (not (eqb c feed)) (no_feed a) p) q)

-- a byte that is no line feed
no_feed_one : (b : ℕ) (bs : List ℕ) → b ≢ feed → no_feed bs ≡ true → no_feed (b ∷ bs) ≡ true
no_feed_one b bs other p = and_true (not (eqb b feed)) (no_feed bs) (ap not (ne_eqb b feed other)) p

first_other : (b : ℕ) (bs : List ℕ) → no_feed (b ∷ bs) ≡ true → b ≢ feed
first_other b bs p = eqb-false b feed (not-true (eqb b feed) (and_left (not (eqb b feed)) (no_feed bs) p))

-- what comes behind the first line feed
after_feed : (a b x y : List ℕ) → no_feed a ≡ true → no_feed b ≡ true → a ++ (feed ∷ x) ≡ b ++ (feed ∷ y) → x ≡ y
after_feed [] [] x y p q e = ap (drop 1) e
after_feed [] (c ∷ b) x y p q e = absurd (first_other c b q (sym (ap (λ (l : List ℕ). get_or l 0 0) e)))
after_feed (c ∷ a) [] x y p q e = absurd (first_other c a p (ap (λ (l : List ℕ). get_or l 0 0) e))
after_feed (c ∷ a) (d ∷ b) x y p q e =
    after_feed a b x y (and_right (not (eqb c feed)) (no_feed a) p) (and_right (not (eqb d feed)) (no_feed b) q) (ap (drop 1) e)

-- decimal and hexadecimal digits are no line feeds
no_feed_digits : (k n : ℕ) → no_feed (digits k n) ≡ true
no_feed_digits zero n = refl
no_feed_digits (suc k) n =
    no_feed_append (digits k (n / 10)) ((48 + n % 10) ∷ []) (no_feed_digits k (n / 10))
    (no_feed_one (48 + n % 10) [] (λ e. omega (arith, e)) refl)

hex_other : (d : ℕ) → hex_digit d ≢ feed
unfolding hex_digit
hex_other d = go (ltb d 10)
  where
    go : (b : Bool) → cond b (48 + d) (87 + d) ≢ feed
    go true e = omega (arith, e)
    go false e = omega (arith, e)

no_feed_hex : (p : List ℕ) → no_feed (hex_text p) ≡ true
no_feed_hex [] = refl
no_feed_hex (b ∷ bs) =
    no_feed_one (hex_digit (b / 16)) (hex_digit (b % 16) ∷ hex_text bs) (hex_other (b / 16))
    (no_feed_one (hex_digit (b % 16)) (hex_text bs) (hex_other (b % 16)) (no_feed_hex bs))

-- a line key=number, up to its line feed
module _ (key : List ℕ) (clean : no_feed key ≡ true) where
  line_up : (n : ℕ) (x : List ℕ) → number_line key n ++ x ≡ (key ++ decimal n) ++ (feed ∷ x)
  unfolding number_line
  line_up n x =
      append_assoc key (decimal n ++ (feed ∷ [])) x
      ∙ ap (λ (l : List ℕ). key ++ l) (append_assoc (decimal n) (feed ∷ []) x)
      ∙ sym (append_assoc key (decimal n) (feed ∷ x))

  no_feed_line : (n : ℕ) → no_feed (key ++ decimal n) ≡ true
  unfolding decimal
  no_feed_line n = no_feed_append key (decimal n) clean (no_feed_digits (digit_count n) n)

  pub after_line_lem : (n m : ℕ) (x y : List ℕ) → number_line key n ++ x ≡ number_line key m ++ y → x ≡ y
  after_line_lem n m x y e =
      after_feed (key ++ decimal n) (key ++ decimal m) x y (no_feed_line n) (no_feed_line m)
      (sym (line_up n x) ∙ e ∙ line_up m y)

-- the line `payload`, up to its line feed
payload_up : (p x : List ℕ) → payload_text p ++ x ≡ (payload_key ++ hex_text p) ++ (feed ∷ x)
unfolding payload_text
payload_up p x =
    append_assoc payload_key (hex_text p ++ (feed ∷ [])) x
    ∙ ap (λ (l : List ℕ). payload_key ++ l) (append_assoc (hex_text p) (feed ∷ []) x)
    ∙ sym (append_assoc payload_key (hex_text p) (feed ∷ x))

pub after_payload : (p q x y : List ℕ) → payload_text p ++ x ≡ payload_text q ++ y → x ≡ y
after_payload p q x y e =
    after_feed (payload_key ++ hex_text p) (payload_key ++ hex_text q) x y
    (no_feed_append payload_key (hex_text p) refl (no_feed_hex p))
    (no_feed_append payload_key (hex_text q) refl (no_feed_hex q)) (sym (payload_up p x) ∙ e ∙ payload_up q y)
