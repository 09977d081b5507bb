-- Bytes written in hexadecimal, two digits a byte.
use Prim.Native.Nat.{ℕ, ◌+◌, ◌*◌, ◌/◌, ◌%◌, ◌<◌, ◌≤◌}
use mathlib.Core.List.{List}
use mathlib.Core.Path.{◌≡◌, sym, ap, subst, ◌∙◌}
use native.Mathlib.Nat.{add_assoc}
use native.Mathlib.Omega.{arith}
use lib.ListN.{length, get_or, set, take}
use Rattle.card.specs.Text.{hex_digit, hex_text}
use Rattle.card.specs.Working.{HasRoom, Printed}
use Rattle.card.proofs.theory.HexText.{length_hex, hex_high, hex_low}
use Rattle.card.proofs.theory.Printed.{prefix_more, prefix_long, prefix_all}

-- the first j bytes are written, and the position behind them is `next`
pub record HexPrinted (xs ys : List ℕ) (at : ℕ) (p : List ℕ) (j next : ℕ) : Type 0 where
  pub printed : Printed xs ys at (take (2 * j) (hex_text p)) (at + 2 * j)
  pub behind : next ≡ at + 2 * j

module _ {xs : List ℕ} {at : ℕ} {p : List ℕ} (room : HasRoom xs at (hex_text p)) where
  module _ {ys : List ℕ} {j next : ℕ} (h : HexPrinted xs ys at p j next) where
    pub hex_long : j ≤ length p → length ys ≡ length xs
    hex_long l = prefix_long room (2 * j) (omega (arith, length_hex p)) h.printed

    -- two digits more have room
    pub hex_room : j < length p → next + 1 < length ys
    hex_room l = omega (arith, room.fits, length_hex p, hex_long (omega arith), h.behind)

    pub hex_more : j < length p → (b x y : ℕ) → b ≡ get_or p j 0 → x ≡ hex_digit (b / 16) → y ≡ hex_digit (b % 16)
        → HexPrinted xs (set (set ys next x) (next + 1) y) at p (j + 1) (next + 2)
    hex_more l b x y e f g =
        let far : 2 * j + 1 + 1 ≡ 2 * (j + 1) = omega arith in
        let first =
        prefix_more room (2 * j) x (omega (arith, length_hex p))
        (f ∙ ap (λ (v : ℕ). hex_digit (v / 16)) e ∙ sym (hex_high p j l)) h.printed in
        let both =
        prefix_more room (2 * j + 1) y (omega (arith, length_hex p))
        (g ∙ ap (λ (v : ℕ). hex_digit (v % 16)) e ∙ sym (hex_low p j l)) first in
        let here : at + 2 * j ≡ next = sym h.behind in
        let beside : at + (2 * j + 1) ≡ next + 1 = sym (add_assoc at (2 * j) 1) ∙ ap (λ (n : ℕ). n + 1) here in
        record {
          printed = subst (λ (k : ℕ). Printed xs (set (set ys next x) (next + 1) y) at (take k (hex_text p)) (at + k))
              far (subst
              (λ (n : ℕ). Printed xs (set (set ys n x) (next + 1) y) at (take (2 * j + 1 + 1) (hex_text p))
              (at + (2 * j + 1 + 1)))
              here (subst
              (λ (n : ℕ). Printed xs (set (set ys (at + 2 * j) x) n y) at (take (2 * j + 1 + 1) (hex_text p))
              (at + (2 * j + 1 + 1)))
              beside both));
          behind = omega (arith, h.behind);
        }

    pub hex_all : j ≤ length p → length p ≤ j → Printed xs ys at (hex_text p) next
    hex_all l q =
        subst
        (λ (n : ℕ). Printed xs ys at (hex_text p) n)
        (sym h.behind)
        (prefix_all room (2 * j) (2 * j) (omega (arith, length_hex p)) (omega arith) (omega arith) h.printed)
