-- A line key=number, how it is read, and where it stands.
use Prim.Native.Nat.{ℕ, ◌+◌, ◌<◌, ◌≤◌}
use mathlib.Core.Bool.{Bool, true, false, cond}
use mathlib.Core.List.{List, [], ◌∷◌, ◌++◌}
use mathlib.Core.Path.{◌≡◌, refl, ◌∙◌}
use native.Mathlib.Omega.{arith}
use lib.ListN.{length, length-append}
use Rattle.std.specs.Prelude.{None}
use Rattle.card.specs.Text.{digit_count, decimal, number_line, feed}
use Rattle.card.specs.Parse.{read, key_at, number_at, line_at}
use Rattle.card.proofs.theory.StandsAt.{StandsAt, stands_left, stands_right, stands_both, one_stands, byte_inside, key_at_lem}
use Rattle.card.proofs.theory.StandsAt.{at_key}
use Rattle.card.proofs.theory.DecimalText.{length_decimal}
use Rattle.card.proofs.theory.NumberText.{number_at_lem, at_number}

-- the length of a line, by the width of its number
pub length_line : (key : List ℕ) (n : ℕ) → length (number_line key n) ≡ length key + digit_count n + 1
unfolding number_line
length_line key n =
    length-append key (decimal n ++ (feed ∷ []))
    ∙ omega (arith, length-append (decimal n) (feed ∷ []), length_decimal n)

-- the line of key and n stands at `at`, and the next line starts at `next`
pub record LineStands (key s : List ℕ) (at n next : ℕ) : Type 0 where
  pub small : n < 100000
  pub stands : StandsAt (number_line key n) s at
  pub next_line : next ≡ at + length (number_line key n)

-- the line that stands at `at` is read
pub line_at_lem : (key s : List ℕ) (at n next : ℕ) → LineStands key s at n next → line_at key s at ≡ read n next
unfolding line_at number_line
line_at_lem key s at n next x =
    rw (key_at_lem key s at (stands_left key (decimal n ++ (feed ∷ [])) s at x.stands))
    (number_at_lem s (at + length key) n next
    (record {
      small = x.small;
      stands = stands_right key (decimal n ++ (feed ∷ [])) s at x.stands;
      next_line = omega (arith, x.next_line, length_line key n);
    }))

-- the line that is read stands at `at`
pub at_line : (key s : List ℕ) (at n next : ℕ) → line_at key s at ≡ read n next → LineStands key s at n next
unfolding line_at number_line
at_line key s at n next p = go (key_at key s at) refl p
  where
    go : (b : Bool)
        → key_at key s at ≡ b
        → cond b (number_at s (at + length key)) None ≡ read n next
        → LineStands key s at n next
    go true e q =
        let x = at_number s (at + length key) n next q in
        record {
          small = x.small;
          stands = stands_both key (decimal n ++ (feed ∷ [])) s at (at_key key s at e) x.stands;
          next_line = omega (arith, x.next_line, length_line key n);
        }
    go false e q = absurd (cc)

-- a line that stands in the input ends in it
pub line_inside : (key s : List ℕ) (at n next : ℕ) → LineStands key s at n next → next ≤ length s
unfolding number_line
line_inside key s at n next x =
    let number = stands_right key (decimal n ++ (feed ∷ [])) s at x.stands in
    let place = at + length key + length (decimal n) in
    let last = one_stands s place feed (stands_right (decimal n) (feed ∷ []) s (at + length key) number) in
    omega (arith, byte_inside s place (omega arith), x.next_line, length_line key n, length_decimal n)
