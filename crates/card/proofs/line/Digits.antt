-- A decimal number, read digit by digit.
use Prim.Native.Nat.{ℕ, zero, suc, ◌+◌, ◌<◌, ◌≤◌}
use mathlib.Core.Bool.{true, false}
use mathlib.Core.List.{List}
use mathlib.Core.Path.{◌≡◌, refl, sym, subst}
use native.Mathlib.Nat.{add-zero, lt_of_lt_of_le, pow-le-pow_right}
use native.Mathlib.Omega.{arith}
use lib.Dec.{lit<}
use lib.ListN.{length, get_or}
use Rattle.lattice.proofs.theory.Limits.{range_low, range_high}
use Rattle.std.specs.Prelude.{Option, None}
use Rattle.card.specs.declared.scan.Found.{Found}
use Rattle.card.specs.Parse.{read, is_digit, digit_run, digits_value, number_ends, number_at, key_at, line_at}
use Rattle.card.proofs.theory.StandsAt.{byte_inside}
use Rattle.card.proofs.theory.NumberText.{test_ends}
use Rattle.card.proofs.theory.Digits.{DigitsAt, digits_run, run_digits, value_below}

module _ (s : List ℕ) (at : ℕ) where
  -- the digits passed
  pub record DigitsRead (k : ℕ) : Type 0 where
    pub each : DigitsAt s at k

  pub run_ends : (k b : ℕ) → DigitsRead k → k < 6 → b ≡ get_or s (at + k) 0 → is_digit b ≡ false → k ≡ digit_run s at 6
  run_ends k b p l e d = sym (digits_run s at k 6 p.each (rw e at d) (omega arith))

-- as many digits as are counted
full : (s : List ℕ) (at k : ℕ) → DigitsAt s at k → digit_run s at k ≡ k
full s at zero p = refl
full s at (suc k) p =
    let first : is_digit (get_or s at 0) ≡ true = rw (add-zero at) at (p 0 (omega arith)) in
    let rest = full s (at + 1) k (λ j l. let f : at + 1 + j ≡ at + suc j = omega arith in rw f (p (suc j) (omega arith))) in
    rw first (omega arith)

module _ (s : List ℕ) (at : ℕ) where
  pub run_full : (k : ℕ) → DigitsRead s at k → k ≡ 6 → 6 ≡ digit_run s at 6
  run_full k p e = sym (full s at 6 (subst (λ (n : ℕ). DigitsAt s at n) e p.each))

  -- the digits of a number of at most five
  module _ (k : ℕ) (counted : k ≡ digit_run s at 6) (most : k ≤ 5) (i : ℕ) (l : i < k) where
    each : DigitsAt s at k
    each = rw counted (run_digits s at 6)

    digit : (b : ℕ) → b ≡ get_or s (at + i) 0 → is_digit b ≡ true
    digit b e = rw e (each i l)

    pub digit_low : (b : ℕ) → b ≡ get_or s (at + i) 0 → 48 ≤ b
    digit_low b e = range_low 48 57 b (digit b e)

    pub digit_high : (b : ℕ) → b ≡ get_or s (at + i) 0 → b ≤ 57
    digit_high b e = range_high 48 57 b (digit b e)

    pub value_room : (v : ℕ) → v ≡ digits_value s at i → v < 10000
    value_room v e =
        rw e
        (lt_of_lt_of_le (value_below s at i (λ j m. each j (omega arith)))
        (pow-le-pow_right (lit< tt) {i = i} {j = 4} (omega arith)))

-- a number at a position
module _ (s : List ℕ) (at k : ℕ) (counted : k ≡ digit_run s at 6) where
  pub number_faults : number_ends s at k ≡ false → None ≡ number_at s at
  unfolding number_at
  number_faults p = rw (← counted, p)

  module _ (ends : number_ends s at k ≡ true) where
    pub number_most : k ≤ 5
    number_most = (test_ends s at k ends).high

    pub number_inside : at + k < length s
    number_inside = byte_inside s (at + k) (λ e. omega (arith, (test_ends s at k ends).ended))

    pub number_found : (v : ℕ) → v ≡ digits_value s at k → read v (at + k + 1) ≡ number_at s at
    unfolding number_at
    number_found v e = rw (← counted, ends, e)

-- a line key=number
module _ (key s : List ℕ) (at : ℕ) where
  pub line_faults : key_at key s at ≡ false → None ≡ line_at key s at
  unfolding line_at
  line_faults p = rw p

  pub line_found : key_at key s at ≡ true → (r : Option (Found ℕ)) → r ≡ number_at s (at + length key) → r ≡ line_at key s at
  unfolding line_at
  line_found p r e = rw p e
