-- A number that ends its line, how it is read, and where it stands.
use Prim.Native.Nat.{ℕ, zero, suc, ◌+◌, ◌<◌, ◌≤◌, ◌^◌}
use mathlib.Core.Bool.{Bool, true, false, cond, not, ◌&&◌, ◌||◌}
use mathlib.Core.List.{List, [], ◌∷◌, ◌++◌}
use mathlib.Core.Logic.{◌≢◌, ◌⊎◌, inl, inr, ⊎_elim}
use mathlib.Core.Path.{◌≡◌, refl, sym, ap, ap₂, ◌∙◌}
use native.Mathlib.Nat.{add-zero}
use native.Mathlib.Omega.{arith}
use borrow.Author.Tests.{eq-eqb, eqb-true, eqb-false, ne_eqb, not-true}
use lib.Dec.{eqb}
use lib.ListN.{length, get_or}
use Rattle.lattice.specs.Range.{in_range}
use Rattle.lattice.proofs.theory.Bools.{and_true, and_left, and_right, or_true_left, or_true_right, or_cases}
use Rattle.lattice.proofs.theory.Limits.{in_range_lem, range_low, range_high, range_below}
use Rattle.std.specs.Prelude.{Option, None}
use Rattle.card.specs.declared.scan.Found.{Found}
use Rattle.card.proofs.theory.Found.{same_value, same_next}
use Rattle.card.specs.Text.{digits, digit_count, decimal, feed}
use Rattle.card.specs.Parse.{read, is_digit, digit_run, digits_value, number_ends, number_at}
use Rattle.card.proofs.theory.StandsAt.{StandsAt, stands_left, stands_right, stands_both, stands_one, one_stands}
use Rattle.card.proofs.theory.Digits.{DigitsAt, digits_at, value_digits, value_below, digits_value_lem, leading_zero}
use Rattle.card.proofs.theory.Digits.{leading_other, run_digits, digits_run}
use Rattle.card.proofs.theory.DecimalText.{Wide, wide, wide_width, wide_small, length_decimal}

-- k digits from `at` end a number: from the test and back
pub record Ends (s : List ℕ) (at k : ℕ) : Type 0 where
  pub low : 1 ≤ k
  pub high : k ≤ 5
  pub leading : (k ≡ 1) ⊎ (get_or s at 0 ≢ 48)
  pub ended : get_or s (at + k) 0 ≡ feed

ends_test : (s : List ℕ) (at k : ℕ) → Ends s at k → number_ends s at k ≡ true
unfolding number_ends
ends_test s at k x =
    and_true (in_range 1 5 k && (eqb k 1 || not (eqb (get_or s at 0) 48))) _
    (and_true (in_range 1 5 k) _ (in_range_lem 1 5 k x.low x.high) (first x.leading))
    (eq-eqb (get_or s (at + k) 0) feed x.ended)
  where
    first : (k ≡ 1) ⊎ (get_or s at 0 ≢ 48) → (eqb k 1 || not (eqb (get_or s at 0) 48)) ≡ true
    first (inl e) = or_true_left (eqb k 1) _ (eq-eqb k 1 e)
    first (inr d) = or_true_right (eqb k 1) _ (ap not (ne_eqb (get_or s at 0) 48 d))

pub test_ends : (s : List ℕ) (at k : ℕ) → number_ends s at k ≡ true → Ends s at k
unfolding number_ends
test_ends s at k p =
    let front = and_left (in_range 1 5 k && (eqb k 1 || not (eqb (get_or s at 0) 48))) _ p in
    let range = and_left (in_range 1 5 k) _ front in
    record {
      low = range_low 1 5 k range;
      high = range_high 1 5 k range;
      leading =
          ⊎_elim
          (λ (e : eqb k 1 ≡ true). inl (eqb-true k 1 e))
          (λ (e : not (eqb (get_or s at 0) 48) ≡ true). inr (eqb-false (get_or s at 0) 48 (not-true _ e)))
          (or_cases (eqb k 1) _ (and_right (in_range 1 5 k) _ front));
      ended = eqb-true (get_or s (at + k) 0) feed (and_right (in_range 1 5 k && (eqb k 1 || not (eqb (get_or s at 0) 48))) _ p);
    }

-- what is read of a run of k digits
abbrev run_read : List ℕ → ℕ → ℕ → Option (Found ℕ)
run_read s at k = cond (number_ends s at k) (read (digits_value s at k) (at + k + 1)) None

number_run : (s : List ℕ) (at : ℕ) → number_at s at ≡ run_read s at (digit_run s at 6)
unfolding number_at
number_run s at = refl

read_run : (s : List ℕ) (at k : ℕ) → DigitsAt s at k → Ends s at k → number_at s at ≡ read (digits_value s at k) (at + k
    + 1)
read_run s at k p x =
    let feed-no : is_digit (get_or s (at + k) 0) ≡ false = range_below 48 57 (get_or s (at + k) 0) (omega arith) in
    number_run s at
    ∙ ap (λ (i : ℕ). run_read s at i) (digits_run s at k 6 p feed-no (omega arith))
    ∙ rw (ends_test s at k x)

-- the number n stands at `at`, ended by a line feed, and the next line starts at `next`
pub record NumberStands (s : List ℕ) (at n next : ℕ) : Type 0 where
  pub small : n < 100000
  pub stands : StandsAt (decimal n ++ (feed ∷ [])) s at
  pub next_line : next ≡ at + digit_count n + 1

-- the number that stands at `at` is read
pub number_at_lem : (s : List ℕ) (at n next : ℕ) → NumberStands s at n next → number_at s at ≡ read n next
unfolding decimal
number_at_lem s at n next x = go (wide n x.small)
  where
    go : (k : ℕ) × Wide n k → number_at s at ≡ read n next
    go (k, w) =
        read_run s at (suc k) run (record { low = omega arith; high = omega arith; leading = first w.least; ended = ended })
        ∙ ap₂ read value ends
      where
        chars : digit_count n ≡ suc k
        chars = wide_width n k w

        text : StandsAt (digits (suc k) n) s at
        text = rw chars at (stands_left (decimal n) (feed ∷ []) s at x.stands)

        run : DigitsAt s at (suc k)
        run = digits_at s at (suc k) n text

        value : digits_value s at (suc k) ≡ n
        value = value_digits s at (suc k) n text w.below

        ends : at + suc k + 1 ≡ next
        ends = omega (arith, x.next_line, chars)

        ended : get_or s (at + suc k) 0 ≡ feed
        ended =
            ap (λ (i : ℕ). get_or s (at + i) 0) (sym (length_decimal n ∙ chars))
            ∙ one_stands s (at + length (decimal n)) feed (stands_right (decimal n) (feed ∷ []) s at x.stands)

        first : (k ≡ 0) ⊎ (10 ^ k ≤ n) → (suc k ≡ 1) ⊎ (get_or s at 0 ≢ 48)
        first (inl e) = inl (ap suc e)
        first (inr l) = inr (λ e. omega (arith, value, leading_zero s at k run e))

-- the number that is read stands at `at`
stands_wide : (s : List ℕ) (at n k : ℕ) → Wide n k → StandsAt (digits (suc k) n) s at → get_or s (at + suc k) 0 ≡ feed
    → NumberStands s at n (at + suc k + 1)
unfolding decimal
stands_wide s at n k w p e =
    let chars = wide_width n k w in
    record {
      small = wide_small n k w;
      stands =
          stands_both (decimal n) (feed ∷ []) s at
          (rw chars p)
          (stands_one s (at + length (decimal n)) feed (rw (length_decimal n, chars) e));
      next_line = omega arith;
    }

stands_run : (s : List ℕ) (at k : ℕ) → DigitsAt s at k → Ends s at k → NumberStands s at (digits_value s at k) (at + k + 1)
stands_run s at zero p x = absurd (omega (arith, x.low))
stands_run s at (suc k) p x =
    stands_wide s at (digits_value s at (suc k)) k
    (record { most = omega (arith, x.high); below = value_below s at (suc k) p; least = first x.leading })
    (digits_value_lem s at (suc k) p)
    x.ended
  where
    first : (suc k ≡ 1) ⊎ (get_or s at 0 ≢ 48) → (k ≡ 0) ⊎ (10 ^ k ≤ digits_value s at (suc k))
    first (inl e) = inl (omega arith)
    first (inr d) =
        let low = range_low 48 57 (get_or s (at + 0) 0) (p 0 (omega arith)) in
        inr (leading_other s at k (omega (arith, rw (add-zero at) at low)))

pub at_number : (s : List ℕ) (at n next : ℕ) → number_at s at ≡ read n next → NumberStands s at n next
at_number s at n next p = go_run (digit_run s at 6) (run_digits s at 6) (sym (number_run s at) ∙ p)
  where
    go_run : (k : ℕ) → DigitsAt s at k → run_read s at k ≡ read n next → NumberStands s at n next
    go_run k d q = go (number_ends s at k) refl q
      where
        go : (b : Bool)
            → number_ends s at k ≡ b
            → cond b (read (digits_value s at k) (at + k + 1)) None ≡ read n next
            → NumberStands s at n next
        go true e r =
            let same : digits_value s at k ≡ n = same_value r in
            let ends : at + k + 1 ≡ next = same_next r in
            rw (same, ends) at (stands_run s at k d (test_ends s at k e))
        go false e r = absurd (cc)
