-- The sizes of the classes from the beginnings of the lines: an addition for each line, and two sums for each class.
use Prim.Native.Nat.{ℕ, zero, suc, ◌+◌, ◌-◌, ◌*◌, ◌%◌, ◌<◌, ◌≤◌}
use mathlib.Core.Path.{◌≡◌, refl, sym, ap, ap₂, ◌∙◌}
use native.Mathlib.Nat.{add-mod_right, mod-eq_of_lt, le_refl}
use native.Mathlib.Omega.{arith}
use Rattle.lattice.specs.Position.{Layout, size_to}
use Rattle.lattice.proofs.theory.Counting.{bit}
use Rattle.lattice.proofs.theory.Positions.{size_none}
use Rattle.lattice.proofs.theory.Remainder.{add_same, cancel_same}
use Rattle.lattice.specs.Lines.{ByLines, HasPeriod, among, starts_at, heads}
use Rattle.lattice.proofs.theory.Among.{same_test, among_step, among_many}
use Rattle.lattice.proofs.theory.LineSizes.{line_size}

module _ (m : ℕ) where
  -- the places from s on with the remainder of a, and the places back from a with the remainder of s
  among_back : (a s x : ℕ) → x ≤ a + 1 + m
      → among m a (s + x) + among m s (a + 1 + m - x) ≡ among m a s + among m s (a + 1 + m)
  among_back a s zero l =
      let left : s + 0 ≡ s = omega arith in
      let right : a + 1 + m - 0 ≡ a + 1 + m = omega arith in
      ap₂ (λ (i j : ℕ). among m a i + among m s j) left right
  among_back a s (suc x) l =
      let left : s + suc x ≡ s + x + 1 = omega arith in
      let right : a + 1 + m - x ≡ a + 1 + m - suc x + 1 = omega arith in
      omega (
        arith,
        ap (λ (i : ℕ). among m a i) left,
        ap (λ (i : ℕ). among m s i) right,
        among_step m a (s + x),
        among_step m s (a + 1 + m - suc x),
        ap bit (same_test ((s + x) % m) (a % m) ((a + 1 + m - suc x) % m) (s % m) there back),
        among_back a s x (omega arith),
      )
    where
      whole : a + 1 + m - suc x + x ≡ a + m
      whole = omega arith

      there : (s + x) % m ≡ a % m → (a + 1 + m - suc x) % m ≡ s % m
      there e = cancel_same (a + 1 + m - suc x) s x m (ap (λ (n : ℕ). n % m) whole ∙ add-mod_right a m ∙ sym e)

      back : (a + 1 + m - suc x) % m ≡ s % m → (s + x) % m ≡ a % m
      back e = sym (add_same (a + 1 + m - suc x) s x x m e refl) ∙ ap (λ (n : ℕ). n % m) whole ∙ add-mod_right a m

module _ (m : ℕ) (start : ℕ → ℕ) where
  pub heads_none : (n : ℕ) → heads m start n 0 ≡ 0
  unfolding heads among
  heads_none zero = refl
  heads_none (suc n) = omega (arith, heads_none n)

  -- one place more: the lines that begin there
  pub heads_next : ((l : ℕ) → start l < m) → (n y : ℕ) → heads m start n (y + 1) ≡ heads m start n y + starts_at start (y % m) n
  unfolding heads starts_at
  heads_next below zero y = refl
  heads_next below (suc n) y =
      omega (
        arith,
        among_step m (start n) y,
        ap bit (same_test (y % m) (start n % m) (start n) (y % m) (λ (e : y % m ≡ start n % m). sym (e ∙ own)) (λ (e : start n
            ≡ y % m). sym e ∙ sym own)),
        heads_next below n y,
      )
    where
      own : start n % m ≡ start n
      own = mod-eq_of_lt (below n)

-- Theorem. The sizes of the classes after n lines of w = q × m + g cells, where no line has an offset.
module _ (L : Layout) (m : ℕ) (table start : ℕ → ℕ) (period : HasPeriod m table) (w q g lines : ℕ) (e : w ≡ q * m + g) (l : g ≤ m)
    (placed : ByLines L w lines table start (λ n. 0)) where
  pub sizes_by_lines : (a n : ℕ) → n ≤ lines
      → size_to L (table a) (n * w) + heads m start n (a + 1 + m - g) ≡ n * q + heads m start n (a + 1 + m)
  unfolding heads
  sizes_by_lines a zero p =
      let none : 0 * w ≡ 0 = omega arith in
      omega (arith, ap (λ (j : ℕ). size_to L (table a) j) none, size_none L (table a))
  sizes_by_lines a (suc n) p =
      let more : suc n * w ≡ n * w + w = omega arith in
      let plain : table a + 0 ≡ table a = omega arith in
      let far : start n + w ≡ q * m + (start n + g) = omega arith in
      omega (
        arith,
        ap (λ (j : ℕ). size_to L (table a) j) more,
        ap (λ (b : ℕ). size_to L b (n * w + w)) plain,
        ap (λ (b : ℕ). size_to L b (n * w)) plain,
        line_size L m table period (start n) 0 (n * w) w (λ x r. placed.class n x p r) a w (le_refl w),
        ap (λ (j : ℕ). among m a j) far,
        among_many m period.some a q (start n + g),
        among_back m a (start n) g (omega arith),
        sizes_by_lines a n (omega arith),
      )
