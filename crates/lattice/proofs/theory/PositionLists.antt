-- The list of positions from line to line of a placement by lines, in the form in which a pass keeps it.
use Prim.Native.Nat.{ℕ, zero, suc, ◌+◌, ◌-◌, ◌*◌, ◌/◌, ◌%◌, ◌<◌, ◌≤◌}
use mathlib.Core.Bool.{Bool, true, false, cond}
use mathlib.Core.List.{List}
use mathlib.Core.Path.{◌≡◌, ap, ◌∙◌}
use native.Mathlib.Decide.{dec_lt}
use native.Mathlib.Nat.{add-mod_right, mod-lt, div-add-mod', mul-le-mul, le_refl}
use native.Mathlib.Omega.{arith}
use lib.Dec.{eqb, ltb}
use lib.ListN.{get_or}
use borrow.Author.Tests.{lt-ltb, le-ltb}
use Rattle.lattice.specs.Class.{minus_mod}
use Rattle.lattice.specs.Position.{Layout, size_to}
use Rattle.lattice.proofs.theory.Counting.{count_mono, count_most}
use Rattle.lattice.proofs.theory.Positions.{size_none}
use Rattle.lattice.proofs.theory.Remainder.{minus_below}
use Rattle.lattice.specs.Lines.{HasPeriod, among, Positions, Repeats, Gains, Advanced, CanAdvance, round}
use Rattle.lattice.proofs.theory.Among.{among_none, among_next, among_before, among_after, among_shift, among_whole}
use Rattle.lattice.proofs.theory.Among.{among_more, among_many, among_mono}
use Rattle.lattice.proofs.theory.LineSizes.{line_size, line_next}
use Rattle.lattice.proofs.theory.Starts.{back_above, back_below}

-- a list that repeats itself after m places, with d more each time, is known from its first m places
repeats_is : (m d wide : ℕ) (e : List ℕ) (f : ℕ → ℕ) → 0 < m → Repeats m d wide e → ((y : ℕ) → y < m → get_or e y 0 ≡ f y)
    → ((y : ℕ) → f (y + m) ≡ f y + d) → (y : ℕ) → y < wide → get_or e y 0 ≡ f y
unfolding Repeats
repeats_is m d wide e f some again low step y l = go (suc y) y (omega arith) l
  where
    go : (k y : ℕ) → y < k → y < wide → get_or e y 0 ≡ f y
    go zero y p q = absurd (omega arith)
    go (suc k) y p q = at (dec_lt y m) (go k (y - m))
      where
        at : Dec (y < m) → (y - m < k → y - m < wide → get_or e (y - m) 0 ≡ f (y - m)) → get_or e y 0 ≡ f y
        at (yes r) before = low y r
        at (no r) before =
            let there : y - m + m ≡ y = omega arith in
            omega (
              arith,
              ap (λ (n : ℕ). get_or e n 0) there,
              ap f there,
              again (y - m) (omega arith),
              step (y - m),
              before (omega arith) (omega arith),
            )

module _ (m : ℕ) (some : 0 < m) where
  own_more : (y : ℕ) → among m (y + m) (y + m) ≡ among m y y + 1
  own_more y = among_next m y (y + m) ∙ among_more m some y y

  -- the first line, at the table's first place
  module _ (L : Layout) (table : ℕ → ℕ) (off wide : ℕ) (e : List ℕ) where
    pub first_line : Repeats m 1 wide e → ((y : ℕ) → y < m → get_or e y 0 ≡ 1) → Positions L m table 0 off 0 wide e
    unfolding Positions
    first_line again low y l =
        omega (
          arith,
          among_none m y,
          size_none L (table y + off),
          repeats_is m 1 wide e (λ z. among m z z + 1) some again ones (λ z. omega (arith, own_more z)) y l,
        )
      where
        ones : (z : ℕ) → z < m → get_or e z 0 ≡ among m z z + 1
        ones z r = omega (arith, low z r, among_before m z z (omega arith) r (omega arith))

  -- what a stretch of n = k × m + g places gives to each remainder: k + 1 to those below g, and k to the others
  pub gains : (n k g wide : ℕ) (p : List ℕ) → n ≡ k * m + g → g ≤ m → Repeats m 0 wide p → ((z : ℕ) → z < g → get_or p z 0 ≡ k
      + 1)
      → ((z : ℕ) → g ≤ z → z < m → get_or p z 0 ≡ k) → Gains m n wide p
  unfolding Gains
  gains n k g wide p e l again high low =
      repeats_is m 0 wide p (λ z. among m z n) some again first (λ z. omega (arith, among_next m z n))
    where
      many : (z : ℕ) → among m z n ≡ k + among m z g
      many z = ap (λ (j : ℕ). among m z j) e ∙ among_many m some z k g

      first : (z : ℕ) → z < m → get_or p z 0 ≡ among m z n
      first z r = at (dec_lt z g)
        where
          at : Dec (z < g) → get_or p z 0 ≡ among m z n
          at (yes q) = omega (arith, many z, high z q, among_after m z g l q)
          at (no q) = omega (arith, many z, low z (omega arith) r, among_before m z g l r (omega arith))

pub round_most : (start step : ℕ) → round start step ≤ 1
round_most start step = bit (ltb start step)
  where
    bit : (b : Bool) → cond b 1 0 ≤ 1
    bit true = omega arith
    bit false = omega arith

-- at most one place of a period has a given remainder
among_one : (m y n : ℕ) → 0 < m → n ≤ m → among m y n ≤ 1
unfolding among
among_one m y n some l = omega (arith, among_whole m some y, count_mono (λ z. eqb (z % m) (y % m)) n m l)

pub among_most : (m y n : ℕ) → among m y n ≤ n
unfolding among
among_most m y n = count_most (λ z. eqb (z % m) (y % m)) n

-- w places hold a given remainder at most w / m + 1 times
pub among_few : (m y w : ℕ) → 0 < m → among m y w ≤ w / m + 1
among_few m y w some =
    let whole : w / m * m + w % m ≡ w = div-add-mod' w m in
    let less : w % m < m = mod-lt w some in
    omega (
      arith,
      ap (λ (n : ℕ). among m y n) whole,
      among_many m some y (w / m) (w % m),
      among_one m y (w % m) some (omega arith),
    )

-- of w places in a row at most w / 2 + 1 have a given remainder, where m is at least 2
pub stretch_most : (m start w y : ℕ) → 2 ≤ m → start < m → among m y (start + w) ≤ among m y start + (w / 2 + 1)
stretch_most m start w y two l =
    let there : y + (m - start) + start ≡ y + m = omega arith in
    let whole : w / m * m + w % m ≡ w = div-add-mod' w m in
    omega (
      arith,
      among_shift m y (y + (m - start)) start w (ap (λ (k : ℕ). k % m) there ∙ add-mod_right y m),
      among_few m (y + (m - start)) w (omega arith),
      mul-le-mul {n₁ = w / m} {m₁ = 2} {n₂ = w / m} {m₂ = m} (le_refl _) two,
    )

-- a line of w cells at cell n, its list, and what w + step places give
module _ (L : Layout) (m : ℕ) (table : ℕ → ℕ) (period : HasPeriod m table) (start step off n w wide far : ℕ)
    (line : (x : ℕ) → x < w → L.class (n + x) ≡ table (start + x) + off) (e p : List ℕ)
    (held : Positions L m table start off n wide e) (gain : Gains m (w + step) far p)
    (first : start < m) (back : step < m) (reach : wide + m ≤ far) where
  some : 0 < m
  some = period.some

  next : ℕ
  next = minus_mod start step m

  next_below : next < m
  unfolding next
  next_below = minus_below m some start step

  -- what is gained, by whether the step goes round
  gained : (y : ℕ) → y < wide → get_or p (y + (m - next)) 0 + among m y next ≡ among m y (start + w) + round start step
  unfolding next Gains
  gained y l = at (dec_lt start step)
    where
      there : y + (m - minus_mod start step m) + minus_mod start step m ≡ y + m
      there = omega (arith, minus_below m some start step)

      sum : get_or p (y + (m - minus_mod start step m)) 0 + among m y (minus_mod start step m) ≡ among m y
          (minus_mod start step m + (w + step))
      sum =
          omega (
            arith,
            gain (y + (m - minus_mod start step m)) (omega (arith, minus_below m some start step)),
            among_shift m y (y + (m - minus_mod start step m)) (minus_mod start step m) (w + step) (ap (λ (k : ℕ). k % m) there
                ∙ add-mod_right y m),
          )

      at : Dec (start < step) → get_or p (y + (m - minus_mod start step m)) 0 + among m y (minus_mod start step m) ≡ among m y
          (start + w) + round start step
      at (yes r) =
          let far-end : minus_mod start step m + (w + step) ≡ start + w + m = omega (arith, back_below m some start step r back)
          in
          rw (lt-ltb start step r) (omega (arith, sum, ap (λ (k : ℕ). among m y k) far-end, among_more m some y (start + w)))
      at (no r) =
          let above : step ≤ start = omega arith in
          let far-end : minus_mod start step m + (w + step) ≡ start + w = omega
          (arith, back_above m some start step first above) in
          rw (le-ltb start step above) (omega (arith, sum, ap (λ (k : ℕ). among m y k) far-end))

  -- Theorem. The step to the next line.
  pub step_positions : (f : List ℕ) → Advanced m start step wide e p f
      → Positions L m table (minus_mod start step m) off (n + w) wide f
  unfolding Advanced next
  step_positions f moved =
      line_next L m table period start off n w line wide e held (minus_mod start step m) f
      (λ y l. omega (arith, moved y l, gained y l))

  -- Theorem. It stays within its type, where no class has too many cells.
  pub can_advance : ((y : ℕ) → size_to L (table y + off) (n + w) ≤ 61000) → wide ≤ 4096 → CanAdvance m start step wide e p
  unfolding Positions next
  can_advance few d =
      record {
        low = λ y l.
            omega (
              arith,
              held y l,
              gained y l,
              among_one m y (minus_mod start step m) some (omega
                  (arith, next_below)),
              among_mono m y start (start + w) (omega arith),
            );
        high = λ y l.
            omega (
              arith,
              held y l,
              gained y l,
              line_size L m table period start off n w line y w
                  (omega arith),
              few y,
              among_most m y y,
              round_most start step,
            );
      }
