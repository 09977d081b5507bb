-- A line of cells of a layout: what it adds to the counts of the classes, and when none of its cells holds a check.
use Prim.Native.Nat.{ℕ, zero, suc, ◌+◌, ◌-◌, ◌*◌, ◌/◌, ◌%◌, ◌<◌, ◌≤◌}
use mathlib.Core.Bool.{true, not}
use mathlib.Core.List.{List}
use mathlib.Core.Logic.{◌⊎◌, ⊎_elim, inl, inr}
use mathlib.Core.Path.{◌≡◌, ap, ◌∙◌}
use native.Mathlib.Decide.{dec_lt}
use native.Mathlib.Nat.{add-mod_right, mod-eq_of_lt, mod-lt, le_refl, suc-mul}
use native.Mathlib.Omega.{arith}
use borrow.Author.Tests.{ne_eqb}
use lib.Dec.{eqb}
use lib.ListN.{get_or}
use Rattle.lattice.specs.Shape.{max_classes}
use Rattle.lattice.specs.Position.{Layout, size_to, position}
use Rattle.lattice.specs.Check.{is_check, checks, holds_data}
use Rattle.lattice.specs.Lines.{remainder_table, among, Gains}
use Rattle.passes.specs.CheckList.{ListedTo, NoPowerNear}
use Rattle.lattice.specs.Sizes.{HoldsSizes}
use Rattle.lattice.proofs.theory.Among.{count_from, among_shift}
use Rattle.passes.proofs.check_cells.Listed.{listed_run}
use Rattle.lattice.proofs.theory.Counting.{count_none}
use Rattle.lattice.proofs.theory.LineSizes.{line_size}
use Rattle.lattice.proofs.theory.Positions.{size_mono, position_most}
use Rattle.lattice.proofs.theory.PositionLists.{among_few}
use Rattle.lattice.proofs.theory.Powers.{no_power}
use Rattle.lattice.proofs.theory.Starts.{remainder_period}

-- as many powers of two up to the least entry as up to the most, with `more` added for each of some lines: none is near an entry
pub none_ahead : (counts : List ℕ) (m low high more lines : ℕ) → (0 < lines → checks low ≡ checks (high + lines * more))
    → ((a : ℕ) → a < m → low ≤ get_or counts a 0) → ((a : ℕ) → a < m → get_or counts a 0 ≤ high)
    → NoPowerNear m (lines * more) counts
none_ahead counts m low high more zero same least most a k l p q = absurd (omega arith)
none_ahead counts m low high more (suc n) same least most a k l p q =
    no_power low (high + suc n * more) k (same (omega arith)) (omega (arith, least a l)) (omega (arith, most a l))

-- so none is near in the first of the lines
pub ahead_first : (counts : List ℕ) (m more lines : ℕ) → 0 < lines → NoPowerNear m (lines * more) counts
    → NoPowerNear m more counts
ahead_first counts m more zero some none a k l p q = absurd (omega arith)
ahead_first counts m more (suc n) some none a k l p q = none a k l p (omega (arith, suc-mul n more))

-- a class is one of the m of a slice, whose first is `first`, or of another slice
own_or_other : {A : Type 0} (m first a : ℕ) → ((b : ℕ) → b < m → a ≡ first + b → A) → ((a < first) ⊎ (first + m ≤ a) → A) → A
own_or_other {A} m first a own other = go (dec_lt a first) (dec_lt a (first + m))
  where
    go : Dec (a < first) → Dec (a < first + m) → A
    go (yes l) d = other (inl l)
    go (no l) (yes r) = own (a - first) (omega arith) (omega arith)
    go (no l) (no r) = other (inr (omega arith))

-- a line is counted: the classes of its slice gain what the list has for each, and the others stay
module _ (m first start w : ℕ) (gains counts counts' : List ℕ) (some : 0 < m) (gain : Gains m w (2 * m) gains)
    (own : (b : ℕ) → b < m → get_or counts' (first + b) 0 ≡ get_or counts (first + b) 0 + get_or gains (b + (m - start)) 0)
    (others : (a : ℕ) → (a < first) ⊎ (first + m ≤ a) → get_or counts' a 0 ≡ get_or counts a 0) where
  -- so no count is less, nor more than w / m + 1 above
  record Near (a : ℕ) : Type 0 where
    pub low : get_or counts a 0 ≤ get_or counts' a 0
    pub high : get_or counts' a 0 ≤ get_or counts a 0 + (w / m + 1)

  near : (a : ℕ) → Near a
  unfolding Gains
  near a = own_or_other m first a here (λ o. record { low = omega (arith, others a o); high = omega (arith, others a o) })
    where
      here : (b : ℕ) → b < m → a ≡ first + b → Near a
      here b l e =
          let less : get_or gains (b + (m - start)) 0 ≤ w / m + 1 = omega (
            arith,
            gain (b + (m - start)) (omega arith),
            among_few m (b + (m - start)) w some,
          ) in
          let before : get_or counts a 0 ≡ get_or counts (first + b) 0 = ap (λ (k : ℕ). get_or counts k 0) e in
          let after : get_or counts' a 0 ≡ get_or counts' (first + b) 0 = ap (λ (k : ℕ). get_or counts' k 0) e in
          record { low = omega (arith, own b l); high = omega (arith, own b l) }

  -- nor is a power near in the lines after it, in any of n classes
  pub ahead_after : (n lines : ℕ) → 0 < lines → NoPowerNear n (lines * (w / m + 1)) counts
      → NoPowerNear n ((lines - 1) * (w / m + 1)) counts'
  ahead_after n zero more none a k l p q = absurd (omega arith)
  ahead_after n (suc j) more none a k l p q =
      let left : suc j - 1 ≡ j = omega arith in
      none a k l (omega (arith, near a))
      (omega (arith, near a, suc-mul j (w / m + 1), ap (λ (i : ℕ). i * (w / m + 1)) left))

-- a line of w cells that begins at cell n and at `start` in the table, and whose slice has the m classes from `first` on
module _ (L : Layout) (m first start n w : ℕ) (some : 0 < m) (below : start < m)
    (line : (x : ℕ) → x < w → L.class (n + x) ≡ (start + x) % m + first) where
  -- a class of the slice gains what the stretch has of its remainder
  line_gain : (b : ℕ) → b < m → size_to L (first + b) (n + w) ≡ size_to L (first + b) n + among m (b + (m - start)) w
  line_gain b l =
      let there : b + (m - start) + start ≡ b + m = omega arith in
      let own : b % m + first ≡ first + b = omega (arith, mod-eq_of_lt l) in
      omega (
        arith,
        line_size L m (remainder_table m) (remainder_period m some) start first n w line b w (le_refl _),
        ap (λ (c : ℕ). size_to L c (n + w)) own,
        ap (λ (c : ℕ). size_to L c n) own,
        among_shift m b (b + (m - start)) start w (ap (λ (k : ℕ). k % m) there ∙ add-mod_right b m),
      )

  -- a number that is no class of the slice gains nothing
  line_outside : (a : ℕ) → (a < first) ⊎ (first + m ≤ a) → size_to L a (n + w) ≡ size_to L a n
  unfolding size_to
  line_outside a other =
      omega (
        arith,
        count_from (λ i. eqb (L.class i) a) n w,
        count_none (λ x. eqb (L.class (n + x)) a) w (λ x p. ne_eqb _ a (never x p)),
      )
    where
      never : (x : ℕ) → x < w → L.class (n + x) ≡ a → ⊥
      never x p e =
          let less : (start + x) % m < m = mod-lt (start + x) some in
          let here : a ≡ (start + x) % m + first = omega (arith, line x p) in
          ⊎_elim (λ (l : a < first). omega arith) (λ (l : first + m ≤ a). omega arith) other

  -- the counts after the line, by the list of gains
  line_counts : (gains counts counts' : List ℕ) → Gains m w (2 * m) gains → HoldsSizes L counts n
      → ((b : ℕ) → b < m → get_or counts' (first + b) 0 ≡ get_or counts (first + b) 0 + get_or gains (b + (m - start)) 0)
      → ((a : ℕ) → (a < first) ⊎ (first + m ≤ a) → get_or counts' a 0 ≡ get_or counts a 0) → HoldsSizes L counts' (n + w)
  unfolding Gains
  line_counts gains counts counts' gain counted own others =
      record {
        at = λ a l.
            own_or_other m first a (here a l) (λ o. omega (arith, others a o, counted.at a l, line_outside a o));
      }
    where
      here : (a : ℕ) → a < max_classes → (b : ℕ) → b < m → a ≡ first + b → get_or counts' a 0 ≡ size_to L a (n + w)
      here a l b p e =
          rw e
          (omega (
            arith,
            own b p,
            gain (b + (m - start)) (omega arith),
            counted.at (first + b) (omega arith),
            line_gain b p,
          ))

  -- where no power of two is near the counts, no cell of the line holds a check
  line_free : (counts : List ℕ) (classes : ℕ) → first + m ≤ classes → classes ≤ max_classes → HoldsSizes L counts n
      → NoPowerNear classes (w / m + 1) counts → (x : ℕ) → x < w → holds_data L (n + x) ≡ true
  unfolding holds_data is_check position
  line_free counts classes inside few counted none x l =
      let b = (start + x) % m in
      let low : (start + x) % m < m = mod-lt (start + x) some in
      let class : L.class (n + x) ≡ first + (start + x) % m = omega (arith, line x l) in
      let here = counted.at (L.class (n + x)) (omega arith) in
      ap not
      (none (L.class (n + x)) (position L (n + x)) (omega arith)
      (omega (arith, here, size_mono L (L.class (n + x)) n (n + x) (omega arith)))
      (omega (
        arith,
        here,
        position_most L (n + x) (n + w) (omega arith),
        ap (λ (c : ℕ). size_to L c n) class,
        ap (λ (c : ℕ). size_to L c (n + w)) class,
        line_gain b low,
        among_few m (b + (m - start)) w some,
      )))

  -- so the list stays, and the line is passed by its gains
  pub line_listed : (classes amount : ℕ) (sizes gains counts cells places counts' : List ℕ) → first + m ≤ classes
      → classes ≤ max_classes → Gains m w (2 * m) gains → NoPowerNear classes (w / m + 1) counts
      → ((b : ℕ) → b < m → get_or counts' (first + b) 0 ≡ get_or counts (first + b) 0 + get_or gains (b + (m - start)) 0)
      → ((a : ℕ) → (a < first) ⊎ (first + m ≤ a) → get_or counts' a 0 ≡ get_or counts a 0)
      → ListedTo L n amount sizes counts cells places → ListedTo L (n + w) amount sizes counts' cells places
  line_listed classes amount sizes gains counts cells places counts' inside few gain none own others before =
      record {
        few = before.few;
        counted = line_counts gains counts counts' gain before.counted own others;
        listed = λ right.
            listed_run L n amount cells w (line_free counts classes inside few before.counted none) (before.listed right);
        placed = before.placed;
      }
