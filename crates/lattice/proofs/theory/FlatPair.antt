-- Two cells of one class of a flat field at distance exactly t, for every t of at least 1: for odd t = 2k + 1 row 0, column k + 1
-- and row k, column 0; for even t = 2k row 0, column 0 and row k, column k.
use Prim.Native.Nat.{ℕ, ◌+◌, ◌*◌, ◌/◌, ◌%◌, ◌<◌, ◌≤◌}
use mathlib.Core.Path.{◌≡◌, sym, ap, ◌∙◌}
use native.Mathlib.Decide.{ℕ_discrete}
use native.Mathlib.Omega.{arith}
use Rattle.lattice.specs.declared.settings.Settings.{Settings}
use Rattle.lattice.specs.declared.shape.Shape.{Shape}
use Rattle.lattice.specs.Settings.{odd_settings, even_settings, flat_settings}
use Rattle.lattice.specs.Cell.{Cell, cell}
use Rattle.lattice.specs.Cluster.{apart, distance}
use Rattle.lattice.specs.Class.{class_with, class_of}
use Rattle.lattice.specs.theorems.Distance.{PairAt}
use Rattle.lattice.proofs.theory.Remainder.{mod_of_add, minus_same}
use Rattle.lattice.proofs.theory.SettingsLaws.{flat_odd, flat_even, flat_some, settings_flat}
use Rattle.lattice.proofs.theory.Placements.{class_strength}

-- column c of row 0 and column c' of row r are of one class where c + b × r is c' + m
one_class : (k : Settings) (c r c' : ℕ) → 0 < k.m → c + k.b * r ≡ c' + k.m
    → class_with k (cell 0 0 c) ≡ class_with k (cell r 0 c')
unfolding class_with
one_class k c r c' some e =
    minus_same k.m some c (k.b * 0 + k.c * 0) c' (k.b * r + k.c * 0)
    (ap (λ (n : ℕ). n % k.m) (omega arith) ∙ mod_of_add (c' + (k.b * 0 + k.c * 0)) 1 k.m)

-- t = 2k + 1: k + 1 + t × k is m
odd_step : (k t : ℕ) → t ≡ 2 * k + 1 → k + 1 + (odd_settings t).b * k ≡ 0 + (odd_settings t).m
unfolding odd_settings
odd_step k t e = rw e (omega arith)

-- t = 2k: (t + 1) × k is k + m
even_step : (k t : ℕ) → t ≡ 2 * k → 0 + (even_settings t).b * k ≡ k + (even_settings t).m
unfolding even_settings
even_step k t e = rw e (omega arith)

module _ (s : Shape) (flat : s.planes ≡ 1) (some : 1 ≤ s.strength) where
  -- the settings of the field
  abbrev own : Settings
  own = flat_settings s.strength

  class_own : (x : Cell) → class_of s x ≡ class_with own x
  class_own x = class_strength s some x ∙ ap (λ (q : Settings). class_with q x) (settings_flat s.planes s.strength flat)

  -- two such cells of the field are a pair
  pair_of : (c r c' : ℕ) → c < s.columns → r < s.rows → c' < s.columns → c + own.b * r ≡ c' + own.m
      → PairAt s (r + apart c c')
  unfolding distance apart
  pair_of c r c' lc lr lc' e =
      record {
        first = cell 0 0 c;
        second = cell r 0 c';
        first_inside = record { row = omega arith; plane = omega arith; column = lc };
        second_inside = record { row = lr; plane = omega arith; column = lc' };
        class = class_own (cell 0 0 c) ∙ one_class own c r c' (flat_some _ some) e ∙ sym (class_own (cell r 0 c'));
        apart = omega arith;
      }

  module _ (wide : s.strength + 1 ≤ s.columns) (high : s.strength + 1 ≤ s.rows) where
    -- half of t, rounded down
    abbrev half : ℕ
    half = s.strength / 2

    odd : s.strength % 2 ≡ 1 → PairAt s s.strength
    unfolding apart
    odd p =
        let is : half + apart (half + 1) 0 ≡ s.strength = omega arith in
        rw is at
        (pair_of (half + 1) half 0 (omega arith) (omega arith) (omega arith)
        (rw (flat_odd s.strength p) (odd_step half s.strength (omega arith))))

    even : (s.strength % 2 ≡ 1 → ⊥) → PairAt s s.strength
    unfolding apart
    even p =
        let is : half + apart 0 half ≡ s.strength = omega arith in
        rw is at
        (pair_of 0 half half (omega arith) (omega arith) (omega arith)
        (rw (flat_even s.strength p) (even_step half s.strength (omega arith))))

    pub flat_pair : PairAt s s.strength
    flat_pair = go (ℕ_discrete (s.strength % 2) 1)
      where
        go : Dec (s.strength % 2 ≡ 1) → PairAt s s.strength
        go (yes p) = odd p
        go (no p) = even p
