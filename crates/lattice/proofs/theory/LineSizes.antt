-- Sizes of classes and positions by lines, for any layout by lines.
use Prim.Native.Nat.{ℕ, ◌+◌, ◌%◌, ◌<◌, ◌≤◌}
use mathlib.Core.List.{List}
use mathlib.Core.Path.{◌≡◌, ap, ◌∙◌}
use native.Mathlib.Omega.{arith}
use lib.Dec.{eqb}
use lib.ListN.{get_or}
use Rattle.lattice.specs.Position.{Layout, size_to, position}
use Rattle.lattice.specs.Lines.{HasPeriod, among, Positions}
use Rattle.lattice.proofs.theory.Counting.{count_same}
use Rattle.lattice.proofs.theory.Among.{same_test, count_from}

-- a line of w cells that begins at cell n, at `start` in the table and with the offset `off`
module _ (L : Layout) (m : ℕ) (table : ℕ → ℕ) (period : HasPeriod m table) (start off n w : ℕ)
    (line : (x : ℕ) → x < w → L.class (n + x) ≡ table (start + x) + off) where
  -- its first x cells add to the class of the table's place y those of the places start to start + x − 1 that have the remainder
  -- of y
  pub line_size : (y x : ℕ) → x ≤ w
      → size_to L (table y + off) (n + x) + among m y start ≡ size_to L (table y + off) n + among m y (start + x)
  unfolding size_to among
  line_size y x p =
      omega (
        arith,
        count_from (λ i. eqb (L.class i) (table y + off)) n x,
        count_from (λ i. eqb (i % m) (y % m)) start x,
        count_same (λ i. eqb (L.class (n + i)) (table y + off)) (λ i. eqb ((start + i) % m) (y % m)) x
            (λ i l. same_test _ _ _ _ (there i l) (back i l)),
      )
    where
      there : (i : ℕ) → i < x → L.class (n + i) ≡ table y + off → (start + i) % m ≡ y % m
      there i l e =
          let same : table (start + i) ≡ table y = omega (arith, line i (omega arith)) in
          period.only (start + i) y same

      back : (i : ℕ) → i < x → (start + i) % m ≡ y % m → L.class (n + i) ≡ table y + off
      back i l e = line i (omega arith) ∙ ap (λ (a : ℕ). a + off) (period.same (start + i) y e)

  module _ (wide : ℕ) (e : List ℕ) (held : Positions L m table start off n wide e) where
    -- the list holds the positions of the line's cells
    pub line_position : (x : ℕ) → x < w → start + x < wide → position L (n + x) ≡ get_or e (start + x) 0
    unfolding Positions position
    line_position x p q =
        omega (
          arith,
          ap (λ (a : ℕ). size_to L a (n + x)) (line x p),
          line_size (start + x) x (omega arith),
          held (start + x) q,
        )

    -- the step to a line that begins at `next`: no other line with this offset stands between
    pub line_next : (next : ℕ) (f : List ℕ)
        → ((y : ℕ) → y < wide → get_or f y 0 + among m y next ≡ get_or e y 0 + among m y (start + w))
        → Positions L m table next off (n + w) wide f
    unfolding Positions
    line_next next f p y l = omega (arith, held y l, p y l, line_size y w (omega arith))
