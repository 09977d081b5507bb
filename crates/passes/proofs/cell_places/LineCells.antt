-- The cells of one class in a line: how many they are, where they stand and their positions, where the line's classes are a
-- stretch of the table y mod m.
use Prim.Native.Nat.{ℕ, ◌+◌, ◌*◌, ◌/◌, ◌%◌, ◌<◌, ◌≤◌}
use mathlib.Core.Bool.{cond}
use mathlib.Core.Path.{◌≡◌, sym, ap, ◌∙◌}
use native.Mathlib.Decide.{dec_lt}
use native.Mathlib.Nat.{mod-lt, add_comm, div-add-mod', le_refl}
use native.Mathlib.Omega.{arith}
use lib.Dec.{ltb}
use borrow.Author.Tests.{lt-ltb, le-ltb}
use Rattle.lattice.specs.Position.{Layout, size_to, position}
use Rattle.lattice.specs.Lines.{remainder_table, among}
use Rattle.lattice.specs.Listing.{IsCellAt}
use Rattle.lattice.proofs.theory.Among.{among_before, among_after, among_shift, among_many, among_mono}
use Rattle.lattice.proofs.theory.LineSizes.{line_size}
use Rattle.lattice.proofs.theory.Remainder.{mod_of_add}
use Rattle.lattice.proofs.theory.Starts.{remainder_period}

-- of the places below w each whole round of m has the remainder x once, and the rest has it where x is below its length
pub among_row : (m x w : ℕ) → x < m → among m x w ≡ w / m + cond (ltb x (w % m)) 1 0
among_row m x w near = go (dec_lt x (w % m))
  where
    some : 0 < m
    some = omega arith

    rest : w % m ≤ m
    rest = omega (arith, mod-lt w some)

    all : among m x w ≡ w / m + among m x (w % m)
    all = ap (λ (n : ℕ). among m x n) (sym (div-add-mod' w m)) ∙ among_many m some x (w / m) (w % m)

    go : Dec (x < w % m) → among m x w ≡ w / m + cond (ltb x (w % m)) 1 0
    go (yes l) = rw (lt-ltb x (w % m) l) (omega (arith, all, among_after m x (w % m) rest l))
    go (no l) =
        let above : w % m ≤ x = omega arith in
        rw (le-ltb x (w % m) above) (omega (arith, all, among_before m x (w % m) rest near above))

-- x is the first place with its remainder, and j rounds later j have been passed
among_own : (m x j : ℕ) → x < m → among m x (x + j * m) ≡ j
among_own m x j near =
    omega (
      arith,
      ap (λ (n : ℕ). among m x n) (add_comm x (j * m)),
      among_many m (omega arith) x j x,
      among_before m x x (omega arith) near (le_refl _),
    )

-- a line of w cells that begins at cell n, at `start` in the table and with the offset `off`, and the first column x in it of the
-- class of the table's place y
module _ (L : Layout) (m start off n w y x : ℕ) (line : (z : ℕ) → z < w → L.class (n + z) ≡ (start + z) % m + off) (near : x < m)
    (first : (start + x) % m ≡ y % m) where
  some : 0 < m
  some = omega arith

  -- its first z cells add to the class those places below z that have the remainder of x
  pub line_adds : (z : ℕ) → z ≤ w → size_to L (y % m + off) (n + z) ≡ size_to L (y % m + off) n + among m x z
  line_adds z p =
      omega (
        arith,
        line_size L m (remainder_table m) (remainder_period m some) start off n w line y z p,
        among_shift m y x start z (ap (λ (k : ℕ). k % m) (add_comm x start) ∙ first),
      )

  module _ (j : ℕ) (less : j < among m x w) where
    -- the cell of the class that has j of it before it in the line lies in the line
    cell_inside : x + j * m < w
    cell_inside = go (dec_lt (x + j * m) w)
      where
        go : Dec (x + j * m < w) → x + j * m < w
        go (yes l) = l
        go (no l) = absurd (omega (arith, among_own m x j near, among_mono m x w (x + j * m) (omega arith)))

    cell_class_lem : L.class (n + (x + j * m)) ≡ y % m + off
    cell_class_lem =
        let whole : start + (x + j * m) ≡ start + x + j * m = omega arith in
        line (x + j * m) cell_inside
        ∙ ap (λ (k : ℕ). k + off) (ap (λ (k : ℕ). k % m) whole ∙ mod_of_add (start + x) j m ∙ first)

    -- and its position is one more than what stands before it
    pub cell_place_lem : (p : ℕ) → p ≡ size_to L (y % m + off) n + j + 1 → n + w ≤ L.cells
        → IsCellAt L (y % m + off) p (n + (x + j * m))
    unfolding position
    cell_place_lem p e room =
        record {
          below = omega (arith, cell_inside);
          class = cell_class_lem;
          position =
              omega (
                arith,
                ap (λ (b : ℕ). size_to L b (n + (x + j * m))) cell_class_lem,
                line_adds (x + j * m) (omega (arith, cell_inside)),
                among_own m x j near,
              );
        }
