-- The number that four packed cells make: the lowest bit of each is kept, and one product puts the four side by side.
use Prim.Native.Nat.{ℕ, ◌+◌, ◌*◌, ◌/◌, ◌%◌, ◌<◌, ◌≤◌}
use mathlib.Core.Bool.{Bool, true, cond}
use mathlib.Core.Path.{◌≡◌, refl}
use native.Mathlib.Omega.{arith}
use borrow.Author.Tests.{eqb-true}
use lib.Bits.{bit_and}
use lib.Dec.{eqb}
use Rattle.lattice.specs.Counting.{all_below}
use Rattle.codec.specs.Field.{Field, Received, having}
use Rattle.codec.specs.Packing.{packed_at, four_at}
use Rattle.codec.proofs.theory.AllBelow.{below_all}
use Rattle.codec.proofs.theory.CellValues.{received_most}

-- 1 for the value 1, else 0
abbrev one : ℕ → ℕ
one v = cond (eqb v 1) 1 0

-- the four values make their number; the same for all values of the last below 3, of the last two, and of the last three
abbrev makes : ℕ → ℕ → ℕ → ℕ → Bool
makes a b c d =
    eqb
    (bit_and (a + b * 256 + c * 65536 + d * 16777216) 16843009 * 134480385 / 16777216 % 16)
    (one a * 8 + one b * 4 + one c * 2 + one d)

abbrev makes_1 : ℕ → ℕ → ℕ → Bool
makes_1 a b c = all_below (makes a b c) 3

abbrev makes_2 : ℕ → ℕ → Bool
makes_2 a b = all_below (makes_1 a b) 3

abbrev makes_3 : ℕ → Bool
makes_3 a = all_below (makes_2 a) 3

all_make : all_below makes_3 3 ≡ true
all_make = refl

pub packed_four : (f : Field) (n i : ℕ) → Received f n → i + 4 ≤ n
    → bit_and (packed_at f i) 16843009 * 134480385 / 16777216 % 16 ≡ four_at (having 1 f) i
unfolding having
packed_four f n i p l =
    let at_1 = below_all makes_3 3 all_make (f i) (small i (omega arith)) in
    let at-2 = below_all (makes_2 (f i)) 3 at_1 (f (i + 1)) (small (i + 1) (omega arith)) in
    let at-3 = below_all (makes_1 (f i) (f (i + 1))) 3 at-2 (f (i + 2)) (small (i + 2) (omega arith)) in
    eqb-true _ _ (below_all (makes (f i) (f (i + 1)) (f (i + 2))) 3 at-3 (f (i + 3)) (small (i + 3) (omega arith)))
  where
    small : (x : ℕ) → x < n → f x < 3
    small x h = omega (arith, received_most (f x) (p x h))
