-- The number of check cells before a cell is found bit by bit, from the highest on.
use Prim.Native.Nat.{ℕ, zero, suc, ◌+◌, ◌-◌, ◌*◌, ◌%◌, ◌^◌, ◌<◌, ◌≤◌, zero-le}
use mathlib.Core.Bool.{Bool, true, false}
use mathlib.Core.List.{List}
use mathlib.Core.Path.{◌≡◌, refl}
use native.Mathlib.Nat.{le_refl}
use native.Mathlib.Numerals.{unary_clauses}
use native.Mathlib.Omega.{arith}
use borrow.Author.Tests.{ltb-true, ltb-false}
use lib.Dec.{ltb}
use lib.ListN.{get_or}
use lib.Pow.{pow_mono, pow_pos}
use mir.Val.{bool_byte}
use Rattle.lattice.specs.Position.{Layout}
use Rattle.lattice.specs.Listing.{checks_to, ListsChecks}
use Rattle.lattice.proofs.theory.Runs.{checks_mono, listed_before, listed_behind}

-- the bit that a turn tries, as the code shifts it
bit_of : (k : ℕ) → k < 64 → 1 * 2 ^ k % 2 ^ 64 ≡ 2 ^ k
bit_of k l = omega (arith, pow_mono {i = k} {j = 63} (omega arith))

-- with the bit or without it, n is no more than with it
pub most_of : (stands : Bool) (n r k most : ℕ) → r ≡ bool_byte stands → n + 1 * 2 ^ k % 2 ^ 64 ≤ most
    → n + r * 2 ^ k % 2 ^ 64 ≤ most
most_of true n r k most e l = rw e l
most_of false n r k most e l = rw e (omega (arith, l))

twice : (k : ℕ) → 0 < k → 2 ^ k ≡ 2 ^ (k - 1) + 2 ^ (k - 1)
twice zero l = elim l [ ]
twice (suc k) l = let doubled : 2 ^ k * 2 ≡ 2 ^ k + 2 ^ k = omega arith in simp unary_clauses doubled

-- the number of checks before the cell is at least n and below n + 2^k
abbrev pub ToBit : Layout → ℕ → ℕ → ℕ → Type 0
ToBit L cell k n = (n ≤ checks_to L cell) × (checks_to L cell < n + 2 ^ k)

module _ (L : Layout) (checks : List ℕ) (amount cell : ℕ) (lists : ListsChecks L L.cells amount checks)
    (inside : cell ≤ L.cells) where
  -- before the first turn
  pub none_found : amount < 2 ^ 13 → ToBit L cell 13 0
  none_found few = (zero-le, omega (arith, lists.all, checks_mono L cell L.cells inside))

  module _ (k n more : ℕ) (some : 0 < k) (few : k ≤ 64) (found : ToBit L cell k n)
      (sum : more ≡ n + 1 * 2 ^ (k - 1) % 2 ^ 64) where
    bit : 1 * 2 ^ (k - 1) % 2 ^ 64 ≡ 2 ^ (k - 1)
    bit = bit_of (k - 1) (omega (arith, some))

    listed : more ≤ amount → more - 1 < amount
    listed l = omega (arith, sum, bit, l, pow_pos (k - 1))

    -- a turn that adds the next bit exactly where the check that it reaches stands before the cell
    pub turn : more ≤ amount → (r : ℕ) → r ≡ bool_byte (ltb (get_or checks (more - 1) 0) cell)
        → ToBit L cell (k - 1) (n + r * 2 ^ (k - 1) % 2 ^ 64)
    turn l r e = rw e (go (ltb (get_or checks (more - 1) 0) cell) refl)
      where
        go : (stands : Bool) → ltb (get_or checks (more - 1) 0) cell ≡ stands
            → ToBit L cell (k - 1) (n + bool_byte stands * 2 ^ (k - 1) % 2 ^ 64)
        go true e =
            let least = listed_before L _ amount checks lists (le_refl _) (more - 1) cell (listed l) (ltb-true _ _ e) in
            (omega (arith, least, sum), omega (arith, found.1, bit, twice k some))
        go false e =
            let most = listed_behind L _ amount checks lists (le_refl _) (more - 1) cell (listed l) (ltb-false _ _ e) in
            (omega (arith, found.0), omega (arith, most, sum, bit, pow_pos (k - 1)))

    -- a turn whose bit the list does not reach
    pub beyond : amount < more → ToBit L cell (k - 1) n
    beyond l = (found.0, omega (arith, l, sum, bit, lists.all, checks_mono L cell L.cells inside))
