-- The rows of a field, read line by line and cell by cell.
use Prim.Native.Nat.{ℕ, ◌+◌, ◌-◌, ◌*◌, ◌/◌, ◌%◌, ◌<◌, ◌≤◌}
use mathlib.Core.Bool.{Bool, true, false, ◌&&◌}
use mathlib.Core.List.{List}
use mathlib.Core.Path.{◌≡◌, sym, ap, ◌∙◌}
use native.Mathlib.Omega.{arith}
use lib.Dec.{eqb}
use lib.ListN.{length, get_or}
use borrow.Author.Tests.{eq-eqb, ne_eqb}
use Rattle.lattice.specs.Counting.{all_below}
use Rattle.codec.proofs.theory.OneByOne.{PassedTo, passed_all, failed_at}
use Rattle.card.specs.Text.{row_key, feed}
use Rattle.card.specs.Parse.{key_at, is_cell_digit, row_start, row_ok, rows_ok, cells_of_rows}
use Rattle.card.proofs.theory.RowsRead.{cell_byte}
use Rattle.card.proofs.theory.StoredFront.{StoredTo, stored_all}

-- a row that starts at p
row_test : List ℕ → ℕ → ℕ → Bool
row_test s p w =
    key_at row_key s p && all_below (λ c. is_cell_digit (get_or s (p + 4 + c) 0)) w && eqb (get_or s (p + 4 + w) 0) feed

row_test_lem : (s : List ℕ) (at w r p : ℕ) → row_start at w r ≡ p → row_ok s at w r ≡ row_test s p w
unfolding row_ok row_test
row_test_lem s at w r p e = ap (λ (q : ℕ). row_test s q w) e

module _ (s : List ℕ) (start w : ℕ) where
  here : row_ok s start w 0 ≡ row_test s start w
  here = row_test_lem s start w 0 start (omega arith)

  pub row_no_key : key_at row_key s start ≡ false → false ≡ row_ok s start w 0
  unfolding row_test
  row_no_key p = rw (here, p)

  module _ (key : key_at row_key s start ≡ true) where
    pub row_other : all_below (λ j. is_cell_digit (get_or s (start + 4 + j) 0)) w ≡ false → false ≡ row_ok s start w 0
    unfolding row_test
    row_other p = rw (here, key, p)

    pub row_ends : all_below (λ j. is_cell_digit (get_or s (start + 4 + j) 0)) w ≡ true → (b : ℕ) → b ≡ get_or s (start + 4 + w) 0
        → eqb b 10 ≡ row_ok s start w 0
    unfolding row_test
    row_ends p b e = rw (here, key, p, e)

-- line r is tested where it starts
pub row_moved : (s : List ℕ) (at w r : ℕ) (t : Bool) → t ≡ row_ok s (at + r * (w + 5)) w 0 → t ≡ row_ok s at w r
row_moved s at w r t e = e ∙ here s (at + r * (w + 5)) w ∙ sym (row_test_lem s at w r (at + r * (w + 5)) (omega arith))

module _ (s : List ℕ) (at w k : ℕ) where
  pub rows_behind : length s < at → false ≡ rows_ok s at w k
  unfolding rows_ok
  rows_behind l = rw (ne_eqb (length s) (row_start at w k) (λ e. omega arith))

  pub rows_long : at ≤ length s → (length s - at ≡ k * (w + 5) → ⊥) → false ≡ rows_ok s at w k
  unfolding rows_ok
  rows_long l p = rw (ne_eqb (length s) (row_start at w k) (λ e. p (omega arith)))

  module _ (inside : at ≤ length s) (long : length s - at ≡ k * (w + 5)) where
    same : length s ≡ row_start at w k
    same = omega arith

    pub rows_fail : (r : ℕ) → r < k → row_ok s at w r ≡ false → false ≡ rows_ok s at w k
    unfolding rows_ok
    rows_fail r l p = rw (eq-eqb (length s) (row_start at w k) same) (failed_at (row_ok s at w) r k l p)

    pub rows_pass : (r : ℕ) → PassedTo (row_ok s at w) r → r ≤ k → k ≤ r → true ≡ rows_ok s at w k
    unfolding rows_ok
    rows_pass r p l q = rw (eq-eqb (length s) (row_start at w k) same) (passed_all (row_ok s at w) r k p l q)

-- the cells, stored one by one
module _ (s : List ℕ) (at w : ℕ) where
  pub cell_byte_lem : (i b v : ℕ) → b ≡ get_or s (at + i / w * (w + 5) + 4 + i % w) 0 → v ≡ b - 48 → v ≡ cell_byte s at w i
  unfolding cell_byte
  cell_byte_lem i b v e p =
      let wide : w + 5 ≡ 4 + w + 1 = omega arith in
      p ∙ ap (λ (x : ℕ). x - 48) (e ∙ ap (λ (x : ℕ). get_or s (at + i / w * x + 4 + i % w) 0) wide)

  pub cells_stored : (xs ys : List ℕ) (n : ℕ)
      → StoredTo (cell_byte s at w) xs ys n
      → n ≡ length xs
      → ys ≡ cells_of_rows s at w (length xs)
  unfolding cells_of_rows cell_byte
  cells_stored xs ys n p e = stored_all (cell_byte s at w) xs ys n p e
