-- How the lines `row` are read.
use Prim.Native.Nat.{ℕ, zero, suc, ◌+◌, ◌-◌, ◌*◌, ◌/◌, ◌%◌, ◌<◌}
use mathlib.Core.Bool.{true, ◌&&◌}
use mathlib.Core.List.{List}
use mathlib.Core.Path.{◌≡◌, sym, ap, ap₂, ◌∙◌}
use native.Mathlib.Nat.{le_of_eq, mul-zero, mul-le-mul_right, mul-add-div_right, mul-add-mod_self_right}
use native.Mathlib.Nat.{div-eq_of_lt, mod-eq_of_lt, mod-lt, div-lt_iff_lt-mul, div-add-mod'}
use native.Mathlib.Omega.{arith}
use borrow.Author.Tests.{eq-eqb, eqb-true}
use lib.Dec.{eqb}
use lib.ListN.{length, get_or}
use Rattle.lattice.specs.Counting.{all_below}
use Rattle.lattice.proofs.theory.Bools.{and_true, and_left, and_right}
use Rattle.codec.specs.Field.{field_of, is_received, Received}
use Rattle.codec.proofs.theory.AllBelow.{all_below_lem, below_all}
use Rattle.codec.proofs.theory.FieldLists.{get_d_list_of, length_list_of, list_field}
use Rattle.card.specs.Text.{row_key, rows_text, feed}
use Rattle.card.specs.Parse.{is_cell_digit, key_at, row_start, cell_place, row_ok, rows_ok, cells_of_rows}
use Rattle.card.proofs.theory.CellDigits.{cell_digit, digit_low, digit_cell}
use Rattle.card.proofs.theory.StandsAt.{StandsAt, key_at_lem, at_key}
use Rattle.card.proofs.theory.RowText.{RowStands, rows_stand, stand_rows}

-- the byte of cell c of row r
cell_place_lem : (at w r c : ℕ) → c < w → cell_place at w (r * w + c) ≡ row_start at w r + 4 + c
cell_place_lem at w r c l =
    let row : (r * w + c) / w ≡ r = mul-add-div_right (omega arith) r c ∙ omega (arith, div-eq_of_lt l) in
    let column : (r * w + c) % w ≡ c = mul-add-mod_self_right r w c ∙ mod-eq_of_lt l in
    ap₂ (λ (i j : ℕ). row_start at w i + 4 + j) row column

-- cell c of row r is a cell, and every cell is one of a row
in_row : (w k r c : ℕ) → r < k → c < w → r * w + c < k * w
in_row w k r c l m = omega (arith, mul-le-mul_right w l)

record InRow (w k i : ℕ) : Type 0 where
  row : i / w < k
  column : i % w < w
  both : i / w * w + i % w ≡ i

row_of : (w k i : ℕ) → i < k * w → InRow w k i
row_of w k i l =
    record { row = (div-lt_iff_lt-mul (some w l)).1 l; column = mod-lt i (some w l); both = div-add-mod' i w }
  where
    some : (w : ℕ) → i < k * w → 0 < w
    some zero l = absurd (omega (arith, mul-zero k))
    some (suc w) l = omega arith

-- the cells of k rows of w digits stand at `at`, and nothing follows
pub record RowsStand (s : List ℕ) (at w k : ℕ) (cells : List ℕ) : Type 0 where
  pub long : length cells ≡ k * w
  pub each : Received (field_of cells) (k * w)
  pub stands : StandsAt (rows_text w k cells) s at
  pub ends : length s ≡ row_start at w k

-- cell i of what is read at `at`, and how many cells that is
unfoldable pub cell_byte : List ℕ → ℕ → ℕ → ℕ → ℕ
cell_byte s at w i = get_or s (cell_place at w i) 0 - 48

pub cells_count : (s : List ℕ) (at w n : ℕ) → length (cells_of_rows s at w n) ≡ n
unfolding cells_of_rows cell_byte
cells_count s at w n = length_list_of (cell_byte s at w) n

-- the test of one row
row_test_lem : (s : List ℕ) (at w r : ℕ) → key_at row_key s (row_start at w r) ≡ true
    → ((c : ℕ) → c < w → is_cell_digit (get_or s (row_start at w r + 4 + c) 0) ≡ true)
    → get_or s (row_start at w r + 4 + w) 0 ≡ feed → row_ok s at w r ≡ true
unfolding row_ok
row_test_lem s at w r p q e =
    let digits = all_below (λ c. is_cell_digit (get_or s (row_start at w r + 4 + c) 0)) w in
    and_true (key_at row_key s (row_start at w r) && digits) _
    (and_true (key_at row_key s (row_start at w r)) digits p (all_below_lem _ w q))
    (eq-eqb (get_or s (row_start at w r + 4 + w) 0) feed e)

record Row (s : List ℕ) (start w : ℕ) : Type 0 where
  key : StandsAt row_key s start
  digit : (c : ℕ) → c < w → is_cell_digit (get_or s (start + 4 + c) 0) ≡ true
  ended : get_or s (start + 4 + w) 0 ≡ feed

test_row : (s : List ℕ) (at w r : ℕ) → row_ok s at w r ≡ true → Row s (row_start at w r) w
unfolding row_ok
test_row s at w r p =
    let start = row_start at w r in
    let digits = all_below (λ c. is_cell_digit (get_or s (start + 4 + c) 0)) w in
    let front = and_left (key_at row_key s start && digits) _ p in
    record {
      key = at_key row_key s start (and_left (key_at row_key s start) digits front);
      digit = below_all (λ c. is_cell_digit (get_or s (start + 4 + c) 0)) w (and_right (key_at row_key s start) digits front);
      ended = eqb-true (get_or s (start + 4 + w) 0) feed (and_right (key_at row_key s start && digits) _ p);
    }

-- the rows that stand there are read
module _ (s : List ℕ) (at w k : ℕ) (cells : List ℕ) (x : RowsStand s at w k cells) where
  row : (r : ℕ) → r < k → RowStands s (row_start at w r) w cells (r * w)
  row = rows_stand s at w k cells (le_of_eq (sym x.long)) x.stands

  pub rows_ok_lem : rows_ok s at w k ≡ true
  unfolding rows_ok
  rows_ok_lem =
      and_true (eqb (length s) (row_start at w k)) _ (eq-eqb (length s) (row_start at w k) x.ends)
      (all_below_lem (row_ok s at w) k
      (λ r l.
      row_test_lem s at w r (key_at_lem row_key s (row_start at w r) (row r l).key)
      (λ c m.
      let e = (row r l).cell c m in
      cell_digit _ (get_or s (row_start at w r + 4 + c) 0) (x.each (r * w + c) (in_row w k r c l m)) e)
      (row r l).ended))

  pub rows_read : cells_of_rows s at w (k * w) ≡ cells
  unfolding cells_of_rows cell_byte
  rows_read = sym (list_field cells (cell_byte s at w) (k * w) x.long each_read)
    where
      each_read : (i : ℕ) → i < k * w → get_or cells i 0 ≡ cell_byte s at w i
      each_read i l =
          let y = row_of w k i l in
          let e = (row (i / w) y.row).cell (i % w) y.column in
          ap (λ (j : ℕ). get_or cells j 0) (sym y.both) ∙ omega arith

-- the rows that are read stand there
pub at_rows : (s : List ℕ) (at w k : ℕ) → rows_ok s at w k ≡ true → RowsStand s at w k (cells_of_rows s at w (k * w))
unfolding rows_ok cells_of_rows cell_byte
at_rows s at w k p =
    record {
      long = long;
      each = λ i l.
          let y = row_of w k i l in
          ap is_received (get_d_list_of (cell_byte s at w) (k * w) i l)
          ∙ digit_cell (get_or s (row_start at w (i / w) + 4 + i % w) 0)
          ((row (i / w) y.row).digit (i % w) y.column);
      stands = stand_rows s at w k cells (le_of_eq (sym long))
          (λ r l.
          let y = row r l in
          record {
            key = y.key;
            cell = λ c m.
                let low = digit_low (get_or s (row_start at w r + 4 + c) 0) (y.digit c m) in
                let e =
                get_d_list_of (cell_byte s at w) (k * w) (r * w + c) (in_row w k r c l m)
                ∙ ap (λ (i : ℕ). get_or s i 0 - 48) (cell_place_lem at w r c m) in
                omega arith;
            ended = y.ended;
          });
      ends = eqb-true (length s) (row_start at w k) (and_left (eqb (length s) (row_start at w k)) _ p);
    }
  where
    cells : List ℕ
    cells = cells_of_rows s at w (k * w)

    long : length cells ≡ k * w
    long = cells_count s at w (k * w)

    row : (r : ℕ) → r < k → Row s (row_start at w r) w
    row r l =
        test_row s at w r (below_all (row_ok s at w) k
        (and_right (eqb (length s) (row_start at w k)) (all_below (row_ok s at w) k) p) r l)
