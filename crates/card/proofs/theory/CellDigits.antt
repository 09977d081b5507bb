-- The digits of cells.
use Prim.Native.Nat.{ℕ, zero, suc, ◌+◌, ◌-◌, ◌<◌, ◌≤◌}
use mathlib.Core.Bool.{true}
use mathlib.Core.List.{List, [], ◌∷◌}
use mathlib.Core.Path.{◌≡◌, refl, sym, ap, ◌∙◌}
use native.Mathlib.Nat.{not-suc-le-zero, le_of_suc-le-suc}
use native.Mathlib.Omega.{arith}
use lib.Dec.{leb}
use lib.ListN.{length, get_or, length-map}
use borrow.Author.Tests.{le-leb, leb-true}
use Rattle.lattice.proofs.theory.Bools.{and_true, and_left, and_right}
use Rattle.codec.specs.Field.{is_received}
use Rattle.card.specs.Text.{cells_text}
use Rattle.card.specs.Parse.{is_cell_digit}

-- the text of cells has a byte for each, its digit
pub length_cells : (cells : List ℕ) → length cells ≡ length (cells_text cells)
unfolding cells_text
length_cells cells = sym (length-map cells (λ v. 48 + v))

pub cell_text : (cells : List ℕ) (i : ℕ) → i < length cells → 48 + get_or cells i 0 ≡ get_or (cells_text cells) i 0
unfolding cells_text
cell_text [] i l = absurd (not-suc-le-zero l)
cell_text (v ∷ cells) zero l = refl
cell_text (v ∷ cells) (suc i) l = cell_text cells i (le_of_suc-le-suc l)

-- what is printed of a cell is its digit
pub cell_digit : (v b : ℕ) → is_received v ≡ true → b ≡ 48 + v → is_cell_digit b ≡ true
unfolding is_cell_digit
cell_digit v b p e =
    let same : b - 48 ≡ v = omega arith in
    and_true (leb 48 b) (is_received (b - 48)) (le-leb 48 b (omega arith)) (ap is_received same ∙ p)

-- and a digit is that of a cell
pub digit_low : (b : ℕ) → is_cell_digit b ≡ true → 48 ≤ b
unfolding is_cell_digit
digit_low b p = leb-true 48 b (and_left (leb 48 b) (is_received (b - 48)) p)

pub digit_cell : (b : ℕ) → is_cell_digit b ≡ true → is_received (b - 48) ≡ true
unfolding is_cell_digit
digit_cell b p = and_right (leb 48 b) (is_received (b - 48)) p
