-- A field as a function: the value of each cell by its byte number.
use Rattle.std.specs.Prelude.{ℕ, zero, suc, ◌-◌, ◌<◌, Bool, true, cond, not, ◌||◌, List, [], ◌∷◌, ◌++◌, ◌≡◌, leb, eqb, get_or}
use Rattle.lattice.specs.Counting.{count, all_below}

abbrev pub Field : Type 0
Field = ℕ → ℕ

-- the field that a buffer holds
abbrev pub field_of : List ℕ → Field
field_of bytes i = get_or bytes i 0

-- the first n cells of a field, as a buffer holds them
abbrev pub list_of : Field → ℕ → List ℕ
list_of f zero = []
list_of f (suc n) = list_of f n ++ (f n ∷ [])

-- the values of a cell: 0 for white and 1 for black
unfoldable pub is_cell : ℕ → Bool
is_cell v = leb v 1

-- each of the first n is a cell
abbrev pub Cells : Field → ℕ → Type 0
Cells f n = (i : ℕ) → i < n → is_cell (f i) ≡ true

-- an erasure, the papers' unread cell: the value of a cell that was not read
abbrev pub erased : ℕ
erased = 2

-- the values of a cell of a field that is handed in: those of a cell, and erased
unfoldable pub is_received : ℕ → Bool
is_received v = is_cell v || eqb v erased

abbrev pub Received : Field → ℕ → Type 0
Received f n = (i : ℕ) → i < n → is_received (f i) ≡ true

unfoldable pub cells_ok : Field → ℕ → Bool
cells_ok f n = all_below (λ i. is_received (f i)) n

-- the cells that have the value v: 1 in each of them, and 0 in all others
unfoldable pub having : ℕ → Field → Field
having v f i = cond (eqb (f i) v) 1 0

-- to flip a cell, the papers' turning it over, is to make 0 of 1 or 1 of 0
abbrev pub flip : ℕ → ℕ
flip v = 1 - v

-- two fields are the same in their first n cells
abbrev pub Same : Field → Field → ℕ → Type 0
Same f g n = (i : ℕ) → i < n → f i ≡ g i

-- the number of cells in which two fields differ
unfoldable pub differences : Field → Field → ℕ → ℕ
differences f g n = count (λ i. not (eqb (f i) (g i))) n
