-- Labellings: a label for each cell of a field, by any rule or none, and the number of labels used.
use Rattle.std.specs.Prelude.{ℕ, zero, suc, ◌+◌, Bool, false, cond, ◌||◌, ◌≡◌, eqb}
use Rattle.lattice.specs.declared.shape.Shape.{Shape}
use Rattle.lattice.specs.Shape.{cells_of}
use Rattle.lattice.specs.Cell.{Cell, cell_at}
use Rattle.lattice.specs.Cluster.{Cluster, AtMost}

-- f takes the value v at some number below n
abbrev pub takes : (ℕ → ℕ) → ℕ → ℕ → Bool
takes f v zero = false
takes f v (suc n) = eqb (f n) v || takes f v n

-- how many different values f takes at the numbers below n
abbrev pub different_values : (ℕ → ℕ) → ℕ → ℕ
different_values f zero = 0
different_values f (suc n) = cond (takes f (f n) n) 0 1 + different_values f n

-- the number of labels: the different numbers used on the cells of the field
unfoldable pub labels : Shape → (Cell → ℕ) → ℕ
labels s L = different_values (λ i. L (cell_at s i)) (cells_of s)

-- no cluster of at most t cells of the field has one label twice
abbrev pub Separates : Shape → ℕ → (Cell → ℕ) → Type 1
Separates s t L =
    (S : Cell → Type 0) → Cluster s S → AtMost t S → (x y : Cell) → S x → S y → L x ≡ L y → x ≡ y
