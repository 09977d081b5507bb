-- The digits of a field of levels: each class is cut into words of six cells, and five cells of a word hold a digit.
use Rattle.std.specs.Prelude.{ℕ, ◌*◌, ◌/◌, List, get_or}
use Rattle.lattice.specs.declared.shape.Shape.{Shape}
use Rattle.lattice.specs.Counting.{sum_below}
use Rattle.lattice.specs.Position.{Layout, size}
use Rattle.lattice.specs.Class.{classes_of, layout_of}

-- a class of n cells is cut into words of six cells, and its last n mod 6 cells are of none
unfoldable pub words_in : ℕ → ℕ
words_in n = n / 6

-- how many words the classes below a have
unfoldable pub words_below : Layout → ℕ → ℕ
words_below L a = sum_below (λ b. words_in (size L b)) a

-- how many digits the classes below m hold: five in each word
unfoldable pub digits_below : Layout → ℕ → ℕ
digits_below L m = 5 * words_below L m

-- of a field: the digits that its own classes hold, the length of its payload
abbrev pub digits_of : Shape → ℕ
digits_of s = digits_below (layout_of s) (classes_of s)

-- the number of digits, where the list holds the size of each of m classes
unfoldable pub digits_in : List ℕ → ℕ → ℕ
digits_in sizes m = 5 * sum_below (λ a. words_in (get_or sizes a 0)) m
