-- The digits of a payload in the cells of words, for any layout of cells in classes: the field of a payload, and the payload that
-- a field holds.
use Rattle.std.specs.Prelude.{ℕ, zero, suc, ◌-◌, ◌%◌, ◌<◌, Bool, true, cond, not, ◌&&◌, List, ◌≡◌, eqb, get_or}
use Rattle.lattice.specs.Counting.{count}
use Rattle.lattice.specs.Position.{Layout}
use Rattle.codec.specs.Field.{Field, list_of}
use Rattle.levels.specs.Words.{slot, in_word, word, weighted}

-- cell i holds a digit: it belongs to a word and is not its first cell, which is the check
unfoldable pub holds_digit : Layout → ℕ → Bool
holds_digit L i = in_word L i && not (eqb (slot L i) 0)

-- how many cells before cell i hold a digit
unfoldable pub digit_rank : Layout → ℕ → ℕ
digit_rank L i = count (holds_digit L) i

-- the field of the digits alone, in byte order over the whole field, with 0 in the other cells
unfoldable pub digit_field : Layout → List ℕ → Field
digit_field L p i = cond (holds_digit L i) (get_or p (digit_rank L i) 0) 0

-- what makes a multiple of 25 of a sum
unfoldable pub check_for : ℕ → ℕ
check_for x = (25 - x % 25) % 25

-- the field of a payload: the check of each word makes it lawful, and the ignored cells are 0
unfoldable pub encoded_levels : Layout → List ℕ → Field
encoded_levels L p i =
    cond (in_word L i && eqb (slot L i) 0)
    (check_for (weighted L (digit_field L p) (word L i) L.cells))
    (digit_field L p i)

-- the field has the payload's digits
abbrev pub CarriesDigits : Layout → Field → List ℕ → Type 0
CarriesDigits L f p = (i : ℕ) → i < L.cells → holds_digit L i ≡ true → f i ≡ get_or p (digit_rank L i) 0

-- digit k that a field holds, from its first n cells
abbrev pub held_digit : Layout → Field → ℕ → ℕ → ℕ
held_digit L f k zero = 0
held_digit L f k (suc i) = cond (holds_digit L i && eqb (digit_rank L i) k) (f i) (held_digit L f k i)

-- the first m digits that a field holds
unfoldable pub held_digits : Layout → ℕ → Field → List ℕ
held_digits L m f = list_of (λ k. held_digit L f k L.cells) m

-- the number of the first n cells that belong to a word and in which two fields differ
unfoldable pub word_differences_to : Layout → Field → Field → ℕ → ℕ
word_differences_to L f g n = count (λ i. in_word L i && not (eqb (f i) (g i))) n

-- the number of word cells in which two fields differ
abbrev pub word_differences : Layout → Field → Field → ℕ
word_differences L f g = word_differences_to L f g L.cells
