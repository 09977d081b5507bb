-- Words of six cells, for any layout of cells in classes: which cells belong to a word, lawful words and fields, and the word
-- from which another comes.
use Rattle.std.specs.Prelude.{ℕ, ◌+◌, ◌-◌, ◌*◌, ◌/◌, ◌%◌, ◌<◌, Bool, true, cond, ◌&&◌, ◌≢◌, ◌≡◌, eqb, leb}
use Rattle.lattice.specs.Counting.{sum_below}
use Rattle.lattice.specs.Position.{Layout, size, position}
use Rattle.lattice.specs.Digits.{words_in, words_below}
use Rattle.codec.specs.Field.{Field}
use Rattle.levels.specs.Level.{Levels, Within}
use Rattle.levels.specs.Faults.{multiplier}

-- each class is cut into words of six cells in order of position: the place of cell i in its word, from 0
unfoldable pub slot : Layout → ℕ → ℕ
slot L i = (position L i - 1) % 6

-- cell i belongs to a word; the last n mod 6 cells of a class of n cells do not, and are ignored
unfoldable pub in_word : Layout → ℕ → Bool
in_word L i = leb (position L i) (words_in (size L (L.class i)) * 6)

-- the number of the word of cell i: the words are numbered class by class
unfoldable pub word : Layout → ℕ → ℕ
word L i = words_below L (L.class i) + (position L i - 1) / 6

-- cell i is one of word w
unfoldable pub is_of : Layout → ℕ → ℕ → Bool
is_of L w i = in_word L i && eqb (word L i) w

-- what cell i adds to word w: its value times the multiplier of its place
unfoldable pub share : Layout → Field → ℕ → ℕ → ℕ
share L f w i = cond (is_of L w i) (multiplier (slot L i) * f i) 0

-- what the first n cells add up to in word w
unfoldable pub weighted : Layout → Field → ℕ → ℕ → ℕ
weighted L f w n = sum_below (share L f w) n

-- the remainder of word w
unfoldable pub remainder : Layout → Field → ℕ → ℕ
remainder L f w = weighted L f w L.cells % 25

-- a lawful word: 1, 5, 6, 11, 16, 21 times its cells add up to a multiple of 25
unfoldable pub LawfulWord : Layout → Field → ℕ → Type 0
LawfulWord L f w = remainder L f w ≡ 0

-- a lawful field of levels: every cell is a level, every word is lawful, and the ignored cells are 0
pub record LawfulLevels (L : Layout) (f : Field) : Type 0 where
  pub levels : Levels f L.cells
  pub words : (w : ℕ) → LawfulWord L f w
  pub ignored : (i : ℕ) → i < L.cells → in_word L i ≢ true → f i ≡ 0

-- word w of f comes from that of g by a change of −1 to +3 in at most one cell
pub record ComesFrom (L : Layout) (f g : Field) (w : ℕ) : Type 0 where
  pub one : (i j : ℕ) → i < L.cells → j < L.cells → is_of L w i ≡ true → is_of L w j ≡ true → f i ≢ g i → f j ≢ g j → i ≡ j
  pub within : (i : ℕ) → i < L.cells → is_of L w i ≡ true → Within (g i) (f i)

-- g is a lawful field from which each word of f comes
pub record LevelsFrom (L : Layout) (f g : Field) : Type 0 where
  pub lawful : LawfulLevels L g
  pub comes : (w : ℕ) → ComesFrom L f g w

-- word w of f comes from a lawful word of levels
pub record WordInReach (L : Layout) (f : Field) (w : ℕ) : Type 0 where
  pub from : Field
  pub levels : Levels from L.cells
  pub comes : ComesFrom L f from w
  pub lawful : LawfulWord L from w
