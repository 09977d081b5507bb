-- The theorems on words, for any layout of cells in classes.
use Rattle.std.specs.Prelude.{ℕ, ◌*◌, ◌<◌, true, ◌≡◌}
use Rattle.lattice.specs.Counting.{count}
use Rattle.lattice.specs.Position.{Layout}
use Rattle.lattice.specs.Digits.{words_below, digits_below}
use Rattle.codec.specs.Field.{Field, Same}
use Rattle.levels.specs.Words.{slot, in_word, word, is_of, LawfulWord, ComesFrom, LevelsFrom, WordInReach}
use Rattle.levels.specs.Restored.{corrected_levels, fits, levels_in_reach}
use Rattle.levels.specs.Payload.{holds_digit}

-- Theorem. For any layout of cells in classes below m: a cell of a word has a number below the number of words and a place below
-- 6; no two cells have one word and one place, and each word has a cell at each place, all of one class. So there are six cells
-- for each word, and five of them hold a digit.
pub record WordsNumbered : Type 0 where
  pub below : (L : Layout) (m : ℕ) → ((i : ℕ) → i < L.cells → L.class i < m)
      → (i : ℕ) → i < L.cells → in_word L i ≡ true → (word L i < words_below L m) × (slot L i < 6)
  pub one : (L : Layout) (i j : ℕ) → in_word L i ≡ true → in_word L j ≡ true → word L i ≡ word L j → slot L i ≡ slot L j → i ≡ j
  pub some : (L : Layout) (m w k : ℕ) → w < words_below L m → k < 6
      → (i : ℕ) × (i < L.cells) × (is_of L w i ≡ true) × (slot L i ≡ k)
  pub class : (L : Layout) (i j : ℕ) → in_word L i ≡ true → in_word L j ≡ true → word L i ≡ word L j → L.class i ≡ L.class j
  pub cells : (L : Layout) (m : ℕ) → ((i : ℕ) → i < L.cells → L.class i < m)
      → count (in_word L) L.cells ≡ 6 * words_below L m
  pub digits : (L : Layout) (m : ℕ) → ((i : ℕ) → i < L.cells → L.class i < m)
      → count (holds_digit L) L.cells ≡ digits_below L m

-- Theorem. Of one word: it comes from at most one lawful word, and from one of levels exactly where the change of each of its
-- cells can be taken back.
pub record OneWord : Type 0 where
  pub one : (L : Layout) (f g h : Field) (w : ℕ) → ComesFrom L f g w → LawfulWord L g w → ComesFrom L f h w → LawfulWord L h w
      → (i : ℕ) → i < L.cells → is_of L w i ≡ true → g i ≡ h i
  pub reach : (L : Layout) (f : Field) (w : ℕ)
      → ((i : ℕ) → i < L.cells → is_of L w i ≡ true → fits L f i ≡ true) → WordInReach L f w
  pub fit : (L : Layout) (f : Field) (w : ℕ) → WordInReach L f w
      → (i : ℕ) → i < L.cells → is_of L w i ≡ true → fits L f i ≡ true

-- Theorem. Of a field: it comes from at most one lawful field, which is the corrected field, and from one exactly where the test
-- passes.
pub record OneLevels : Type 0 where
  pub one : (L : Layout) (f g h : Field) → LevelsFrom L f g → LevelsFrom L f h → Same g h L.cells
  pub corrected : (L : Layout) (f g : Field) → LevelsFrom L f g → Same (corrected_levels L f) g L.cells
  pub passes : (L : Layout) (f g : Field) → LevelsFrom L f g → levels_in_reach L f ≡ true
  pub reach : (L : Layout) (f : Field) → levels_in_reach L f ≡ true → LevelsFrom L f (corrected_levels L f)
