-- No denser square: no set of words for a class, in which one flipped cell can be undone, has twice as many words as the code in
-- use.
use Rattle.std.specs.Prelude.{ℕ, ◌*◌, ◌%◌, ◌^◌, ◌<◌, ◌≤◌, List, [], ◌∷◌, ◌≡◌, length}
use Rattle.lattice.specs.Position.{Layout, size}
use Rattle.lattice.specs.Check.{data_cells}
use Rattle.codec.specs.Field.{field_of}
use Rattle.codec.specs.Bound.{ComesFrom, CorrectsOne, Listed, word_of, ClassCodeword}

-- Theorem. Any set of words of n cells in which no one word, with at most one cell flipped, can have come from two of them has
-- fewer than twice 2^k words: no list of different words of it has that many. Here k is `data_cells n`, the number of payload or
-- padding cells of a class of n cells (lattice's ClassCapacity).
abbrev pub NoDenserCode : Type 1
NoDenserCode =
    (n : ℕ) (S : List ℕ → Type 0) → CorrectsOne n S
    → (words : List (List ℕ)) → Listed S words → length words < 2 * 2 ^ data_cells n

-- Theorem. For any layout of cells in classes, so in every field: the codewords of a class are such a set, and they are 2^k, for
-- so many different ones can be listed, and no more.
pub record CodeInUse : Type 0 where
  pub corrects : (L : Layout) (a : ℕ) → CorrectsOne (size L a) (ClassCodeword L a)
  pub least : (L : Layout) (a : ℕ)
      → (words : List (List ℕ)) × Listed (ClassCodeword L a) words × (length words ≡ 2 ^ data_cells (size L a))
  pub most : (L : Layout) (a : ℕ) (words : List (List ℕ)) → Listed (ClassCodeword L a) words
      → length words ≤ 2 ^ data_cells (size L a)

-- five cells in two classes, by turns
abbrev pub by_turns : Layout
by_turns = record { class = λ i. i % 2; cells = 5 }

-- Theorem. Our own examples hold.
pub record BoundExamples : Type 0 where
  -- 0 0 1 itself, and 0 1 1, can have come from 0 0 1
  pub comes : ComesFrom 3 (0 ∷ 0 ∷ 1 ∷ []) (0 ∷ 0 ∷ 1 ∷ []) × ComesFrom 3 (0 ∷ 0 ∷ 1 ∷ []) (0 ∷ 1 ∷ 1 ∷ [])
  -- 1 1 1 differs in two cells, 0 0 2 is no word, and 0 0 1 0 has four cells
  pub not_comes : (¬ ComesFrom 3 (0 ∷ 0 ∷ 1 ∷ []) (1 ∷ 1 ∷ 1 ∷ []))
      × (¬ ComesFrom 3 (0 ∷ 0 ∷ 1 ∷ []) (0 ∷ 0 ∷ 2 ∷ []))
      × (¬ ComesFrom 3 (0 ∷ 0 ∷ 1 ∷ []) (0 ∷ 0 ∷ 1 ∷ 0 ∷ []))
  -- the words of the two classes of 1 0 1 1 0
  pub class_words :
      (word_of by_turns 0 (field_of (1 ∷ 0 ∷ 1 ∷ 1 ∷ 0 ∷ [])) ≡ 1 ∷ 1 ∷ 0 ∷ [])
      × (word_of by_turns 1 (field_of (1 ∷ 0 ∷ 1 ∷ 1 ∷ 0 ∷ [])) ≡ 0 ∷ 1 ∷ [])
