-- Codes for one class, whatever they are: words of n cells, the sets of words in which one flipped cell can be undone, and the
-- code in use. For example, of 0 0 0 and 1 1 1 with at most one cell flipped one can always tell which of the two it was.
use Rattle.std.specs.Prelude.{ℕ, zero, suc, Bool, cond, ◌≢◌, ◌≡◌, eqb, length}
use mathlib.Core.List.{List, [], ◌∷◌, ◌++◌, Memᴰ}
use Rattle.lattice.specs.Position.{Layout}
use Rattle.lattice.specs.Distinct.{Distinct}
use Rattle.codec.specs.Field.{Field, field_of, Cells}
use Rattle.codec.specs.Hamming.{tags_of, Lawful}

-- a word of n cells, each 0 or 1
pub record Word (n : ℕ) (w : List ℕ) : Type 0 where
  pub long : length w ≡ n
  pub cells : Cells (field_of w) n

-- w is a word of n cells that can have come from u, which is one too, with at most one cell flipped: two cells in which they
-- differ are one cell
pub record ComesFrom (n : ℕ) (u w : List ℕ) : Type 0 where
  pub word : Word n w
  pub one : (i j : ℕ) → field_of u i ≢ field_of w i → field_of u j ≢ field_of w j → i ≡ j

-- a set of words of n cells, by any rule or none, in which no one word can have come from two of them
pub record CorrectsOne (n : ℕ) (S : List ℕ → Type 0) : Type 0 where
  pub words : (u : List ℕ) → S u → Word n u
  pub apart : (u v w : List ℕ) → S u → S v → ComesFrom n u w → ComesFrom n v w → u ≡ v

-- a list of different words of a set
pub record Listed (S : List ℕ → Type 0) (words : List (List ℕ)) : Type 0 where
  pub distinct : Distinct words
  pub inside : (w : List ℕ) → Memᴰ w words → S w

-- those of the first n cells of a field that pass a test, in byte order
abbrev pub passing : (ℕ → Bool) → Field → ℕ → List ℕ
passing test f zero = []
passing test f (suc n) = cond (test n) (passing test f n ++ (f n ∷ [])) (passing test f n)

-- the word that class a has in a field: the cells of the class
abbrev pub word_of : Layout → ℕ → Field → List ℕ
word_of L a f = passing (λ i. eqb (L.class i) a) f L.cells

-- the code in use: the codewords of class a are the words that it has in lawful fields, whatever their padding
abbrev pub ClassCodeword : Layout → ℕ → List ℕ → Type 0
ClassCodeword L a w = (f : Field) × Lawful L (tags_of L) f × (w ≡ word_of L a f)
