-- The code in a class: the shortened Hamming code, for any layout of cells in classes and any tags of the cells.
-- For example, a class of three cells with their positions 1, 2 and 3 as tags. The cells 1 1 1 are a codeword, as the exclusive
-- or of 1, 2 and 3 is 0. Where 1 0 1 is read, the exclusive or of 1 and 3 is 2, so the cell at position 2 is flipped. Of 0 1 0
-- the same cell is flipped, as the exclusive or is 2 again, and the codeword is 0 0 0.
use Rattle.std.specs.Prelude.{ℕ, zero, suc, ◌<◌, cond, ◌&&◌, ◌≢◌, ◌≡◌, eqb}
use Rattle.std.specs.Int.Bits.{bit_xor}
use Rattle.lattice.specs.Position.{Layout, position}
use Rattle.codec.specs.Field.{Field, Cells, flip}

-- a tag for each cell, by its byte number
abbrev pub Tags : Type 0
Tags = ℕ → ℕ

-- the tags tell the cells of a class: none is 0, and two cells of one class have different ones
pub record Tells (L : Layout) (tag : Tags) : Type 0 where
  pub some : (i : ℕ) → i < L.cells → tag i ≢ 0
  pub one : (i j : ℕ) → i < L.cells → j < L.cells → L.class i ≡ L.class j → tag i ≡ tag j → i ≡ j

-- the papers' tags: the position of each cell in its class
unfoldable pub tags_of : Layout → Tags
tags_of L i = position L i

-- what cell i adds to the exclusive or of class a: its tag, where it is a 1 cell of that class
abbrev pub term : Layout → Tags → Field → ℕ → ℕ → ℕ
term L tag f a i = cond (eqb (L.class i) a && eqb (f i) 1) (tag i) 0

-- the exclusive or of the tags of the 1 cells of class a, among the first n cells
abbrev pub syndrome_to : Layout → Tags → Field → ℕ → ℕ → ℕ
syndrome_to L tag f a zero = 0
syndrome_to L tag f a (suc n) = bit_xor (syndrome_to L tag f a n) (term L tag f a n)

-- the syndrome of class a: the exclusive or of the tags of its 1 cells
abbrev pub syndrome : Layout → Tags → Field → ℕ → ℕ
syndrome L tag f a = syndrome_to L tag f a L.cells

-- the papers' lawful class: its syndrome is 0
unfoldable pub Codeword : Layout → Tags → Field → ℕ → Type 0
Codeword L tag f a = syndrome L tag f a ≡ 0

-- the papers' lawful field: every cell is 0 or 1 and every class is a codeword
pub record Lawful (L : Layout) (tag : Tags) (f : Field) : Type 0 where
  pub cells : Cells f L.cells
  pub classes : (a : ℕ) → Codeword L tag f a

-- two fields differ in at most one cell of class a: two cells of the class in which they differ are one cell
unfoldable pub OneDiffers : Layout → Field → Field → ℕ → Type 0
OneDiffers L f g a =
    (i j : ℕ) → i < L.cells → j < L.cells → L.class i ≡ a → L.class j ≡ a → f i ≢ g i → f j ≢ g j → i ≡ j

-- one cell of each class corrected: the cell whose tag is the syndrome of its class is flipped
unfoldable pub flipped : Layout → Tags → Field → Field
flipped L tag f i = cond (eqb (syndrome L tag f (L.class i)) (tag i)) (flip (f i)) (f i)
