-- Fields that are handed in, with erased cells: what a class with erasures stands for, and the corrected field.
-- For example, a class of three cells with their positions 1, 2 and 3 as tags. Of 2 0 1 the last cell alone is a 1 cell, and the
-- syndrome is 3. The erased cell is at position 1, so neither 0 0 1 nor 1 0 1 is a codeword. Of 2 2 1 the erased cells are at
-- positions 1 and 2, whose exclusive or is 3: both are 1, and the codeword is 1 1 1.
use Rattle.std.specs.Prelude.{ℕ, ◌<◌, ◌≤◌, Bool, cond, ◌&&◌, ◌||◌, ◌≢◌, ◌≡◌, leb, eqb}
use Rattle.lattice.specs.Position.{Layout}
use Rattle.lattice.specs.Counting.{count, all_below}
use Rattle.codec.specs.Field.{Field, erased, having}
use Rattle.codec.specs.Hamming.{Tags, syndrome, Lawful, OneDiffers, flipped}

-- cell i is erased
abbrev pub is_erased : Field → ℕ → Bool
is_erased f i = eqb (f i) erased

-- the number of erasures of class a among the first n cells
unfoldable pub erasures_to : Layout → Field → ℕ → ℕ → ℕ
erasures_to L f a n = count (λ i. eqb (L.class i) a && is_erased f i) n

-- the number of erasures of class a
abbrev pub erasures : Layout → Field → ℕ → ℕ
erasures L f a = erasures_to L f a L.cells

-- each class has at most two
abbrev pub FewErasures : Layout → Field → Type 0
FewErasures L f = (a : ℕ) → erasures L f a ≤ 2

-- each class below m has at most two
unfoldable pub few_erasures : Layout → ℕ → Field → Bool
few_erasures L m f = all_below (λ a. leb (erasures L f a) 2) m

-- g agrees with f in every cell of class a that was read
unfoldable pub Agrees : Layout → Field → Field → ℕ → Type 0
Agrees L f g a = (i : ℕ) → i < L.cells → L.class i ≡ a → f i ≢ erased → f i ≡ g i

-- class a of f, a field that is handed in, may stand for that of g: with no erasure in the class at most one cell differs, else
-- every cell that was read agrees
pub record Near (L : Layout) (f g : Field) (a : ℕ) : Type 0 where
  pub read : erasures L f a ≡ 0 → OneDiffers L f g a
  pub filled : erasures L f a ≢ 0 → Agrees L f g a

-- g is a lawful field for which each class of f may stand
pub record Nearest (L : Layout) (tag : Tags) (f g : Field) : Type 0 where
  pub lawful : Lawful L tag g
  pub near : (a : ℕ) → Near L f g a

-- the exclusive or of the tags of the erased cells of class a
unfoldable pub erased_sum : Layout → Tags → Field → ℕ → ℕ
erased_sum L tag f a = syndrome L tag (having erased f) a

-- the erased cells filled: one is 1 where the syndrome of its class is its tag, or the exclusive or of all erased tags
unfoldable pub filled : Layout → Tags → Field → Field
filled L tag f i =
    let s = syndrome L tag f (L.class i) in
    cond (is_erased f i) (cond (eqb s (tag i) || eqb s (erased_sum L tag f (L.class i))) 1 0) (f i)

-- the corrected field: in a class with no erasure one cell is corrected, else the erased cells are filled and nothing else is
-- changed
unfoldable pub corrected : Layout → Tags → Field → Field
corrected L tag f i = cond (eqb (erasures L f (L.class i)) 0) (flipped L tag f i) (filled L tag f i)

-- some codeword is in reach of class a: what correction leaves is one
unfoldable pub in_reach : Layout → Tags → Field → ℕ → Bool
in_reach L tag f a = eqb (syndrome L tag (corrected L tag f) a) 0

-- a codeword is in reach of each class below m
unfoldable pub all_in_reach : Layout → Tags → ℕ → Field → Bool
all_in_reach L tag m f = all_below (in_reach L tag f) m
