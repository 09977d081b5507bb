-- The bytes of a payload and the cells that hold their bits, as the loops of encoding and decoding go over them. Only contracts
-- of functions that are private to the crate cite this file.
use Rattle.std.specs.Prelude.{ℕ, ◌+◌, ◌*◌, ◌/◌, ◌%◌, ◌<◌, ◌≤◌, true, cond, List, ◌≡◌, eqb, ltb, length, get_or}
use Rattle.lattice.specs.Position.{Layout}
use Rattle.lattice.specs.Check.{holds_data}
use Rattle.codec.specs.Field.{Field, flip}
use Rattle.codec.specs.Payload.{rank, payload_bit, held_byte}

-- a byte of the payload begins at the cell of this rank, its eight cells have room, and it is one of the payload's
pub record BeginsByte (rank room bytes : ℕ) : Type 0 where
  pub first : rank % 8 ≡ 0
  pub enough : 8 ≤ room
  pub inside : rank / 8 < bytes

-- four cells as the bytes of a number, the first cell the lowest
abbrev pub packed_at : Field → ℕ → ℕ
packed_at f i = f i + f (i + 1) * 256 + f (i + 2) * 65536 + f (i + 3) * 16777216

-- four cells as a number, and eight, the first cell the highest bit
abbrev pub four_at : Field → ℕ → ℕ
four_at f i = f i * 8 + f (i + 1) * 4 + f (i + 2) * 2 + f (i + 3)

abbrev pub eight_at : Field → ℕ → ℕ
eight_at f i = four_at f i * 16 + four_at f (i + 4)

-- the buffer holds the bytes that the first i cells of a field make; the buffer's bytes are below 256
pub record HoldsBytes (L : Layout) (f : Field) (l : List ℕ) (i : ℕ) : Type 0 where
  pub at : (j : ℕ) → j < length l → get_or l j 0 ≡ held_byte L f j i % 256

-- the value v of the k-th of the cells that hold no check is put behind the bits of its byte
pub record BitStored (before after : List ℕ) (k v : ℕ) : Type 0 where
  pub at : (j : ℕ) → j < length before
      → get_or after j 0 ≡ cond (eqb (k / 8) j) ((get_or before j 0 * 2 + v) % 256) (get_or before j 0)

-- bit k of a payload is flipped
pub record BitFlipped (before after : List ℕ) (k : ℕ) : Type 0 where
  pub at : (j : ℕ)
      → j < 8 * length before
      → payload_bit after j ≡ cond (eqb j k) (flip (payload_bit before j)) (payload_bit before j)

-- the bits of a payload are the data cells of f, but for padding
pub record HoldsBits (L : Layout) (f : Field) (l : List ℕ) : Type 0 where
  pub at : (i : ℕ) → i < L.cells → holds_data L i ≡ true → rank L i < 8 * length l → payload_bit l (rank L i) ≡ f i

-- f with cell c flipped
unfoldable pub flipped_at : Field → ℕ → Field
flipped_at f c i = cond (eqb i c) (flip (f i)) (f i)

-- the list names for each class below m one of its cells, or none
pub record Names (L : Layout) (m : ℕ) (cells : List ℕ) : Type 0 where
  pub class : (a : ℕ) → a < m → get_or cells a 0 < L.cells → L.class (get_or cells a 0) ≡ a

-- f with the named cells flipped, and the same in the classes below a alone
unfoldable pub flipped_by : Layout → List ℕ → Field → Field
flipped_by L cells f i = cond (eqb (get_or cells (L.class i) 0) i) (flip (f i)) (f i)

unfoldable pub flipped_to : Layout → List ℕ → Field → ℕ → Field
flipped_to L cells f a i = cond (ltb (L.class i) a) (flipped_by L cells f i) (f i)
