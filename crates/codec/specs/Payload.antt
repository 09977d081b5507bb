-- Payload, padding and checks, for any layout of cells: the field of a payload and a padding, and the payload a field holds.
use Rattle.std.specs.Prelude.{ℕ, zero, suc, ◌+◌, ◌-◌, ◌*◌, ◌/◌, ◌%◌, ◌^◌, ◌<◌, ◌≤◌, Bool, true, cond, not, ◌&&◌, ◌||◌, List, ◌⊎◌}
use Rattle.std.specs.Prelude.{◌≡◌, leb, ltb, eqb, get_or}
use Rattle.lattice.specs.Position.{Layout, position}
use Rattle.lattice.specs.Check.{holds_data, capacity}
use Rattle.lattice.specs.Counting.{count, all_below}
use Rattle.codec.specs.Field.{Field, list_of}
use Rattle.codec.specs.Hamming.{tags_of, syndrome}

-- every element is a byte
abbrev pub Bytes : List ℕ → Type 0
Bytes p = (j : ℕ) → get_or p j 0 < 256

-- the payload's length in bytes: the capacity divided by 8, rounded down
unfoldable pub payload_bytes : Layout → ℕ
payload_bytes L = capacity L / 8

-- how many cells before cell i hold no check
unfoldable pub rank : Layout → ℕ → ℕ
rank L i = count (holds_data L) i

-- bit k of the payload, the highest bit of each byte first
unfoldable pub payload_bit : List ℕ → ℕ → ℕ
payload_bit p k = get_or p (k / 8) 0 / 2 ^ (7 - k % 8) % 2

-- the papers' filler: the value of padding cell j, counted from the first one in byte order: 1, 0, 1, 0 and on
unfoldable pub padding : ℕ → ℕ
padding j = 1 - j % 2

-- the padding of fields that were written before: zeros
unfoldable pub earlier_padding : ℕ → ℕ
earlier_padding j = 0

-- the value of the k-th of the cells that hold no check, for a payload of that many bytes: one of its bits, or the padding `pad`
-- behind the last
unfoldable pub data_value : (ℕ → ℕ) → ℕ → List ℕ → ℕ → ℕ
data_value pad bytes p k = cond (ltb k (8 * bytes)) (payload_bit p k) (pad (k - 8 * bytes))

-- the field of the data alone, with 0 in the check cells
unfoldable pub data_field : Layout → (ℕ → ℕ) → List ℕ → Field
data_field L pad p i = cond (holds_data L i) (data_value pad (payload_bytes L) p (rank L i)) 0

-- the field of a payload with a padding: the check cell at position 2^j holds bit j of the syndrome of its class's data
unfoldable pub encoded_with : Layout → (ℕ → ℕ) → List ℕ → Field
encoded_with L pad p i =
    cond (holds_data L i) (data_value pad (payload_bytes L) p (rank L i))
    (syndrome L (tags_of L) (data_field L pad p) (L.class i) / position L i % 2)

-- the field has the payload's bits
abbrev pub Carries : Layout → Field → List ℕ → Type 0
Carries L f p =
    (i : ℕ) → i < L.cells → holds_data L i ≡ true → rank L i < 8 * payload_bytes L → f i ≡ payload_bit p (rank L i)

-- the padding cells hold this padding
abbrev pub PaddedWith : Layout → (ℕ → ℕ) → Field → Type 0
PaddedWith L pad f =
    (i : ℕ) → i < L.cells → holds_data L i ≡ true → 8 * payload_bytes L ≤ rank L i
    → f i ≡ pad (rank L i - 8 * payload_bytes L)

-- right padding, which reading and mending accept: all of it is the pattern, or all of it is zeros
abbrev pub PaddingRight : Layout → Field → Type 0
PaddingRight L f = PaddedWith L padding f ⊎ PaddedWith L earlier_padding f

-- cell i is a padding cell
abbrev pub is_padding : Layout → ℕ → Bool
is_padding L i = holds_data L i && leb (8 * payload_bytes L) (rank L i)

-- the tests that the padding cells hold a padding, and that the padding is right
unfoldable pub padded_with : Layout → (ℕ → ℕ) → Field → Bool
padded_with L pad f = all_below (λ i. not (is_padding L i) || eqb (f i) (pad (rank L i - 8 * payload_bytes L))) L.cells

unfoldable pub padding_ok : Layout → Field → Bool
padding_ok L f = padded_with L padding f || padded_with L earlier_padding f

-- byte j of the payload that a field holds, from the first i cells: its bits follow one another, the highest first
abbrev pub held_byte : Layout → Field → ℕ → ℕ → ℕ
held_byte L f j zero = 0
held_byte L f j (suc i) =
    cond (holds_data L i && eqb (rank L i / 8) j) (held_byte L f j i * 2 + f i) (held_byte L f j i)

unfoldable pub held_payload : Layout → Field → List ℕ
held_payload L f = list_of (λ j. held_byte L f j L.cells) (payload_bytes L)
