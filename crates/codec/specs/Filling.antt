-- The data cells of a field, filled plane by plane and run by run, and then its checks. Only contracts of functions that are
-- private to the crate cite this file: among them the plane filler's, `Filled`.
use Rattle.std.specs.Prelude.{ℕ, ◌+◌, ◌-◌, ◌*◌, ◌/◌, ◌%◌, ◌^◌, ◌<◌, ◌≤◌, false, cond, List, ◌++◌, ◌⊎◌, ◌≡◌, ltb, length, get_or}
use Rattle.std.specs.Prelude.{drop}
use Rattle.lattice.specs.declared.shape.Shape.{Shape}
use Rattle.lattice.specs.Shape.{max_cells, Accepted, cells_of}
use Rattle.lattice.specs.Class.{layout_of}
use Rattle.lattice.specs.Position.{Layout}
use Rattle.lattice.specs.Check.{holds_data}
use Rattle.lattice.specs.Listing.{max_checks, checks_to, ListsChecks, HoldsPlaces, Run}
use Rattle.codec.specs.Field.{Field, field_of, list_of, Same}
use Rattle.codec.specs.Payload.{payload_bytes, padding, data_value, data_field, encoded_with}
use Rattle.codec.specs.Working.{HoldsSyndromes}

-- the cells from x on are the n bits of v, the highest first, and the others stay
pub record BitsPut (before after : List ℕ) (x n v : ℕ) : Type 0 where
  pub own : (d : ℕ) → d < n → get_or after (x + d) 0 ≡ v / 2 ^ (n - 1 - d) % 2
  pub others : (y : ℕ) → (y < x) ⊎ (x + n ≤ y) → get_or after y 0 ≡ get_or before y 0

-- in a part that begins at cell `at`, the cells from i up to e, which k checks stand before, have their values, and the others
-- stay
pub record ValuesPut (payload before after : List ℕ) (at k i e : ℕ) : Type 0 where
  pub own : (x : ℕ) → i ≤ x → x < e → get_or after (x - at) 0 ≡ data_value padding (length payload) payload (x - k)
  pub others : (y : ℕ) → (at + y < i) ⊎ (e ≤ at + y) → get_or after y 0 ≡ get_or before y 0

-- from any cell up to `end` that k checks stand before, the run goes up to cell r: the next check, or the end
pub record EndsRun (L : Layout) (k end r : ℕ) : Type 0 where
  pub run : (i : ℕ) → i ≤ end → checks_to L i ≡ k → Run L k i r
  pub check : r < end → holds_data L r ≡ false

-- the same in any layout whose checks are listed
abbrev pub RunEnd : List ℕ → ℕ → ℕ → ℕ → ℕ → Type 0
RunEnd checks amount k end r =
    (L : Layout) → ListsChecks L L.cells amount checks → end ≤ L.cells → EndsRun L k end r

-- a part that begins at cell `at` holds the data alone up to cell e, with 0 in the check cells, and goes on as before
pub record DataPut (L : Layout) (payload before after : List ℕ) (at e : ℕ) : Type 0 where
  pub own : (x : ℕ) → at ≤ x → x < e → get_or after (x - at) 0 ≡ data_field L padding payload x
  pub others : (y : ℕ) → e ≤ at + y → get_or after y 0 ≡ get_or before y 0

-- the cells up to `end` are to be filled: the payload has the layout's length, and the check cells are listed
pub record ToFill (L : Layout) (payload checks : List ℕ) (amount end : ℕ) : Type 0 where
  pub long : length payload ≡ payload_bytes L
  pub lists : ListsChecks L L.cells amount checks
  pub inside : end ≤ L.cells

-- the run from cell i up to cell e is next, k checks stand before it, and the part that begins at cell `at` is filled up to it
pub record AtRun (L : Layout) (payload before part : List ℕ) (at k i end e : ℕ) : Type 0 where
  pub behind : at ≤ i
  pub inside : i ≤ end
  pub counted : checks_to L i ≡ k
  pub ends : EndsRun L k end e
  pub put : DataPut L payload before part at i

-- the cells of a plane
abbrev pub plane_cells : Shape → ℕ
plane_cells s = s.rows * s.columns

-- the shape is accepted, the payload has its plan's length, and the cells that hold a check are listed
pub record ChecksListed (s : Shape) (payload checks : List ℕ) (amount : ℕ) : Type 0 where
  pub accepted : Accepted s
  pub few : amount ≤ max_checks
  pub cells : ToFill (layout_of s) payload checks amount (cells_of s)

-- the plane that begins at cell i is next: it lies in the field and in the part lent, and k checks stand before it
pub record AtPlane (s : Shape) (part : List ℕ) (i k : ℕ) : Type 0 where
  pub inside : i + plane_cells s ≤ cells_of s
  pub room : plane_cells s ≤ length part
  pub counted : checks_to (layout_of s) i ≡ k

-- a part lent that began at cell i has been filled with m cells of the data alone, and goes on as before; k checks stand before
-- the next cell
pub record Filled (s : Shape) (payload before after : List ℕ) (i k m : ℕ) : Type 0 where
  pub cells : after ≡ list_of (λ j. data_field (layout_of s) padding payload (i + j)) m ++ drop m before
  pub counted : checks_to (layout_of s) (i + m) ≡ k

-- the buffer of the data alone
unfoldable pub data_buffer : Shape → List ℕ → List ℕ
data_buffer s p = list_of (data_field (layout_of s) padding p) (cells_of s)

-- the field with the data and the first k checks
unfoldable pub checked_to : Layout → List ℕ → ℕ → Field
checked_to L p k i = cond (ltb (checks_to L i) k) (encoded_with L padding p i) (data_field L padding p i)

-- the checks are to be set: they are listed with their places, and the array holds the syndromes of the data alone
pub record ToCheck (L : Layout) (p checks places syndromes : List ℕ) (amount : ℕ) : Type 0 where
  pub few : L.cells ≤ max_cells
  pub lists : ListsChecks L L.cells amount checks
  pub placed : HoldsPlaces L amount checks places
  pub held : HoldsSyndromes L (data_field L padding p) syndromes L.cells

-- a field of the data alone, in any layout, becomes the field written
pub record ChecksPut (checks places syndromes before after : List ℕ) (amount : ℕ) : Type 0 where
  pub written : (L : Layout) (p : List ℕ) → ToCheck L p checks places syndromes amount
      → Same (field_of before) (data_field L padding p) L.cells → Same (field_of after) (encoded_with L padding p) L.cells

-- the bit of its class's syndrome that a check at a place holds
abbrev pub bit_at : List ℕ → ℕ → ℕ
bit_at syndromes place = get_or syndromes (place / 32) 0 / 2 ^ (place % 32) % 2
