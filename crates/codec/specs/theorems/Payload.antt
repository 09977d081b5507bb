-- The theorems on payloads and padding.
use Rattle.std.specs.Prelude.{ℕ, ◌+◌, ◌*◌, ◌<◌, ◌≤◌, List, ◌≡◌, length}
use Rattle.lattice.specs.Position.{Layout}
use Rattle.lattice.specs.Counting.{count}
use Rattle.codec.specs.Payload.{Bytes, payload_bit, is_padding, padding, earlier_padding}

-- Theorem. A payload is told by its bits: two of one length with the same bits are one.
abbrev pub BitsTell : Type 0
BitsTell =
    (p q : List ℕ) → Bytes p → Bytes q → length p ≡ length q
    → ((k : ℕ) → k < 8 * length p → payload_bit p k ≡ payload_bit q k) → p ≡ q

-- Theorem. For any layout, at most 7 cells are padding.
abbrev pub PaddingFew : Type 0
PaddingFew = (L : Layout) → count (is_padding L) L.cells ≤ 7

-- Theorem. The padding's cells 2j and 2j + 1 are 1 and 0, for every j; before, all were 0.
pub record PaddingPattern : Type 0 where
  pub even : (j : ℕ) → padding (2 * j) ≡ 1
  pub odd : (j : ℕ) → padding (2 * j + 1) ≡ 0
  pub earlier : (j : ℕ) → earlier_padding j ≡ 0
