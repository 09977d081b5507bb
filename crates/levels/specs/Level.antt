-- The levels of a cell, the papers' shades, and how a cell may change.
use Rattle.std.specs.Prelude.{ℕ, ◌+◌, ◌<◌, ◌≤◌, Bool, leb}
use Rattle.lattice.specs.Counting.{all_below}
use Rattle.codec.specs.Field.{Field}

-- the levels are 0 to 24, a higher one being darker
abbrev pub max_level : ℕ
max_level = 24

-- each of the first n cells is a level
abbrev pub Levels : Field → ℕ → Type 0
Levels f n = (i : ℕ) → i < n → f i ≤ max_level

unfoldable pub is_level : ℕ → Bool
is_level v = leb v max_level

unfoldable pub levels_ok : Field → ℕ → Bool
levels_ok f n = all_below (λ i. is_level (f i)) n

-- a cell that was written is read with a change of −1 to +3: faded by 1 at most, or darkened by 3 at most
abbrev pub Within : ℕ → ℕ → Type 0
Within written read = (written ≤ read + 1) × (read ≤ written + 3)
