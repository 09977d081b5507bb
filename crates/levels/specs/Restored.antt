-- The corrected field of levels, for any layout of cells in classes: the change that its word's remainder tells is taken back in
-- each cell.
use Rattle.std.specs.Prelude.{ℕ, ◌+◌, ◌-◌, Bool, cond, not, ◌&&◌, ◌||◌, leb}
use Rattle.lattice.specs.Counting.{all_below}
use Rattle.lattice.specs.Position.{Layout}
use Rattle.codec.specs.Field.{Field}
use Rattle.levels.specs.Level.{is_level}
use Rattle.levels.specs.Faults.{change}
use Rattle.levels.specs.Words.{slot, in_word, word, remainder}

-- the change of cell i, with 1 added, by the remainder of its word
unfoldable pub change_at : Layout → Field → ℕ → ℕ
change_at L f i = change (remainder L f (word L i)) (slot L i)

-- a value without the change u − 1
abbrev pub restored : ℕ → ℕ → ℕ
restored v u = v + 1 - u

-- the corrected field: the change is taken back in each cell of a word, and the ignored cells are 0
unfoldable pub corrected_levels : Layout → Field → Field
corrected_levels L f i = cond (in_word L i) (restored (f i) (change_at L f i)) 0

-- a value without the change u − 1 is a level
unfoldable pub restores : ℕ → ℕ → Bool
restores v u = leb u (v + 1) && is_level (restored v u)

-- cell i is ignored, or its change can be taken back
unfoldable pub fits : Layout → Field → ℕ → Bool
fits L f i = not (in_word L i) || restores (f i) (change_at L f i)

-- every change can be taken back, so that each word comes from a lawful one
unfoldable pub levels_in_reach : Layout → Field → Bool
levels_in_reach L f = all_below (fits L f) L.cells
