-- Ranges of numbers.
use Rattle.std.specs.Prelude.{ℕ, ◌<◌, Bool, ◌&&◌, ◌⊎◌, leb}

-- x is at least `low` and at most `high`
unfoldable pub in_range : ℕ → ℕ → ℕ → Bool
in_range low high x = leb low x && leb x high

-- x is below `low` or above `high`
abbrev pub Outside : ℕ → ℕ → ℕ → Type 0
Outside low high x = (x < low) ⊎ (high < x)
