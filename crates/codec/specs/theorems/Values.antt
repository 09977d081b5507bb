-- The theorem on the values of a cell.
use Rattle.std.specs.Prelude.{ℕ, true, ◌⊎◌, ◌↔◌, ◌≡◌}
use Rattle.codec.specs.Field.{is_cell, is_received}

-- Theorem. A cell is 0 or 1; each cell of a field that is handed in is 0 or 1 or, where it is erased, 2.
pub record CellValues : Type 0 where
  pub cell : (v : ℕ) → (is_cell v ≡ true) ↔ ((v ≡ 0) ⊎ (v ≡ 1))
  pub received : (v : ℕ) → (is_received v ≡ true) ↔ ((v ≡ 0) ⊎ (v ≡ 1) ⊎ (v ≡ 2))
