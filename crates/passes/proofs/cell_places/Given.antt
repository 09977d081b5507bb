-- What is given for a position of a class, and an array of what is given for each class.
use Prim.Native.Nat.{ℕ, ◌+◌, ◌<◌, ◌≤◌}
use mathlib.Core.List.{List}
use mathlib.Core.Logic.{◌⊎◌, ⊎_elim}
use mathlib.Core.Path.{◌≡◌, refl, ap}
use native.Mathlib.Omega.{arith}
use lib.ListN.{length, get_or, set}
use Rattle.lattice.specs.Position.{Layout, size, size_to}
use Rattle.lattice.specs.Listing.{no_cell, IsCellAt, CellOrNone, CellsAt}
use Rattle.lattice.proofs.theory.Positions.{position_most}
use Rattle.lattice.proofs.theory.Stores.{store_more}

-- a cell that has the position is what is given for it
pub given_cell : (L : Layout) (a p i : ℕ) → 1 ≤ p → IsCellAt L a p i → CellOrNone L a p i
given_cell L a p i least is =
    record {
      some = λ _ _. is;
      none = λ w. absurd (⊎_elim (λ (e : p ≡ 0). omega arith) (λ (l : size L a < p). omega (arith, most)) w);
    }
  where
    most : p ≤ size L a
    most =
        omega (
          arith,
          is.position,
          position_most L i L.cells is.below,
          ap (λ (b : ℕ). size_to L b L.cells) is.class,
        )

-- and none where no cell has it
pub given_none : (L : Layout) (a p : ℕ) → (p ≡ 0) ⊎ (size L a < p) → CellOrNone L a p no_cell
given_none L a p w =
    record {
      some = λ low high. absurd (⊎_elim (λ (e : p ≡ 0). omega arith) (λ (l : size L a < p). omega arith) w);
      none = λ _. refl;
    }

-- a store gives the cell of class a beside those of the classes below
pub cells_more : (L : Layout) (a v : ℕ) (positions cells : List ℕ) → a < length cells → CellsAt L a positions cells
    → CellOrNone L a (get_or positions a 0) v → CellsAt L (a + 1) positions (set cells a v)
cells_more L a v positions cells h before own =
    record { at = store_more (λ k i. CellOrNone L k (get_or positions k 0) i) cells a v h before.at own }
