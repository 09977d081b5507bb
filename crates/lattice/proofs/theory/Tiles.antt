-- The p × q cells of the window at row 0 and column 0.
use Prim.Native.Nat.{ℕ, zero, suc, ◌+◌, ◌*◌, ◌/◌, ◌%◌, ◌<◌, ◌≤◌}
use mathlib.Core.List.{List, Memᴰ}
use mathlib.Core.Path.{◌≡◌, refl, ap, ap₂, sym, ◌∙◌}
use native.Mathlib.Nat.{mod-lt, div-lt_iff_lt-mul, div-add-mod'}
use native.Mathlib.Omega.{arith}
use lib.IntN.{pos, +ℤ_idl}
use lib.ListN.{length}
use Rattle.lattice.specs.declared.shape.Shape.{Shape}
use Rattle.lattice.specs.declared.shape.Window.{Window}
use Rattle.lattice.specs.Cell.{Cell, cell, InField}
use Rattle.lattice.specs.Window.{InWindow}
use Rattle.lattice.specs.Distinct.{Distinct}
use Rattle.lattice.proofs.theory.Tabulated.{tabulate, tabulate_length, tabulate_are, tabulate_distinct}

-- a product above some number has a second factor above 0
factor : (p q i : ℕ) → i < p * q → 0 < q
factor p zero i h = omega arith
factor p (suc q) i h = omega arith

module _ (w : Window) where
  -- cell i of the window, row by row
  tile : ℕ → Cell
  tile i = cell (i / w.columns) 0 (i % w.columns)

  pub tiles : List Cell
  tiles = tabulate tile (w.rows * w.columns)

  pub tiles_length : length tiles ≡ w.rows * w.columns
  unfolding tiles
  tiles_length = tabulate_length tile (w.rows * w.columns)

  -- a cell's row and column tell which it is
  tile_one : (i j : ℕ) → tile i ≡ tile j → i ≡ j
  unfolding tile
  tile_one i j e =
      sym (div-add-mod' i w.columns)
      ∙ ap₂ (λ (a b : ℕ). a * w.columns + b) (ap (λ (x : Cell). x.row) e) (ap (λ (x : Cell). x.column) e)
      ∙ div-add-mod' j w.columns

  pub tiles_distinct : Distinct tiles
  unfolding tiles
  tiles_distinct = tabulate_distinct tile (w.rows * w.columns) (λ i j _ _. tile_one i j)

  -- where each of them lies
  record TileAt (x : Cell) : Type 0 where
    row : x.row < w.rows
    plane : x.plane ≡ 0
    column : x.column < w.columns

  tile_at : (i : ℕ) → i < w.rows * w.columns → TileAt (tile i)
  unfolding tile
  tile_at i h =
      let some = factor w.rows w.columns i h in
      record { row = (div-lt_iff_lt-mul some).1 h; plane = refl; column = mod-lt i some }

  tiles_at : (x : Cell) → Memᴰ x tiles → TileAt x
  unfolding tiles
  tiles_at x m = let r = tabulate_are tile (w.rows * w.columns) m in rw r.2 (tile_at r.0 r.1)

  -- in a field that is large enough, and in the window
  pub tiles_inside : (s : Shape) → 1 ≤ s.planes → w.rows ≤ s.rows → w.columns ≤ s.columns
      → (x : Cell) → Memᴰ x tiles → InField s x
  tiles_inside s some high wide x m =
      let t = tiles_at x m in
      record { row = omega (arith, t.row); plane = omega (arith, t.plane); column = omega (arith, t.column) }

  pub tiles_window : (x : Cell) → Memᴰ x tiles → InWindow w (pos 0) (pos 0) x
  tiles_window x m =
      let t = tiles_at x m in
      record {
        down = x.row;
        across = x.column;
        rows = t.row;
        columns = t.column;
        row = sym (+ℤ_idl (pos x.row));
        column = sym (+ℤ_idl (pos x.column));
      }
