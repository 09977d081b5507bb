-- A plane of the field filled with the data alone, in the part lent for it.
use Prim.Native.Nat.{ℕ, ◌+◌, ◌-◌, ◌<◌, ◌≤◌}
use mathlib.Core.List.{List}
use mathlib.Core.Path.{◌≡◌, ap, subst, ◌∙◌}
use native.Mathlib.Omega.{arith}
use lib.ListN.{length, get_or}
use Rattle.lattice.specs.declared.shape.Shape.{Shape}
use Rattle.lattice.specs.Shape.{max_cells}
use Rattle.lattice.specs.Class.{layout_of}
use Rattle.lattice.specs.Listing.{checks_to}
use Rattle.lattice.proofs.theory.Limits.{legal}
use Rattle.codec.specs.Payload.{padding, data_field}
use Rattle.codec.specs.Filling.{DataPut, ToFill, ChecksListed, AtPlane, Filled, plane_cells}
use Rattle.codec.proofs.theory.FilledLists.{filled_cells}

-- a plane of m cells that begins at cell i, which k checks stand before
module _ (s : Shape) (payload checks part : List ℕ) (amount i k m : ℕ) (listed : ChecksListed s payload checks amount)
    (at : AtPlane s part i k) (e : m ≡ plane_cells s) where
  -- it ends in the field and in the part
  pub plane_limit : i + m ≤ max_cells
  plane_limit = omega (arith, at.inside, (legal _ listed.accepted).product)

  pub plane_room : i + m ≤ i + length part
  plane_room = omega (arith, at.room)

  -- its cells are to be filled
  pub plane_fill : ToFill (layout_of s) payload checks amount (i + m)
  plane_fill =
      let f = listed.cells in
      record { long = f.long; lists = f.lists; inside = omega (arith, at.inside) }

  pub plane_filled : (after : List ℕ) (q : ℕ) → length after ≡ length part
      → DataPut (layout_of s) payload part after i (i + m) × (checks_to (layout_of s) (i + m) ≡ q)
      → Filled s payload part after i q (plane_cells s)
  plane_filled after q long done =
      subst (λ (n : ℕ). Filled s payload part after i q n) e
      record {
        cells =
            filled_cells (λ j. data_field (layout_of s) padding payload (i + j)) part m after long (omega (arith, at.room)) own
            others;
        counted = done.1;
      }
    where
      own : (j : ℕ) → j < m → get_or after j 0 ≡ data_field (layout_of s) padding payload (i + j)
      own j l =
          let place : j ≡ i + j - i = omega arith in
          ap (λ (y : ℕ). get_or after y 0) place ∙ done.0.own (i + j) (omega arith) (omega arith)

      others : (j : ℕ) → m ≤ j → get_or after j 0 ≡ get_or part j 0
      others j l = done.0.others j (omega arith)
