-- The classes that hold at least one cell: as many as the different classes of the cells, and counted from a table of sizes.
use Prim.Native.Nat.{ℕ, ◌<◌, ◌≤◌}
use mathlib.Core.Bool.{true}
use mathlib.Core.List.{List}
use mathlib.Core.Path.{◌≡◌, refl, sym, ap}
use native.Mathlib.Omega.{arith}
use borrow.Author.Tests.{eq-eqb, eqb-true, ltb-true, lt-ltb}
use lib.Dec.{eqb}
use lib.ListN.{get_or}
use Rattle.lattice.specs.declared.shape.Shape.{Shape}
use Rattle.lattice.specs.Refusal.{figure}
use Rattle.lattice.specs.Shape.{shape_number, cells_of, Accepted}
use Rattle.lattice.specs.Class.{classes_of, layout_of}
use Rattle.lattice.specs.Position.{Layout, size_to, size}
use Rattle.lattice.specs.Sizes.{HoldsSizes}
use Rattle.lattice.specs.Labelling.{different_values}
use Rattle.lattice.specs.Used.{is_used, used_classes, used_of, used_in}
use Rattle.lattice.proofs.theory.Counting.{count_most, count_more, count_reach, count_same}
use Rattle.lattice.proofs.theory.Pigeonhole.{ValueBelow, count_values}
use Rattle.lattice.proofs.theory.CapacityGiven.{over_given, sizes_own}

-- the classes that hold a cell are the classes of the cells
module _ (L : Layout) where
  used_sound : (a : ℕ) → is_used (size L a) ≡ true → ValueBelow L.class L.cells a
  unfolding is_used size_to
  used_sound a e =
      let r = count_reach (λ i. eqb (L.class i) a) L.cells 0 (omega (arith, ltb-true)) in
      (r.0, r.1, sym (eqb-true (L.class r.0) a r.2))

  used_complete : (i : ℕ) → i < L.cells → is_used (size L (L.class i)) ≡ true
  unfolding is_used size_to
  used_complete i l =
      lt-ltb _ (size L (L.class i))
      (omega (arith, count_more (λ j. eqb (L.class j) (L.class i)) i L.cells l (eq-eqb (L.class i) _ refl)))

  pub used_values : (m : ℕ) → ((i : ℕ) → i < L.cells → L.class i < m) → used_classes L m ≡ different_values L.class L.cells
  unfolding used_classes
  used_values m below = count_values L.class (λ a. is_used (size L a)) m L.cells below used_sound used_complete

  pub used_most : (m : ℕ) → used_classes L m ≤ m
  unfolding used_classes
  used_most m = count_most (λ a. is_used (size L a)) m

  -- from a table of the sizes of m classes
  used_held : (m : ℕ) (xs : List ℕ) → ((a : ℕ) → a < m → get_or xs a 0 ≡ size L a) → used_in xs m ≡ used_classes L m
  unfolding used_in used_classes
  used_held m xs p = count_same _ _ m (λ a l. ap is_used (p a l))

-- for every shape that is the number of such classes that it gives
pub used_given : (s : Shape) (xs : List ℕ) (m : ℕ) → (Accepted s → HoldsSizes (layout_of s) xs (cells_of s))
    → m ≡ figure (shape_number s) (classes_of s) → used_in xs m ≡ figure (shape_number s) (used_of s)
unfolding used_in
used_given s xs m p given =
    over_given s m (used_of s) (used_in xs) refl given (λ e. used_held (layout_of s) (classes_of s) xs (sizes_own s xs e (p e)))
