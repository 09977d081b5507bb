-- Byte numbers of cells: those of one cell are one. So are those of two cells of one class in one small cluster, in one window or
-- in one small patch, so that selections of such cells have few of each class.
use Prim.Native.Nat.{ℕ, ◌<◌}
use mathlib.Core.Bool.{Bool, true}
use mathlib.Core.Logic.{◌⊎◌, inl, inr}
use mathlib.Core.Path.{◌≡◌, sym, ap, ◌∙◌}
use lib.IntN.{ℤ}
use Rattle.lattice.specs.declared.shape.Shape.{Shape}
use Rattle.lattice.specs.Shape.{window, Accepted, cells_of}
use Rattle.lattice.specs.Cell.{Cell, cell_at, cell_number}
use Rattle.lattice.specs.Class.{layout_of}
use Rattle.lattice.specs.Cluster.{Cluster, AtMost}
use Rattle.lattice.specs.Window.{InWindow, Patch}
use Rattle.lattice.proofs.theorems.Numbering.{numbering}
use Rattle.lattice.proofs.theorems.Clusters.{cluster_classes}
use Rattle.lattice.proofs.theorems.Windows.{window_classes, patch_classes}
use Rattle.codec.specs.Damage.{OneInEachClass, TwoInEachClass}

pub one_number : (s : Shape) (i j : ℕ) → i < cells_of s → j < cells_of s → cell_at s i ≡ cell_at s j → i ≡ j
one_number s i j hi hj e = sym (numbering.at s i hi).1 ∙ ap (cell_number s) e ∙ (numbering.at s j hj).1

-- two cells of the set in one class are one
abbrev OneOf : Shape → (Cell → Type 0) → Type 0
OneOf s S =
    (i j : ℕ) → i < cells_of s → j < cells_of s → S (cell_at s i) → S (cell_at s j)
    → (layout_of s).class i ≡ (layout_of s).class j → i ≡ j

-- a cluster, a window and a patch are such sets
module _ (s : Shape) (accepted : Accepted s) where
  pub one_of_cluster : (S : Cell → Type 0) → Cluster s S → AtMost s.strength S → OneOf s S
  one_of_cluster S cluster small i j hi hj si sj same =
      one_number s i j hi hj (cluster_classes s accepted S cluster small (cell_at s i) (cell_at s j) si sj same)

  pub one_of_window : s.strength ≡ 0 → (r c : ℤ) → OneOf s (InWindow s.window r c)
  one_of_window z r c i j hi hj wi wj same =
      one_number s i j hi hj
      (window_classes s accepted z r c (cell_at s i) (cell_at s j) (numbering.at s i hi).0 (numbering.at s j hj).0 wi wj same)

  pub one_of_patch : s.strength ≡ 0 → (t : ℕ) → s.window ≡ window t t → (S : Cell → Type 0) → Patch s S → AtMost t S → OneOf s S
  one_of_patch z t square S patch small i j hi hj si sj same =
      one_number s i j hi hj (patch_classes s accepted z t square S patch small (cell_at s i) (cell_at s j) si sj same)

module _ (s : Shape) (selected : Cell → Bool) where
  -- a selection of its cells has at most one cell of each class
  pub one_each : (S : Cell → Type 0) → OneOf s S → ((x : Cell) → selected x ≡ true → S x)
      → OneInEachClass (layout_of s) (λ i. selected (cell_at s i))
  one_each S one inside i j hi hj si sj = one i j hi hj (inside (cell_at s i) si) (inside (cell_at s j) sj)

  -- a selection of the cells of two such sets has at most two: of three cells two lie in one set
  pub two_each : (S T : Cell → Type 0) → OneOf s S → OneOf s T → ((x : Cell) → selected x ≡ true → S x ⊎ T x)
      → TwoInEachClass (layout_of s) (λ i. selected (cell_at s i))
  two_each S T in-s in-t inside i j k hi hj hk si sj sk c d =
      go (inside (cell_at s i) si) (inside (cell_at s j) sj) (inside (cell_at s k) sk)
    where
      go : S (cell_at s i) ⊎ T (cell_at s i) → S (cell_at s j) ⊎ T (cell_at s j) → S (cell_at s k) ⊎ T (cell_at s k)
          → (i ≡ j) ⊎ (j ≡ k) ⊎ (i ≡ k)
      go (inl x) (inl y) z = inl (in-s i j hi hj x y c)
      go (inr x) (inr y) z = inl (in-t i j hi hj x y c)
      go (inl x) (inr y) (inl z) = inr (inr (in-s i k hi hk x z (c ∙ d)))
      go (inl x) (inr y) (inr z) = inr (inl (in-t j k hj hk y z d))
      go (inr x) (inl y) (inl z) = inr (inl (in-s j k hj hk y z d))
      go (inr x) (inl y) (inr z) = inr (inr (in-t i k hi hk x z (c ∙ d)))
