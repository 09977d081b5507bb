-- A table of the sizes of the classes, kept cell by cell.
use Prim.Native.Nat.{ℕ, ◌+◌, ◌<◌, ◌≤◌}
use mathlib.Core.List.{List}
use mathlib.Core.Path.{◌≡◌, sym, ap, ◌∙◌}
use native.Mathlib.Decide.{ℕ_discrete}
use lib.ListN.{get_or}
use Rattle.lattice.specs.Shape.{max_classes}
use Rattle.lattice.specs.Position.{Layout, size_to}
use Rattle.lattice.specs.Sizes.{HoldsSizes}
use Rattle.lattice.proofs.theory.Positions.{size_own, size_other, size_most}

-- one cell more adds 1 to the entry of its class
module _ (L : Layout) (xs ys : List ℕ) (n k : ℕ) (before : HoldsSizes L xs n) (own : k ≡ L.class n) where
  pub sizes_more : get_or ys k 0 ≡ get_or xs k 0 + 1 → ((a : ℕ) → (a ≡ k → ⊥) → get_or ys a 0 ≡ get_or xs a 0)
      → HoldsSizes L ys (n + 1)
  sizes_more one others = record { at = λ a l. go a l (ℕ_discrete a k) }
    where
      go : (a : ℕ) → a < max_classes → Dec (a ≡ k) → get_or ys a 0 ≡ size_to L a (n + 1)
      go a l (yes e) =
          ap (λ (b : ℕ). get_or ys b 0) e
          ∙ one
          ∙ ap (λ (b : ℕ). get_or xs b 0 + 1) (sym e)
          ∙ ap (λ (b : ℕ). b + 1) (before.at a l)
          ∙ sym (size_own L a n (sym own ∙ sym e))
      go a l (no e) = others a e ∙ before.at a l ∙ sym (size_other L a n (λ (q : L.class n ≡ a). e (sym (own ∙ q))))

-- an entry is at most the number of cells
pub sizes_most : (L : Layout) (xs : List ℕ) (n a : ℕ) → HoldsSizes L xs n → a < max_classes → get_or xs a 0 ≤ n
sizes_most L xs n a p l = rw (p.at a l) (size_most L a n)
