-- The place of a cell in a pass from the field's end, from the sizes of the classes and the counts of the cells behind it.
use Prim.Native.Nat.{ℕ, ◌+◌, ◌-◌, ◌<◌, ◌≤◌}
use mathlib.Core.List.{List}
use mathlib.Core.Path.{◌≡◌, sym, ap, ◌∙◌}
use native.Mathlib.Decide.{ℕ_discrete}
use native.Mathlib.Omega.{arith}
use lib.ListN.{get_or}
use Rattle.lattice.specs.declared.class.Placement.{Placement}
use Rattle.lattice.specs.declared.shape.Shape.{Shape}
use Rattle.lattice.specs.Shape.{max_classes, Accepted, cells_of}
use Rattle.lattice.specs.Cell.{cell_at}
use Rattle.lattice.specs.Class.{class_at, layout_of, placement_given, class_by}
use Rattle.lattice.specs.Position.{Layout, size_to, size}
use Rattle.lattice.specs.Sizes.{HoldsZeros, HoldsSizes, HoldsRest, EntryStored, AtCellBack, AtPlace}
use Rattle.lattice.proofs.theory.ClassAt.{at_class, at_below}
use Rattle.lattice.proofs.theory.Positions.{size_own, size_other, position_size}

-- behind the last cell there is none
pub rest_none : (s : Shape) (behind : List ℕ) (n : ℕ) → HoldsZeros behind → n ≡ cells_of s → HoldsRest (layout_of s) behind n
rest_none s behind n p e =
    record { at = λ a l. omega (arith, p.at a l, ap (size_to (layout_of s) a) e) }

-- one cell more adds 1 to the entry of its class
rest_more : (L : Layout) (xs ys : List ℕ) (n k : ℕ)
    → HoldsRest L xs (n + 1)
    → k ≡ L.class n
    → EntryStored xs ys k (get_or xs k 0 + 1)
    → HoldsRest L ys n
rest_more L xs ys n k rest own st = record { at = λ a l. go a l (ℕ_discrete a k) }
  where
    go : (a : ℕ) → a < max_classes → Dec (a ≡ k) → get_or ys a 0 + size_to L a n ≡ size L a
    go a l (yes e) =
        let here : get_or ys a 0 ≡ get_or xs a 0 + 1 =
        ap (λ (b : ℕ). get_or ys b 0) e ∙ st.own ∙ ap (λ (b : ℕ). get_or xs b 0 + 1) (sym e) in
        omega (arith, rest.at a l, size_own L a n (sym own ∙ sym e))
    go a l (no e) =
        omega (arith, st.others a e, rest.at a l, size_other L a n (λ (q : L.class n ≡ a). e (sym (own ∙ q))))

-- the last of the cells before cell i
pub back_cell : (s : Shape) (k : Placement) (sizes behind : List ℕ) (i : ℕ) → Accepted s → k ≡ placement_given s
    → HoldsSizes (layout_of s) sizes (cells_of s) → HoldsRest (layout_of s) behind i → 0 < i → i ≤ cells_of s
    → AtCellBack s k sizes behind (i - 1)
back_cell s k sizes behind i a e sized p some l =
    let whole : i - 1 + 1 ≡ i = omega arith in
    record { accepted = a; placement = e; below = omega arith; sized = sized; counted = rw whole p }

module _ (s : Shape) (k : Placement) (sizes behind : List ℕ) (i : ℕ) (at : AtCellBack s k sizes behind i)
    (a : ℕ) (e : a ≡ class_by k (cell_at s i)) where
  own : a ≡ class_at s i
  own = at_class s at.accepted k at.placement i a e

  pub back_below : a < max_classes
  back_below = at_below s at.accepted k at.placement i a e

  -- the cells of its class behind it are fewer than the class has
  pub back_some : get_or behind a 0 < get_or sizes a 0
  back_some =
      omega (arith, at.sized.at a back_below, at.counted.at a back_below, size_own (layout_of s) a i (sym own))

  -- the class and the position of the cell
  pub back_placed : (p : ℕ) → p ≡ get_or sizes a 0 - get_or behind a 0 → AtPlace s i a p
  back_placed p q =
      let here : p ≡ size_to (layout_of s) a (i + 1) = omega (arith, at.sized.at a back_below, at.counted.at a back_below) in
      record {
        class = own;
        below = back_below;
        position = here ∙ ap (λ (b : ℕ). size_to (layout_of s) b (i + 1)) own ∙ sym (position_size (layout_of s) i);
      }

  -- the counts with the cell
  pub back_counted : (after : List ℕ) → EntryStored behind after a (get_or behind a 0 + 1) → HoldsRest (layout_of s) after i
  back_counted after st = rest_more (layout_of s) behind after i a at.counted own st
