-- One more cell of a pass that counts the cells and lists those that hold a check.
use Prim.Native.Nat.{ℕ, ◌+◌, ◌-◌, ◌*◌, ◌<◌, ◌≤◌}
use mathlib.Core.Bool.{true, false, not}
use mathlib.Core.List.{List}
use mathlib.Core.Path.{◌≡◌, sym, ap, ap₂, ◌∙◌}
use native.Mathlib.Omega.{arith}
use lib.ListN.{get_or}
use Rattle.lattice.specs.Shape.{max_classes}
use Rattle.lattice.specs.Position.{Layout, size_to, position}
use Rattle.lattice.specs.Check.{is_check, checks, holds_data}
use Rattle.lattice.specs.Listing.{max_checks, checks_to, place_of}
use Rattle.passes.specs.CheckList.{ListedTo, PutLast}
use Rattle.lattice.specs.Sizes.{HoldsSizes, EntryStored}
use Rattle.passes.proofs.check_cells.Listed.{listed_free, listed_check, places_check}
use Rattle.lattice.proofs.theory.Runs.{checks_check}
use Rattle.lattice.proofs.theory.Sizes.{sizes_more}

-- cell n, of class a, gets the position p
module _ (L : Layout) (n amount a p : ℕ) (sizes counts cells places counts' : List ℕ) (own : L.class n ≡ a)
    (small : a < max_classes) (before : ListedTo L n amount sizes counts cells places) (next : p ≡ get_or counts a 0 + 1)
    (stored : EntryStored counts counts' a p) where
  -- the counts after the cell, its position, and the test of its check
  counted : HoldsSizes L counts' (n + 1)
  counted =
      sizes_more L counts counts' n a before.counted (sym own) (stored.own ∙ next) stored.others

  position_is : position L n ≡ p
  unfolding position
  position_is = omega (arith, ap (λ (b : ℕ). size_to L b n) own, before.counted.at a small)

  tested : HoldsSizes L sizes L.cells → holds_data L n ≡ not (is_check (get_or sizes a 0) p)
  unfolding holds_data
  tested right =
      ap₂ (λ (k q : ℕ). not (is_check k q)) (ap (λ (b : ℕ). size_to L b L.cells) own ∙ sym (right.at a small)) position_is

  -- a cell with no check is counted
  pub step_free : is_check (get_or sizes a 0) p ≡ false → ListedTo L (n + 1) amount sizes counts' cells places
  step_free e =
      record {
        few = before.few;
        counted = counted;
        listed = λ right. listed_free L n amount cells (before.listed right) (tested right ∙ ap not e);
        placed = before.placed;
      }

  -- a cell with a check is put at the end of the list
  module _ (e : is_check (get_or sizes a 0) p ≡ true) (few : checks_to L (n + 1) ≤ max_checks) (r place : ℕ)
      (cells' places' : List ℕ)
      (within : amount ≤ max_checks → r ≤ max_checks) (number : place ≡ a * 32 + (checks p - 1))
      (put : amount < max_checks → PutLast amount r n place cells places cells' places') where
    check : HoldsSizes L sizes L.cells → holds_data L n ≡ false
    check right = tested right ∙ ap not e

    room : HoldsSizes L sizes L.cells → amount < max_checks
    room right = omega (arith, few, checks_check L n (check right), (before.listed right).all)

    place_is : place ≡ place_of L n
    place_is = number ∙ ap₂ (λ (b q : ℕ). b * 32 + (checks q - 1)) (sym own) (sym position_is)

    pub step_check : ListedTo L (n + 1) r sizes counts' cells' places'
    step_check =
        record {
          few = within before.few;
          counted = counted;
          listed = λ right.
              listed_check L n amount cells (before.listed right) r place places cells' places' (check right) (put (room right));
          placed = λ right.
              places_check L n amount r place cells places cells' places' (before.placed right) (put (room right)) place_is;
        }
