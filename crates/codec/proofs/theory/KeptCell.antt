-- An erased cell is kept where it is to be 1.
use Prim.Native.Nat.{ℕ}
use mathlib.Core.Bool.{Bool, true, false, cond, ◌||◌}
use mathlib.Core.Logic.{◌≢◌}
use mathlib.Core.Path.{◌≡◌, refl}
use lib.Dec.{eqb}
use borrow.Author.Tests.{eq-eqb, ne_eqb}
use Rattle.lattice.specs.Listing.{no_cell}
use Rattle.lattice.proofs.theory.Bools.{or_true_right}
use Rattle.codec.specs.Working.{kept_cell}

module _ (s sum c u : ℕ) where
  pub kept_all : s ≡ sum → kept_cell s sum c u ≡ u
  unfolding kept_cell
  kept_all e = rw (eq-eqb s sum e)

  pub kept_tagged : c ≡ u → kept_cell s sum c u ≡ u
  unfolding kept_cell
  kept_tagged e = rw (or_true_right (eqb s sum) (eqb c u) (eq-eqb c u e))

  pub kept_neither : s ≢ sum → c ≢ u → kept_cell s sum c u ≡ no_cell
  unfolding kept_cell
  kept_neither d e = rw (ne_eqb s sum d, ne_eqb c u e)

  -- no other cell is kept in its place
  pub kept_own : (i : ℕ) → no_cell ≢ i → kept_cell s sum c u ≡ i → u ≡ i
  unfolding kept_cell
  kept_own i d e = go (eqb s sum || eqb c u) e
    where
      go : (b : Bool) → cond b u no_cell ≡ i → u ≡ i
      go true h = h
      go false h = absurd (d h)

-- where there is none, none is kept
pub kept_nothing : (s sum c : ℕ) → kept_cell s sum c no_cell ≡ no_cell
unfolding kept_cell
kept_nothing s sum c = go (eqb s sum || eqb c no_cell)
  where
    go : (b : Bool) → cond b no_cell no_cell ≡ no_cell
    go true = refl
    go false = refl
