-- The one change of a cell that can have left a remainder, tried.
use Prim.Native.Nat.{ℕ, ◌+◌, ◌*◌, ◌%◌, ◌<◌}
use mathlib.Core.Bool.{Bool, true, false}
use mathlib.Core.Logic.{◌≢◌}
use mathlib.Core.Path.{◌≡◌, refl, sym, ap, ◌∙◌}
use native.Mathlib.Decide.{ℕ_discrete}
use native.Mathlib.Omega.{arith}
use lib.Dec.{eqb}
use borrow.Author.Tests.{eqb-true, eqb-false}
use Rattle.lattice.specs.Counting.{all_below}
use Rattle.codec.proofs.theory.AllBelow.{below_all}
use Rattle.levels.specs.declared.faults.Fault.{Fault}
use Rattle.levels.specs.Faults.{multiplier, fault, none, effect, fault_of, change}
use Rattle.levels.specs.Working.{only_change}
use Rattle.levels.proofs.theory.FaultLaws.{found_fault, leaves_found, change_here, change_other}

-- the one change that can have left a remainder, with 1 added, is below 5
pub only_below : (m r : ℕ) → only_change m r < 5
unfolding only_change
only_below m r = omega arith

-- a change is told by what it leaves: the test of the six cells and the changes of each
told_at : ℕ → ℕ → Bool
told_at k u = eqb (only_change (multiplier k) (effect k u)) u

told_test : all_below (λ k. all_below (told_at k) 5) 6 ≡ true
unfolding told_at only_change effect multiplier
told_test = refl

told : (k u : ℕ) → k < 6 → u < 5 → only_change (multiplier k) (effect k u) ≡ u
unfolding told_at
told k u h l = eqb-true _ u (below_all (told_at k) 5 (below_all (λ j. all_below (told_at j) 5) 6 told_test k h) u l)

-- a cell that is not changed leaves 0
effect_none : (k : ℕ) → effect k 1 ≡ 0
unfolding effect
effect_none k = omega arith

module _ (r k : ℕ) (p : 0 < r) (l : r < 25) (h : k < 6) where
  -- the change that is tried, and what it leaves
  module _ (m u : ℕ) (e : m ≡ multiplier k) (is : u ≡ only_change m r) (b : Bool) (q : b ≡ eqb (m * (u + 24) % 25) r) where
    product_effect : m * (u + 24) % 25 ≡ effect k u
    unfolding effect
    product_effect = ap (λ (j : ℕ). j * (u + 24) % 25) e

    leaves : b ≡ true → effect k u ≡ r
    leaves t = sym product_effect ∙ eqb-true _ r (sym q ∙ t)

    -- where it leaves r, it is the fault found
    pub trial_found : b ≡ true → fault_of r ≡ fault k u
    trial_found t =
        let some : u ≢ 1 = λ z. omega (arith, leaves t, effect_none k, ap (effect k) z) in
        leaves_found r l k u (record { cell = h; low = rw is (only_below m r); some = some }) (leaves t)

    -- else the fault found is of another cell
    pub found_elsewhere : b ≡ false → (fault_of r).cell ≢ k
    found_elsewhere f z =
        let found = found_fault r l (λ y. omega arith) in
        let v : ℕ = (fault_of r).up in
        let v-leaves : effect k v ≡ r = ap (λ (j : ℕ). effect j v) (sym z) ∙ found.1 in
        let same : u ≡ v =
        is ∙ ap (λ (j : ℕ). only_change j r) e ∙ ap (only_change (multiplier k)) (sym v-leaves) ∙ told k v h found.0.low in
        eqb-false _ r (sym q ∙ f) (product_effect ∙ ap (effect k) same ∙ v-leaves)

-- the change in the cell, by the fault that is given for it
module _ (r k : ℕ) (x : Fault)
    (here : (fault_of r).cell ≡ k → x ≡ fault_of r) (other : (fault_of r).cell ≢ k → x ≡ none) where
  pub change_tried : x.up ≡ change r k
  change_tried = go (ℕ_discrete (fault_of r).cell k)
    where
      go : Dec ((fault_of r).cell ≡ k) → x.up ≡ change r k
      go (yes e) = ap (λ (y : Fault). y.up) (here e) ∙ sym (change_here r k e)
      go (no d) = ap (λ (y : Fault). y.up) (other d) ∙ sym (change_other r k d)
