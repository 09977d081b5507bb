-- The faults of a word: one for each remainder from 1 to 24, which is the first that leaves it; and the change of a cell.
use Prim.Native.Nat.{ℕ, ◌+◌, ◌*◌, ◌<◌}
use mathlib.Core.Bool.{Bool, true, false, cond, not, ◌&&◌, ◌||◌, false≢true}
use mathlib.Core.Logic.{◌≢◌}
use mathlib.Core.Path.{◌≡◌, refl, sym, ap, ap₂, ◌∙◌}
use native.Mathlib.Decide.{ℕ_discrete}
use native.Mathlib.Nat.{mod-lt}
use native.Mathlib.Omega.{arith}
use lib.Dec.{eqb, ltb, lit<}
use borrow.Author.Tests.{eq-eqb, ne_eqb, eqb-true, ltb-true}
use Rattle.lattice.specs.Counting.{all_below}
use Rattle.lattice.proofs.theory.Bools.{and_left, and_right}
use Rattle.codec.proofs.theory.AllBelow.{below_all}
use Rattle.levels.specs.declared.faults.Fault.{Fault}
use Rattle.levels.specs.Faults.{multiplier, fault, IsFault, effect, faults, fault_of, change}

same : Bool → Bool → Bool
same a b = cond a b (not b)

same_there : (a b : Bool) → same a b ≡ true → a ≡ true → b ≡ true
unfolding same
same_there true b e p = e
same_there false b e p = absurd (false≢true p)

same_back : (a b : Bool) → same a b ≡ true → b ≡ true → a ≡ true
unfolding same
same_back true b e p = refl
same_back false true e p = e
same_back false false e p = p

-- the test of a fault found for r: a fault of a word, and none at 0 alone; and it is (k, u) exactly where (k, u) leaves r
is_found : Fault → ℕ → ℕ → Bool
is_found x k u = eqb x.cell k && eqb x.up u

rule_at : Fault → ℕ → ℕ → ℕ → Bool
rule_at x r k u = eqb u 1 || same (eqb (effect k u) r) (is_found x k u)

well_at : Fault → ℕ → Bool
well_at x r = ltb x.cell 6 && (ltb x.up 5 && same (eqb x.up 1) (eqb r 0))

rules_at : ℕ → Bool
rules_at r = all_below (λ k. all_below (rule_at (fault_of r) r k) 5) 6

test_at : ℕ → Bool
test_at r = well_at (fault_of r) r && rules_at r

-- the one test of the 25 remainders and 24 faults
fault_test : all_below test_at 25 ≡ true
unfolding test_at rules_at well_at rule_at is_found same fault_of faults effect multiplier
fault_test = refl

module _ (r : ℕ) (l : r < 25) where
  tested : test_at r ≡ true
  tested = below_all test_at 25 fault_test r l

  well : well_at (fault_of r) r ≡ true
  unfolding test_at
  well = and_left (well_at (fault_of r) r) _ tested

  -- the parts of what is found
  found_cell : (fault_of r).cell < 6
  unfolding well_at
  found_cell = ltb-true _ 6 (and_left (ltb (fault_of r).cell 6) _ well)

  found_up : (fault_of r).up < 5
  unfolding well_at
  found_up = ltb-true _ 5 (and_left (ltb (fault_of r).up 5) _ (and_right (ltb (fault_of r).cell 6) _ well))

  none_alone : same (eqb (fault_of r).up 1) (eqb r 0) ≡ true
  unfolding well_at
  none_alone = and_right (ltb (fault_of r).up 5) _ (and_right (ltb (fault_of r).cell 6) _ well)

  found_none : (fault_of r).up ≡ 1 → r ≡ 0
  found_none e =
      eqb-true r 0
      (same_there (eqb (fault_of r).up 1) (eqb r 0) none_alone (eq-eqb _ 1 e))

  none_found : r ≡ 0 → (fault_of r).up ≡ 1
  none_found e =
      eqb-true _ 1
      (same_back (eqb (fault_of r).up 1) (eqb r 0) none_alone (eq-eqb r 0 e))

  module _ (k u : ℕ) (is : IsFault k u) where
    rule : same (eqb (effect k u) r) (is_found (fault_of r) k u) ≡ true
    unfolding test_at rules_at rule_at
    rule =
        let rules : rules_at r ≡ true = and_right (well_at (fault_of r) r) _ tested in
        let t : rule_at (fault_of r) r k u ≡ true =
        below_all (rule_at (fault_of r) r k) 5
        (below_all (λ j. all_below (rule_at (fault_of r) r j) 5) 6 rules k is.cell) u is.low in
        rw (ne_eqb u 1 is.some) at t

    -- the fault that leaves r is found
    pub leaves_found : effect k u ≡ r → fault_of r ≡ fault k u
    unfolding is_found
    leaves_found e =
        let t : is_found (fault_of r) k u ≡ true = same_there _ (is_found (fault_of r) k u) rule (eq-eqb _ r e) in
        ap₂ fault (eqb-true _ k (and_left _ _ t)) (eqb-true _ u (and_right (eqb (fault_of r).cell k) _ t))

    -- and what is found leaves r
    found_leaves : (fault_of r).cell ≡ k → (fault_of r).up ≡ u → effect k u ≡ r
    unfolding is_found
    found_leaves p q = eqb-true _ r (same_back _ (is_found (fault_of r) k u) rule (rw (eq-eqb _ k p, eq-eqb _ u q)))

-- a remainder is below 25
pub effect_below : (k u : ℕ) → effect k u < 25
unfolding effect
effect_below k u = mod-lt (multiplier k * (u + 24)) (lit< tt)

found_is : (r : ℕ) → r < 25 → r ≢ 0 → IsFault (fault_of r).cell (fault_of r).up
found_is r l d = record { cell = found_cell r l; low = found_up r l; some = λ e. d (found_none r l e) }

-- what is found for a remainder from 1 to 24 leaves it, and no fault leaves 0
pub found_fault : (r : ℕ) → r < 25 → r ≢ 0
    → IsFault (fault_of r).cell (fault_of r).up × (effect (fault_of r).cell (fault_of r).up ≡ r)
found_fault r l d = (found_is r l d, found_leaves r l _ _ (found_is r l d) refl refl)

pub none_leaves : (k u : ℕ) → IsFault k u → effect k u ≢ 0
none_leaves k u is e =
    is.some (sym (ap (λ (x : Fault). x.up) (leaves_found 0 (lit< tt) k u is e)) ∙ none_found 0 (lit< tt) refl)

-- the change in cell k of a word with the remainder r
module _ (r k : ℕ) where
  pub change_here : (fault_of r).cell ≡ k → change r k ≡ (fault_of r).up
  unfolding change
  change_here e = rw (eq-eqb _ k e)

  pub change_other : (fault_of r).cell ≢ k → change r k ≡ 1
  unfolding change
  change_other e = rw (ne_eqb _ k e)

-- and in its cells
module _ (r : ℕ) (l : r < 25) where
  -- a cell that is changed is the one of the fault
  changed_cell : (k : ℕ) → change r k ≢ 1 → (fault_of r).cell ≡ k
  changed_cell k d = go (ℕ_discrete (fault_of r).cell k)
    where
      go : Dec ((fault_of r).cell ≡ k) → (fault_of r).cell ≡ k
      go (yes e) = e
      go (no e) = absurd (d (change_other r k e))

  -- so two cells that are changed are one
  pub changed_one : (j k : ℕ) → change r j ≢ 1 → change r k ≢ 1 → j ≡ k
  changed_one j k p q = sym (changed_cell j p) ∙ changed_cell k q

  pub change_below : (k : ℕ) → change r k < 5
  change_below k = go (ℕ_discrete (fault_of r).cell k)
    where
      go : Dec ((fault_of r).cell ≡ k) → change r k < 5
      go (yes e) = omega (arith, change_here r k e, found_up r l)
      go (no e) = omega (arith, change_other r k e)

  -- the change found leaves r
  pub changed_leaves : (k : ℕ) → change r k ≢ 1 → effect k (change r k) ≡ r
  changed_leaves k d =
      let p : (fault_of r).cell ≡ k = changed_cell k d in
      let q : change r k ≡ (fault_of r).up = change_here r k p in
      found_leaves r l k (change r k)
      (record { cell = rw (← p) (found_cell r l); low = change_below k; some = d }) p (sym q)

  -- a word whose remainder is not 0 is changed in a cell
  pub change_some : r ≢ 0 → (k : ℕ) × (k < 6) × (change r k ≢ 1)
  change_some d =
      ((fault_of r).cell, found_cell r l, λ e. d (found_none r l (sym (change_here r (fault_of r).cell refl) ∙ e)))

-- a lawful word is changed in no cell
pub change_none : (k : ℕ) → change 0 k ≡ 1
change_none k = go (ℕ_discrete (change 0 k) 1)
  where
    go : Dec (change 0 k ≡ 1) → change 0 k ≡ 1
    go (yes e) = e
    go (no d) = absurd (d (change_here 0 k (changed_cell 0 (lit< tt) k d) ∙ none_found 0 (lit< tt) refl))

-- the change that leaves r is found
pub leaves_changed : (r k u : ℕ) → IsFault k u → effect k u ≡ r → change r k ≡ u
leaves_changed r k u is e =
    let l : r < 25 = rw (← e) (effect_below k u) in
    let t : fault_of r ≡ fault k u = leaves_found r l k u is e in
    change_here r k (ap (λ (x : Fault). x.cell) t) ∙ ap (λ (x : Fault). x.up) t

-- the multipliers are below 22
multiplier_test : all_below (λ k. ltb (multiplier k) 22) 6 ≡ true
unfolding multiplier
multiplier_test = refl

pub multiplier_small : (k : ℕ) → k < 6 → multiplier k < 22
multiplier_small k l = ltb-true (multiplier k) 22 (below_all (λ j. ltb (multiplier j) 22) 6 multiplier_test k l)
