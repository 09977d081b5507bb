-- `fault_in` meets its contract.
use mathlib.Core.Path.{refl, sym, ap}
use Rattle.levels.specs.declared.faults.Fault.{Fault}
use Rattle.levels.proofs.faults.Trials.{only_below, trial_found, found_elsewhere}
use Rattle.levels.proofs.faults.fault_in.Goals as goal

pub leaves-requires : goal.leaves-requires
leaves-requires c =
    record {
      factor_bound = c.multiplier-factor.ensures.upper_bound;
      up_bound = rw c.only_change-up.ensures (only_below _ _);
      remainder_bound = c.requires.remainder_nonzero.1;
    }

pub returns-then-leaves : goal.returns-then-leaves
returns-then-leaves c =
    let pre = c.requires in
    let found =
    trial_found _ _ pre.remainder_nonzero.0 pre.remainder_nonzero.1 pre.cell_bound _ _ c.multiplier-factor.ensures.value
    c.only_change-up.ensures _
    c.leaves.ensures c.if-leaves.true in
    record {
      value = λ e. sym found;
      value_2 = λ d. absurd (d (ap (λ (x : Fault). x.cell) found));
    }

pub returns-else-leaves : goal.returns-else-leaves
returns-else-leaves c =
    let pre = c.requires in
    let other =
    found_elsewhere _ _ pre.remainder_nonzero.0 pre.remainder_nonzero.1 pre.cell_bound _ _ c.multiplier-factor.ensures.value
    c.only_change-up.ensures _
    c.leaves.ensures c.if-leaves.false in
    record {
      value = λ e. absurd (other e);
      value_2 = λ d. refl;
    }
