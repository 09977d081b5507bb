-- `plan` meets its contract: a refusal settles the answer, and else the figures are counted from the sizes of the classes.
use Prim.Native.Nat.{ℕ, ◌/◌, ◌≤◌}
use mathlib.Core.Path.{ap, ◌∙◌}
use Rattle.lattice.specs.Shape.{max_classes}
use Rattle.lattice.proofs.theory.Answers.{handed_on}
use Rattle.lattice.proofs.theory.CapacityGiven.{classes_given, capacity_given}
use Rattle.lattice.proofs.theory.UsedClasses.{used_given}
use Rattle.lattice.proofs.theory.DigitsGiven.{digits_given}
use Rattle.codec.specs.Plan.{plan_classes, plan_capacity, plan_bytes, plan_cells, plan_used, plan_digits}
use Rattle.codec.proofs.theory.PlanRefusal.{plan_refused_lem}
use Rattle.codec.proofs.plan.plan.Goals as goal

pub returns-in_err-tests : goal.returns-in_err-tests
returns-in_err-tests c =
    rw (handed_on c.from_residual.ensures.1) (plan_refused_lem _ c.in_err-tests.field-0.0 c.in_err-tests.ensures)

pub returns : goal.returns
unfolding plan_classes plan_capacity plan_bytes plan_cells plan_used plan_digits
returns c =
    let own = c.classes-classes.ensures in
    let few : c.classes-classes.result ≤ max_classes = rw own (classes_given _) in
    let capacity = c.data_in-capacity.ensures few ∙ capacity_given _ _ _ c.class_sizes.ensures.holds_sizes own in
    record {
      number = c.in_ok-tests.ensures;
      classes = own;
      capacity = capacity;
      bytes = ap (λ (k : ℕ). k / 8) capacity;
      cells = c.cells-cells.ensures;
      used = c.used_in-used.ensures few ∙ used_given _ _ _ c.class_sizes.ensures.holds_sizes own;
      digits = c.digits_in-digits.ensures few ∙ digits_given _ _ _ c.class_sizes.ensures.holds_sizes own;
    }
