-- `varmintfoil_plan` meets its contract: its figures are those of the answer.
use mathlib.Core.Path.{ap, ◌∙◌}
use Rattle.codec.specs.declared.plan.FieldPlan.{FieldPlan}
use Rattle.varmintfoil.proofs.varmintfoil_plan.Goals as goal

pub returns : goal.returns
returns c =
    let answer = c.plan_of-answer.ensures in
    let figures = c.figures-figures.ensures in
    record {
      number = c.number.ensures ∙ answer.number;
      classes = ap (λ (p : FieldPlan). p.classes) figures ∙ answer.classes;
      capacity = ap (λ (p : FieldPlan). p.capacity) figures ∙ answer.capacity;
      bytes = ap (λ (p : FieldPlan). p.bytes) figures ∙ answer.bytes;
      cells = ap (λ (p : FieldPlan). p.cells) figures ∙ answer.cells;
      used = ap (λ (p : FieldPlan). p.used) figures ∙ answer.used;
      digits = ap (λ (p : FieldPlan). p.digits) figures ∙ answer.digits;
    }
