-- The plan's figures: the term of the theorem.
use Prim.Native.Nat.{ℕ, ◌/◌}
use mathlib.Core.Path.{sym, ap, ◌∙◌}
use Rattle.lattice.specs.Check.{capacity}
use Rattle.lattice.specs.Class.{layout_of}
use Rattle.lattice.specs.Digits.{words_in, words_below, digits_below}
use Rattle.lattice.proofs.theory.Answers.{beside_zero}
use Rattle.lattice.proofs.theorems.Labels.{bound_attained}
use Rattle.lattice.proofs.theorems.Windows.{window_bound_attained}
use Rattle.lattice.proofs.theorems.Used.{used_in_field}
use Rattle.codec.specs.Plan.{plan_number, plan_classes, plan_capacity, plan_bytes, plan_used}
use Rattle.codec.specs.theorems.Plan.{PlanMeaning}
use Rattle.codec.proofs.theory.Accepted.{figure_mono, plan_cells_lem, plan_classes_lem, plan_used_lem, plan_digits_lem}

-- Theorem. The plan's figures are those of the shape, and the lower bound on labels is attained at its classes, all of which hold
-- a cell there.
pub plan_meaning : PlanMeaning
unfolding plan_classes plan_capacity plan_bytes plan_used capacity words_in words_below digits_below
plan_meaning =
    record {
      classes = plan_classes_lem;
      capacity = λ s a. beside_zero (plan_number s) (capacity (layout_of s)) 0 a;
      bytes = λ s a. ap (λ (k : ℕ). k / 8) (beside_zero (plan_number s) (capacity (layout_of s)) 0 a);
      cells = plan_cells_lem;
      used = λ s a. plan_used_lem s a ∙ used_in_field.labels s a;
      used_most = λ s. figure_mono (plan_number s) (used_in_field.most s);
      digits = plan_digits_lem;
      attained = λ s a flat some wide high. bound_attained s a flat some wide high ∙ sym (plan_classes_lem s a);
      window_attained = λ s a z high wide. window_bound_attained s a z high wide ∙ sym (plan_classes_lem s a);
      all_used = λ s a flat some wide high. plan_used_lem s a ∙ used_in_field.all s a flat some wide high
          ∙ sym (plan_classes_lem s a);
      window_all_used = λ s a z high wide. plan_used_lem s a ∙ used_in_field.window_all s a z high wide
          ∙ sym (plan_classes_lem s a);
    }
