-- The plan's answer to a shape that is refused: every figure is 0.
use Prim.Native.Nat.{ℕ, ◌/◌}
use mathlib.Core.Path.{◌≡◌, sym, ap, ◌∙◌}
use native.Mathlib.Nat.{zero-div}
use Rattle.std.specs.Prelude.{Err}
use Rattle.lattice.specs.declared.refusal.Refusal.{Refusal}
use Rattle.lattice.specs.declared.shape.Shape.{Shape}
use Rattle.lattice.specs.Refusal.{refusal_number}
use Rattle.lattice.proofs.theory.Answers.{refused}
use Rattle.codec.specs.Plan.{plan_number, plan_classes, plan_capacity, plan_bytes, plan_cells, plan_used, plan_digits}
use Rattle.codec.specs.Answer.{IsPlan}

pub plan_refused_lem : (s : Shape) (why : Refusal) → refusal_number why ≡ plan_number s → IsPlan s (Err why)
unfolding plan_classes plan_capacity plan_bytes plan_cells plan_used plan_digits
plan_refused_lem s why e =
    record {
      number = e;
      classes = refused why _ _ _ e;
      capacity = refused why _ _ _ e;
      bytes = sym (zero-div 8) ∙ ap (λ (k : ℕ). k / 8) (refused why _ _ _ e);
      cells = refused why _ _ _ e;
      used = refused why _ _ _ e;
      digits = refused why _ _ _ e;
    }
