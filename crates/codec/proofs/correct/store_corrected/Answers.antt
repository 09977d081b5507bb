-- `store_corrected` meets its contract: 0 in each erased cell, then the cells flipped.
use mathlib.Core.Path.{ap, ◌∙◌}
use native.Mathlib.Omega.{arith}
use Prim.Native.Nat.{ℕ, ◌+◌}
use Rattle.lattice.specs.Class.{classes_of}
use Rattle.lattice.specs.Counting.{count}
use Rattle.lattice.specs.Shape.{cells_of}
use Rattle.lattice.proofs.theory.Counting.{count_most}
use Rattle.lattice.proofs.theory.Limits.{legal}
use Rattle.codec.specs.Erasure.{is_erased}
use Rattle.codec.specs.Field.{field_of}
use Rattle.codec.specs.Working.{names}
use Rattle.codec.proofs.theory.CorrectedField.{located_corrects}
use Rattle.codec.proofs.theory.FieldLists.{list_field}
use Rattle.codec.proofs.correct.store_corrected.Goals as goal

pub count_changed-requires : goal.count_changed-requires
count_changed-requires c =
    let ok = c.requires.readable.accepted in
    let shape = c.args.shape in (
      ok,
      omega (
        arith,
        c.requires.erased_value,
        count_most (is_erased (field_of c.args.field.now)) (cells_of shape),
        (legal shape ok).product,
      ),
    )

pub returns : goal.returns
returns c =
    let long = c.requires.readable.long in
    let located = c.requires.located in
    let named : ℕ = count (names c.args.damaged.now) (classes_of c.args.shape) in
    let cleared-long = c.clear_erased.auto.field ∙ long in
    record {
      field_after = list_field _ _ _ (c.flip_located.auto.field ∙ cleared-long)
          (λ i l. c.flip_located.ensures i l
          ∙ located_corrects _ c.args.field.now _ _ _ located _
          (λ j k. c.clear_erased.ensures j (rw long k)) i l);
      value = c.count_changed.ensures ∙ ap (λ (n : ℕ). named + n) c.requires.erased_value ∙ located.counted;
    }
