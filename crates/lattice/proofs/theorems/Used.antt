-- The classes that hold at least one cell: the terms of the theorems.
use mathlib.Core.Path.{◌≡◌, ◌∙◌}
use Rattle.lattice.specs.declared.shape.Shape.{Shape}
use Rattle.lattice.specs.Shape.{Accepted}
use Rattle.lattice.specs.Cell.{cell_at}
use Rattle.lattice.specs.Labelling.{labels}
use Rattle.lattice.specs.Class.{classes_of, class_of, layout_of}
use Rattle.lattice.specs.Used.{used_of}
use Rattle.lattice.specs.theorems.Used.{UsedInLayout, UsedInField}
use Rattle.lattice.proofs.theory.ClassBelow.{class_below}
use Rattle.lattice.proofs.theory.UsedClasses.{used_values, used_most}
use Rattle.lattice.proofs.theorems.Labels.{bound_attained}
use Rattle.lattice.proofs.theorems.Windows.{window_bound_attained}

-- Theorem. The classes that hold at least one cell are as many as the different classes of the cells.
pub used_in_layout : UsedInLayout
used_in_layout = used_values

-- of a field: as many as the labels that the class of a cell uses
used_labels : (s : Shape) → Accepted s → used_of s ≡ labels s (class_of s)
unfolding labels
used_labels s a = used_values (layout_of s) (classes_of s) (λ i l. class_below s a (cell_at s i))

-- Theorem. They are as many as the labels that the class of a cell uses, at most m, and m on a field that is large enough.
pub used_in_field : UsedInField
used_in_field =
    record {
      labels = used_labels;
      most = λ s. used_most (layout_of s) (classes_of s);
      all = λ s a flat some wide high. used_labels s a ∙ bound_attained s a flat some wide high;
      window_all = λ s a z high wide. used_labels s a ∙ window_bound_attained s a z high wide;
    }
