-- Demand 3: the terms of the theorems.
use Prim.Native.Nat.{ℕ}
use mathlib.Core.Bool.{Bool}
use mathlib.Core.List.{List}
use mathlib.Core.Path.{refl, sym}
use native.Mathlib.Nat.{le_trans}
use Rattle.lattice.specs.Shape.{cells_of}
use Rattle.lattice.specs.Cell.{cell_at}
use Rattle.lattice.specs.Class.{layout_of}
use Rattle.lattice.proofs.theorems.Labels.{labels_needed}
use Rattle.codec.specs.Field.{field_of, Same}
use Rattle.codec.specs.Damage.{damaged, damaged_field}
use Rattle.codec.specs.Code.{tags_at}
use Rattle.codec.specs.theorems.Recovery.{RecoveryByClass, Recovery, ClassesNeeded}
use Rattle.codec.proofs.theory.Accepted.{plan_classes_most}
use Rattle.codec.proofs.theory.ClusterCells.{one_of_cluster, one_each}
use Rattle.codec.proofs.theory.Damage.{damaged_cells, damaged_nearest}
use Rattle.codec.proofs.theory.FieldLists.{length_list_of, get_d_list_of, cells_same}
use Rattle.codec.proofs.theory.NearestField.{nearest_same}
use Rattle.codec.proofs.theory.ReadFields.{cells_readable}
use Rattle.codec.proofs.theory.RecoveredField.{recovered}
use Rattle.codec.proofs.theory.WrittenFields.{Written, written}

-- Theorem. Recovery for any selection with at most one cell in each class: the field written is the nearest to the damaged one.
pub recovery_by_class : RecoveryByClass
recovery_by_class s accepted p F long bytes from selected one buffer fits =
    recovered s accepted p F long bytes own G
    (cells_readable s G accepted (length_list_of (damaged (field_of F) chosen) (cells_of s))
    (cells_same (damaged (field_of F) chosen) (field_of G) (cells_of s) same
    (damaged_cells (field_of F) chosen (cells_of s) own.lawful.cells)))
    (nearest_same (layout_of s) (tags_at s) (damaged (field_of F) chosen) (field_of G) (field_of F) (field_of F) same
    (λ i h. refl)
    (damaged_nearest (layout_of s) (tags_at s) (field_of F) chosen one own.lawful))
    buffer fits
  where
    own : Written s p F
    own = written s p F from

    G : List ℕ
    G = damaged_field s F selected

    chosen : ℕ → Bool
    chosen i = selected (cell_at s i)

    -- G holds F with the selected cells flipped
    same : Same (damaged (field_of F) chosen) (field_of G) (cells_of s)
    same i h = sym (get_d_list_of (damaged (field_of F) chosen) (cells_of s) i h)

-- Theorem (demand 3). The selected cells of one cluster of at most t cells lie in different classes, so what was written is
-- recovered.
pub recovery : Recovery
recovery s accepted p F long bytes from S cluster small selected inside buffer fits =
    recovery_by_class s accepted p F long bytes from selected
    (one_each s selected S (one_of_cluster s accepted S cluster small) inside) buffer fits

-- Theorem (demand 3). Every labelling in which no cluster of at most t cells has one label twice has at least as many labels as
-- the plan gives classes.
pub classes_needed : ClassesNeeded
classes_needed s flat some wide high L separates =
    le_trans (plan_classes_most s) (labels_needed s flat some wide high L separates)
