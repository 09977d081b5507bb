-- Windows and patches: the terms of the theorems.
use native.Mathlib.Nat.{le_trans}
use Rattle.lattice.specs.Window.{InWindow}
use Rattle.lattice.proofs.theorems.Windows.{window_labels_needed}
use Rattle.codec.specs.theorems.Windows.{WindowRecovery, PatchRecovery, WindowRefill, WindowClassesNeeded}
use Rattle.codec.proofs.theory.Accepted.{plan_classes_most}
use Rattle.codec.proofs.theory.ClusterCells.{one_of_window, one_of_patch, one_each, two_each}
use Rattle.codec.proofs.theorems.Erasures.{refill_by_class}
use Rattle.codec.proofs.theorems.Recovery.{recovery_by_class}

-- Theorem. The selected cells of one window lie in different classes, so what was written is recovered.
pub window_recovery : WindowRecovery
window_recovery s accepted z p F long bytes from r c selected inside buffer fits =
    recovery_by_class s accepted p F long bytes from selected
    (one_each s selected (InWindow s.window r c) (one_of_window s accepted z r c) inside) buffer fits

-- Theorem. So do those of one patch of at most t cells, where the window is t by t.
pub patch_recovery : PatchRecovery
patch_recovery s accepted z t square p F long bytes from S patch small selected inside buffer fits =
    recovery_by_class s accepted p F long bytes from selected
    (one_each s selected S (one_of_patch s accepted z t square S patch small) inside) buffer fits

-- Theorem. Of the cells of two windows at most two lie in each class, so what was written comes back where they are erased.
pub window_refill : WindowRefill
window_refill s accepted z p F long bytes from r c r' c' selected inside buffer fits =
    refill_by_class s accepted p F long bytes from selected
    (two_each s selected (InWindow s.window r c) (InWindow s.window r' c') (one_of_window s accepted z r c)
    (one_of_window s accepted z r' c') inside)
    buffer fits

-- Theorem. Every labelling with no label twice in any window that lies in the field has at least as many labels as the plan gives
-- classes.
pub window_classes_needed : WindowClassesNeeded
window_classes_needed s flat z high wide L separates =
    le_trans (plan_classes_most s) (window_labels_needed.own s flat z high wide L separates)
