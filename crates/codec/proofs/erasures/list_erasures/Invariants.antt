-- What the loop of `list_erasures` keeps.
use Prim.Native.Nat.{◌-◌, ◌≤◌}
use lib.ListN.{length}
use Rattle.lattice.specs.Class.{layout_of}
use Rattle.codec.specs.Field.{field_of}
use Rattle.codec.specs.Working.{ListsErasures}
use Rattle.codec.proofs.erasures.list_erasures.Given as goal

abbrev pub invariant-loop-i : goal.invariant-loop-i
invariant-loop-i l =
    (l.i ≤ length l.field) × ListsErasures (layout_of l.shape) (field_of l.field) l.i l.first l.second

abbrev pub decreases-loop-i : goal.decreases-loop-i
decreases-loop-i l = length l.field - l.i
