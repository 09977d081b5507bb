-- What the loop of `padded_with` keeps.
use Rattle.lattice.specs.Class.{layout_of}
use Rattle.codec.specs.Decode.{corrected_field}
use Rattle.codec.specs.Field.{field_of}
use Rattle.codec.specs.Working.{padding_of}
use Rattle.lattice.specs.Sizes.{HoldsRest}
use Rattle.codec.proofs.examine.Padding.{PassedFrom}
use Rattle.codec.proofs.examine.padded_with.Given as goal

abbrev pub invariant-loop-unseen : goal.invariant-loop-unseen
invariant-loop-unseen l =
    HoldsRest (layout_of l.shape) l.behind l.i
    × PassedFrom (layout_of l.shape) (padding_of l.padding) (corrected_field l.shape (field_of l.field)) l.unseen l.i

abbrev pub decreases-loop-unseen : goal.decreases-loop-unseen
decreases-loop-unseen l = l.i
