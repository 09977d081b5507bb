-- The code of a field of a shape: its classes are the shape's, and the tags of its cells are their positions.
use Rattle.std.specs.Prelude.{Bool}
use Rattle.lattice.specs.declared.shape.Shape.{Shape}
use Rattle.lattice.specs.Class.{classes_of, layout_of}
use Rattle.codec.specs.Field.{Field}
use Rattle.codec.specs.Hamming.{Tags, tags_of, Lawful}
use Rattle.codec.specs.Erasure.{Nearest, few_erasures, all_in_reach}

-- the tags of the cells of a field: the position of each in its class
abbrev pub tags_at : Shape → Tags
tags_at s = tags_of (layout_of s)

-- a lawful field: every cell is 0 or 1, and in every class the exclusive or of the positions of the 1 cells is 0
abbrev pub LawfulField : Shape → Field → Type 0
LawfulField s f = Lawful (layout_of s) (tags_at s) f

-- g is a lawful field for which each class of f may stand: with no erasure in the class it differs in at most one cell, else it
-- agrees with every cell that was read
abbrev pub NearestTo : Shape → Field → Field → Type 0
NearestTo s f g = Nearest (layout_of s) (tags_at s) f g

-- no class has three erasures or more
abbrev pub field_few_erasures : Shape → Field → Bool
field_few_erasures s f = few_erasures (layout_of s) (classes_of s) f

-- a codeword is in reach of each class
abbrev pub field_in_reach : Shape → Field → Bool
field_in_reach s f = all_in_reach (layout_of s) (tags_at s) (classes_of s) f
