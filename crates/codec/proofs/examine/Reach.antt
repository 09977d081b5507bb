-- The test of the classes: whether a codeword is in reach of each.
use Prim.Native.Nat.{ℕ}
use mathlib.Core.Bool.{Bool}
use mathlib.Core.List.{List}
use mathlib.Core.Path.{◌≡◌, ap, ◌∙◌}
use native.Mathlib.Nat.{lt_of_lt_of_le}
use lib.ListN.{get_or}
use Rattle.lattice.specs.declared.shape.Shape.{Shape}
use Rattle.lattice.specs.Shape.{Accepted, cells_of}
use Rattle.lattice.specs.Class.{classes_of, layout_of}
use Rattle.lattice.specs.Counting.{all_below}
use Rattle.lattice.proofs.theory.Placements.{classes_limit}
use Rattle.codec.specs.Field.{field_of, having}
use Rattle.codec.specs.Erasure.{in_reach, all_in_reach}
use Rattle.codec.specs.Working.{HoldsSyndromes, reached_by, Located}
use Rattle.codec.specs.Code.{tags_at, field_in_reach}
use Rattle.codec.proofs.theory.AllBelow.{all_same}
use Rattle.codec.proofs.theory.Syndrome.{having_syndrome}

-- the test of class a, from the arrays
abbrev pub reaches : List ℕ → List ℕ → List ℕ → List ℕ → ℕ → Bool
reaches syndromes damaged first second a =
    reached_by (get_or syndromes a 0) (get_or damaged a 0) (get_or first a 0) (get_or second a 0)

pub all_reach : (s : Shape) (field syndromes damaged first second : List ℕ) (m : ℕ) (b : Bool) → Accepted s
    → HoldsSyndromes (layout_of s) (having 1 (field_of field)) syndromes (cells_of s) → Located s field damaged first second
    → m ≡ classes_of s → b ≡ all_below (reaches syndromes damaged first second) m
    → b ≡ field_in_reach s (field_of field)
unfolding all_in_reach
all_reach s field syndromes damaged first second m b a held located e p =
    p
    ∙ ap (all_below (reaches syndromes damaged first second)) e
    ∙ all_same
    (reaches syndromes damaged first second)
    (in_reach (layout_of s) (tags_at s) (field_of field))
    (classes_of s)
    (λ c l.
    ap
    (λ (x : ℕ). reached_by x (get_or damaged c 0) (get_or first c 0) (get_or second c 0))
    (held.at c (lt_of_lt_of_le l (classes_limit s a)) ∙ having_syndrome (layout_of s) (tags_at s) (field_of field) c (cells_of s))
    ∙ located.reaches c l)
