-- Examples in a stack and in single classes that meet the hypotheses of the theorems on coding: the stack of our own worked
-- example, a hole across both of its planes, and fields that are refused with 6 and with 7.
use Prim.Native.Nat.{ℕ, zero, suc}
use mathlib.Core.Bool.{Bool, true, ◌||◌}
use mathlib.Core.List.{List, [], ◌∷◌}
use mathlib.Core.Logic.{inl, inr}
use mathlib.Core.Path.{◌≡◌, refl, sym}
use lib.Dec.{lit<}
use lib.ListN.{length}
use Rattle.lattice.specs.Range.{in_range}
use Rattle.lattice.specs.Shape.{is_none, max_strength, size_ok, strength_ok, window_ok, shape_number}
use Rattle.lattice.specs.Cell.{Cell, cell}
use Rattle.lattice.proofs.examples.Stack.{stack_accepted, OfHole, hole_cluster, hole_few}
use Rattle.codec.specs.Field.{Field, field_of, is_cell}
use Rattle.codec.specs.Payload.{Bytes}
use Rattle.codec.specs.Plan.{plan_bytes}
use Rattle.codec.specs.Encode.{encoded_field, earlier_field, WrittenFrom}
use Rattle.codec.specs.Code.{NearestTo}
use Rattle.codec.specs.Reach.{Readable, WrongInReach}
use Rattle.codec.specs.Damage.{damaged_field, Recovered}
use Rattle.codec.specs.theorems.Worked.{stack, bytes, strip}
use Rattle.codec.proofs.theory.AllBelow.{below_all}
use Rattle.codec.proofs.theory.ReadFields.{cells_readable}
use Rattle.codec.proofs.examples.Coding.{is_at, of_three}
use Rattle.codec.proofs.theorems.Reading.{decode_meaning}
use Rattle.codec.proofs.theorems.Recovery.{recovery}
use Rattle.codec.proofs.theorems.Worked.{coding_examples}

pub bytes_long : length bytes ≡ plan_bytes stack
bytes_long = sym coding_examples.plan.2

pub bytes_are : Bytes bytes
bytes_are zero = lit< tt
bytes_are (suc zero) = lit< tt
bytes_are (suc (suc zero)) = lit< tt
bytes_are (suc (suc (suc zero))) = lit< tt
bytes_are (suc (suc (suc (suc zero)))) = lit< tt
bytes_are (suc (suc (suc (suc (suc j))))) = lit< tt

-- the whole hole is selected
abbrev pub is_hole : Cell → Bool
is_hole x = is_at (cell 2 0 3) x || (is_at (cell 2 1 3) x || is_at (cell 2 1 4) x)

pub hole_selected : (x : Cell) → is_hole x ≡ true → OfHole x
hole_selected = of_three (cell 2 0 3) (cell 2 1 3) (cell 2 1 4)

-- demand 3, applied: with those three cells flipped the payload and the field come back, and so does the field from before
hole_back : (F : List ℕ) → WrittenFrom stack bytes F → Recovered stack bytes F (damaged_field stack F is_hole) bytes
hole_back F from =
    recovery stack stack_accepted bytes F bytes_long bytes_are from OfHole hole_cluster hole_few is_hole hole_selected bytes
    bytes_long

pub hole_recovered :
    Recovered stack bytes (encoded_field stack bytes) (damaged_field stack (encoded_field stack bytes) is_hole) bytes
hole_recovered = hole_back (encoded_field stack bytes) (inl refl)

pub earlier_recovered :
    Recovered stack bytes (earlier_field stack bytes) (damaged_field stack (earlier_field stack bytes) is_hole) bytes
earlier_recovered = hole_back (earlier_field stack bytes) (inr refl)

-- a class of five cells with no codeword in reach: reading gives 6
pub none_readable : Readable (strip 5) (0 ∷ 0 ∷ 1 ∷ 0 ∷ 1 ∷ [])
unfolding shape_number size_ok strength_ok window_ok is_none max_strength in_range is_cell
none_readable =
    cells_readable (strip 5) (0 ∷ 0 ∷ 1 ∷ 0 ∷ 1 ∷ []) refl refl
    (below_all (λ i. is_cell (field_of (0 ∷ 0 ∷ 1 ∷ 0 ∷ 1 ∷ []) i)) 5 refl)

pub none_in_reach : (g : Field) → ¬ NearestTo (strip 5) (field_of (0 ∷ 0 ∷ 1 ∷ 0 ∷ 1 ∷ [])) g
none_in_reach =
    (decode_meaning (strip 5) [] (0 ∷ 0 ∷ 1 ∷ 0 ∷ 1 ∷ []) none_readable (sym coding_examples.empty)).none.0
    coding_examples.six

-- a class of five cells in which a check is lost, with the padding 1 1: reading gives 7
pub wrong_readable : Readable (strip 5) (0 ∷ 1 ∷ 1 ∷ 0 ∷ 1 ∷ [])
unfolding shape_number size_ok strength_ok window_ok is_none max_strength in_range is_cell
wrong_readable =
    cells_readable (strip 5) (0 ∷ 1 ∷ 1 ∷ 0 ∷ 1 ∷ []) refl refl
    (below_all (λ i. is_cell (field_of (0 ∷ 1 ∷ 1 ∷ 0 ∷ 1 ∷ []) i)) 5 refl)

pub wrong_in_reach : WrongInReach (strip 5) (field_of (0 ∷ 1 ∷ 1 ∷ 0 ∷ 1 ∷ []))
wrong_in_reach =
    (decode_meaning (strip 5) [] (0 ∷ 1 ∷ 1 ∷ 0 ∷ 1 ∷ []) wrong_readable (sym coding_examples.empty)).wrong.0
    coding_examples.seven
