-- Examples that meet the hypotheses of the theorems on windows and patches: a field with a window of 2 rows and 3 columns and one
-- with a window of 3 by 3, their payloads, and damage over the edges and along a diagonal.
use Prim.Native.Nat.{ℕ, zero, suc}
use mathlib.Core.Bool.{Bool, true, ◌||◌}
use mathlib.Core.List.{List, [], ◌∷◌}
use mathlib.Core.Logic.{◌⊎◌, inl, inr, ⊎_elim}
use mathlib.Core.Path.{◌≡◌, refl, subst⁻¹}
use lib.Dec.{lit<}
use lib.IntN.{pos, negsuc}
use lib.ListN.{length}
use Rattle.lattice.specs.Range.{in_range}
use Rattle.lattice.specs.Shape.{is_none, size_ok, strength_ok, window_ok, shape_number, cells_of}
use Rattle.lattice.specs.Cell.{Cell, cell, cell_at}
use Rattle.lattice.specs.Class.{window_class, class_of}
use Rattle.lattice.specs.Position.{size_to, position}
use Rattle.lattice.specs.Check.{is_power, is_check, holds_data, capacity}
use Rattle.lattice.specs.Window.{InWindow}
use Rattle.lattice.proofs.theory.Bools.{or_cases}
use Rattle.lattice.proofs.examples.Windows.{window_field, window_accepted, window_rules, edge, beside_edge, edge_hangs}
use Rattle.lattice.proofs.examples.Windows.{beside_hangs, patch_field, patch_accepted, patch_rules, patch_square, OfDiagonal}
use Rattle.lattice.proofs.examples.Windows.{diagonal_patch, diagonal_few}
use Rattle.codec.specs.Field.{field_of, differences}
use Rattle.codec.specs.Payload.{Bytes}
use Rattle.codec.specs.Plan.{plan_capacity, plan_bytes}
use Rattle.codec.specs.Encode.{encoded_field, earlier_field, WrittenFrom}
use Rattle.codec.specs.Damage.{damaged_field, erased_field, selected_cells, Recovered}
use Rattle.codec.proofs.theorems.Windows.{window_recovery, patch_recovery, window_refill}
use Rattle.codec.proofs.examples.Coding.{payload, payload_bytes_lem, is_at, at_is, of_three}

-- payloads of the plan's lengths
abbrev pub window_payload : List ℕ
window_payload = 165 ∷ 90 ∷ []

pub window_payload_long : length window_payload ≡ plan_bytes window_field
unfolding
    plan_bytes plan_capacity shape_number size_ok strength_ok window_ok is_none in_range
    capacity holds_data size_to position is_power is_check cell_at class_of window_class
window_payload_long = refl

pub window_payload_bytes : Bytes window_payload
window_payload_bytes zero = lit< tt
window_payload_bytes (suc zero) = lit< tt
window_payload_bytes (suc (suc j)) = lit< tt

pub patch_payload_long : length payload ≡ plan_bytes patch_field
unfolding
    plan_bytes plan_capacity shape_number size_ok strength_ok window_ok is_none in_range
    capacity holds_data size_to position is_power is_check cell_at class_of window_class
patch_payload_long = refl

abbrev pub window_written : List ℕ
window_written = encoded_field window_field window_payload

pub window_from_lem : WrittenFrom window_field window_payload window_written
window_from_lem = inl refl

-- the two cells of the window that hangs over two edges are selected
abbrev pub is_edge : Cell → Bool
is_edge x = is_at edge x || is_at beside_edge x

pub window_selected : (x : Cell) → is_edge x ≡ true → InWindow window_field.window (negsuc 0) (negsuc 0) x
window_selected x e =
    ⊎_elim
    (λ p. subst⁻¹ (InWindow window_field.window (negsuc 0) (negsuc 0)) (at_is edge x p) edge_hangs)
    (λ p. subst⁻¹ (InWindow window_field.window (negsuc 0) (negsuc 0)) (at_is beside_edge x p) beside_hangs)
    (or_cases (is_at edge x) (is_at beside_edge x) e)

-- with both flipped the payload and the field come back
abbrev pub window_damaged : List ℕ
window_damaged = damaged_field window_field window_written is_edge

pub window_recovered : Recovered window_field window_payload window_written window_damaged window_payload
window_recovered =
    window_recovery window_field window_accepted window_rules window_payload window_written window_payload_long
    window_payload_bytes
    window_from_lem (negsuc 0) (negsuc 0) is_edge window_selected window_payload window_payload_long

-- a cell of the class of the first, in the window at row 4 and column 5, which hangs over the other two edges
abbrev pub far : Cell
far = cell 4 0 6

pub far_class : class_of window_field edge ≡ class_of window_field far
unfolding class_of window_class
far_class = refl

pub far_hangs : InWindow window_field.window (pos 4) (pos 5) far
far_hangs = record { down = 0; across = 1; rows = lit< tt; columns = lit< tt; row = refl; column = refl }

-- all three are selected
abbrev pub is_either : Cell → Bool
is_either x = is_edge x || is_at far x

pub windows_selected : (x : Cell) → is_either x ≡ true
    → InWindow window_field.window (negsuc 0) (negsuc 0) x ⊎ InWindow window_field.window (pos 4) (pos 5) x
windows_selected x e =
    ⊎_elim
    (λ p. inl (window_selected x p))
    (λ p. inr (subst⁻¹ (InWindow window_field.window (pos 4) (pos 5)) (at_is far x p) far_hangs))
    (or_cases (is_edge x) (is_at far x) e)

-- with them erased the payload and the field come back
abbrev pub windows_erased : List ℕ
windows_erased = erased_field window_field window_written is_either

pub windows_refilled : Recovered window_field window_payload window_written windows_erased window_payload
    × (differences (field_of window_written) (field_of windows_erased) (cells_of window_field)
    ≡ selected_cells window_field is_either)
windows_refilled =
    window_refill window_field window_accepted window_rules window_payload window_written window_payload_long window_payload_bytes
    window_from_lem (negsuc 0) (negsuc 0) (pos 4) (pos 5) is_either windows_selected window_payload window_payload_long

-- the whole diagonal is selected
abbrev pub is_diagonal : Cell → Bool
is_diagonal x = is_at (cell 1 0 1) x || (is_at (cell 2 0 2) x || is_at (cell 3 0 3) x)

pub diagonal_selected : (x : Cell) → is_diagonal x ≡ true → OfDiagonal x
diagonal_selected = of_three (cell 1 0 1) (cell 2 0 2) (cell 3 0 3)

-- with those three cells of the field that was written before flipped the payload and the field come back
abbrev pub patch_written : List ℕ
patch_written = earlier_field patch_field payload

pub patch_from : WrittenFrom patch_field payload patch_written
patch_from = inr refl

pub diagonal_recovered :
    Recovered patch_field payload patch_written (damaged_field patch_field patch_written is_diagonal) payload
diagonal_recovered =
    patch_recovery patch_field patch_accepted patch_rules 3 patch_square payload patch_written patch_payload_long
    payload_bytes_lem
    patch_from OfDiagonal diagonal_patch diagonal_few is_diagonal diagonal_selected payload patch_payload_long
