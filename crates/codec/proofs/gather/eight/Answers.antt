-- `eight` meets its contract.
use Prim.Native.Nat.{ℕ, ◌+◌, ◌≤◌}
use native.Mathlib.Nat.{le_refl}
use native.Mathlib.Omega.{arith}
use Rattle.codec.specs.Field.{Field, field_of, having}
use Rattle.codec.specs.Packing.{four_at}
use Rattle.codec.proofs.theory.CellValues.{having_cells}
use Rattle.codec.proofs.theory.Gathered.{fours_most}
use Rattle.codec.proofs.gather.eight.Goals as goal

-- each half of the byte is below 16
few : (f : Field) (i : ℕ) → (four_at (having 1 f) i ≤ 15) × (four_at (having 1 f) (i + 4) ≤ 15)
few f i = fours_most (having 1 f) (i + 8) i (having_cells 1 f (i + 8)) (le_refl _)

pub overflow_mul-result : goal.overflow_mul-result
overflow_mul-result c =
    omega (arith, c.four.ensures, (few (field_of c.args.field.now) c.args.i).0)

pub overflow_add-result : goal.overflow_add-result
overflow_add-result c =
    let most = few (field_of c.args.field.now) c.args.i in
    omega (arith, c.four.ensures, c.four-2.ensures, most.0, most.1)

pub overflow_cast-result : goal.overflow_cast-result
overflow_cast-result c =
    let most = few (field_of c.args.field.now) c.args.i in
    omega (arith, c.four.ensures, c.four-2.ensures, most.0, most.1)
