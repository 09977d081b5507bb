-- What the loop of `set_checks` keeps: the field has the data and the first k checks.
use Prim.Native.Nat.{ℕ}
use mathlib.Core.List.{List}
use Rattle.lattice.specs.Position.{Layout}
use Rattle.codec.specs.Field.{field_of, Same}
use Rattle.codec.specs.Filling.{checked_to, ToCheck}
use Rattle.codec.specs.Payload.{padding, data_field}
use Rattle.codec.proofs.encode.set_checks.Given as goal

abbrev pub invariant-loop-k : goal.invariant-loop-k
invariant-loop-k l =
    (L : Layout) → (p : List ℕ) → ToCheck L p l.checks l.places l.syndromes l.amount
    → Same (field_of l.initial.field) (data_field L padding p) L.cells → Same (field_of l.field) (checked_to L p l.k) L.cells
