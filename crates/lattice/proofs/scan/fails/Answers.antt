-- `fails` meets its contract. The offset of the triple is small, so each step to its remainder fits.
use native.Mathlib.Omega.{arith}
use mathlib.Core.Path.{◌∙◌, ap, ap₂}
use Prim.Native.Nat.{◌%◌}
use lib.Dec.{eqb}
use lib.IntN.{ℤ, pos, nat_abs, ◌-ℤ◌, ◌*ℤ◌}
use Rattle.lattice.specs.DistanceTest.{fails_at}
use Rattle.lattice.proofs.theory.Words.{read_back, residue_fits, residue_quot_fits}
use Rattle.lattice.proofs.theory.Words.{residue_rem}
use Rattle.lattice.proofs.scan.fails.Goals as goal

pub overflow_sub-result-2 : goal.overflow_sub-result-2
overflow_sub-result-2 c =
    let a = c.args in
    residue_fits a.x.column c.scaled-by_row.result
    c.scaled-by_plane.result 0 (omega arith) (omega arith)

pub nonzero_rem-result : goal.nonzero_rem-result
nonzero_rem-result c =
    let a = c.args in (
      omega arith,
      residue_quot_fits a.x.column c.scaled-by_row.result
          c.scaled-by_plane.result a.k.m (omega arith) (omega arith),
    )

pub returns : goal.returns
unfolding fails_at
returns c =
    let a = c.args in
    let by_Row = c.scaled-by_row in
    let by_plane = c.scaled-by_plane in
    residue_rem a.x.column by_Row.result by_plane.result a.k.m (omega arith) (omega arith)
    ∙ ap₂
    (λ (y z : ℤ). eqb (nat_abs (a.x.column -ℤ y -ℤ z) % a.k.m) 0)
    (by_Row.ensures.value ∙ ap (λ z. pos a.k.b *ℤ z) (read_back a.x.row (omega arith)))
    (by_plane.ensures.value ∙ ap (λ z. pos a.k.c *ℤ z) (read_back a.x.plane (omega arith)))
