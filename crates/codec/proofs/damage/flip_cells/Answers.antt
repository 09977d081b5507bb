-- `flip_cells` meets its contract.
use Prim.Native.Nat.{ℕ, ◌<◌}
use mathlib.Core.Path.{ap, ◌∙◌}
use Rattle.std.proofs.lemmas.List.{get_or-take, length-take-le}
use native.Mathlib.Omega.{arith}
use Rattle.codec.specs.Field.{field_of}
use Rattle.codec.specs.Packing.{flipped_at}
use Rattle.codec.proofs.theory.NamedCells.{flipped_same, flipped_to_none, flipped_to_more}
use Rattle.codec.proofs.damage.flip_cells.Goals as goal

pub loop-cell-init : goal.loop-cell-init
loop-cell-init c = λ L same own. flipped_to_none L _ _ _

pub loop-cell-preserved : goal.loop-cell-preserved
loop-cell-preserved c =
    let turn = c.loop-cell in
    let one = c.flip_cell in
    let named = c.args.named.now in
    let inside : turn.cell-index < c.args.m = omega (arith, length-take-le c.args.m named) in
    λ L same own i l.
    one.ensures i (omega arith)
    ∙ ap (λ (x : ℕ). flipped_at (field_of turn.field) x i) (get_or-take _ named _ 0 inside)
    ∙ flipped_same _ _ _ _ (turn.invariant L same own) i l
    ∙ flipped_to_more L _ _ _ own turn.cell-index inside i (omega arith)
