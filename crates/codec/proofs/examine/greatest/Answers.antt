-- `greatest` meets its contract.
use Prim.Native.Nat.{◌<◌}
use native.Mathlib.Omega.{arith}
use lib.ListN.{get_or, take}
use Rattle.std.proofs.lemmas.List.{get_or-take, length-take-le}
use Rattle.codec.specs.Field.{field_of}
use Rattle.codec.proofs.examine.Cells.{tells_none, tells_more}
use Rattle.codec.proofs.theory.Counted.{greater}
use Rattle.codec.proofs.examine.greatest.Goals as goal

pub loop-cell-init : goal.loop-cell-init
loop-cell-init c = tells_none _

pub loop-cell-preserved : goal.loop-cell-preserved
loop-cell-preserved c =
    let turn = c.loop-cell in
    let field = c.args.field.now in
    let inside : turn.cell-index < c.args.n = omega (arith, length-take-le c.args.n field) in
    let more = greater turn.most (get_or (take c.args.n field) turn.cell-index 0) in
    tells_more (field_of field) _ _ _ _ turn.invariant (get_or-take _ field _ 0 inside) (cc)
