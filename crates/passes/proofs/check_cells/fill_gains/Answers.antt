-- `fill_gains` meets its contract.
use Prim.Native.Nat.{◌*◌}
use mathlib.Core.Path.{◌≡◌}
use native.Mathlib.Omega.{arith}
use lib.ListN.{length, take}
use lib.Seq.{length-take-le}
use Rattle.lattice.proofs.theory.PositionParts.{gains_front}
use Rattle.passes.proofs.check_cells.fill_gains.Goals.{Start}
use Rattle.passes.proofs.check_cells.fill_gains.Goals as goal

-- the part that is lent has its length
part : (e : Start) → length (take (2 * e.args.m) e.args.gained.now) ≡ 2 * e.args.m
part e = length-take-le (2 * e.args.m) e.args.gained.now (omega arith)

pub returns : goal.returns
returns c =
    let long = part (goal.at.returns c).Start in
    let filled = c.gains in
    gains_front _ _ _ _ filled.new.p _ (omega (arith, long, filled.auto.p)) (omega (arith, long)) filled.ensures
