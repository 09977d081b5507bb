-- `flip_bits` meets its contract.
use Prim.Native.Nat.{ℕ, ◌<◌}
use mathlib.Core.Path.{subst}
use Rattle.std.proofs.lemmas.List.{get_or-take, length-take-le}
use native.Mathlib.Omega.{arith}
use Rattle.codec.specs.Packing.{HoldsBits, flipped_at, flipped_to}
use Rattle.codec.proofs.theory.NamedCells.{flipped_to_none, flipped_to_more}
use Rattle.codec.proofs.theory.FlippedBits.{bits_same}
use Rattle.codec.proofs.damage.flip_bits.Goals as goal

pub loop-cell-init : goal.loop-cell-init
loop-cell-init c = λ L same lists f own holds. bits_same L f _ _ (flipped_to_none L _ f _) holds

pub loop-cell-preserved : goal.loop-cell-preserved
loop-cell-preserved c =
    let turn = c.loop-cell in
    let named = c.args.named.now in
    let one = c.flip_at in
    let inside : turn.cell-index < c.args.m = omega (arith, length-take-le c.args.m named) in
    λ L same lists f own holds.
    bits_same L _ _ _
    (flipped_to_more L named f _ own turn.cell-index inside)
    (subst (λ (x : ℕ). HoldsBits L (flipped_at (flipped_to L named f turn.cell-index) x) one.new.payload)
    (get_or-take _ named _ 0 inside)
    (one.ensures L same lists _ (turn.invariant L same lists f own holds)))
