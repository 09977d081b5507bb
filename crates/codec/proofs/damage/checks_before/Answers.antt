-- `checks_before` meets its contract: a turn of the loop adds the next bit or leaves it.
use Prim.Native.Nat.{◌-◌, zero-le}
use mathlib.Core.Path.{refl}
use native.Mathlib.Omega.{arith}
use Rattle.codec.proofs.damage.BitByBit.{most_of, none_found, turn, beyond}
use Rattle.codec.proofs.damage.checks_before.Goals as goal

pub loop-k-init : goal.loop-k-init
loop-k-init c = (zero-le, λ L lists inside. none_found L _ _ c.args.cell lists inside (omega arith))

pub loop-k-preserved-then-more-amount : goal.loop-k-preserved-then-more-amount
loop-k-preserved-then-more-amount c =
    let k = c.loop-k.k in (
      most_of _ c.loop-k.before c.from.result (k - 1) c.args.amount c.from.ensures c.if-more-amount.true,
      λ L lists inside.
          turn L c.args.checks.now _ c.args.cell lists inside k c.loop-k.before _ (omega arith) (omega arith)
          (c.loop-k.invariant.1 L lists inside) refl c.if-more-amount.true c.from.result c.from.ensures,
    )

pub loop-k-preserved : goal.loop-k-preserved
loop-k-preserved c = (
  omega arith,
  λ L lists inside.
      beyond L c.args.checks.now _ c.args.cell lists inside c.loop-k.k c.loop-k.before _ (omega arith) (omega arith)
      (c.loop-k.invariant.1 L lists inside) refl (omega arith),
)
