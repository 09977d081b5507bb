-- `share` meets its contract.
use Prim.Native.Nat.{◌/◌, ◌%◌}
use mathlib.Core.Path.{ap}
use native.Mathlib.Nat.{mod-lt, div-add-mod'}
use native.Mathlib.Omega.{arith}
use Rattle.lattice.specs.Lines.{among}
use Rattle.lattice.proofs.theory.Among.{among_before, among_after, among_many}
use Rattle.lattice.proofs.by_lines.share.Goals as goal

pub returns-then-y-n : goal.returns-then-y-n
returns-then-y-n c =
    let a = c.args in
    omega (
      arith,
      ap (among a.m a.y) (div-add-mod' a.n a.m),
      among_many a.m (omega arith) a.y (a.n / a.m) (a.n % a.m),
      among_after a.m a.y (a.n % a.m) (omega (arith, mod-lt a.n {m = a.m} (omega arith))) c.if-y-n.true,
    )

pub returns-else-y-n : goal.returns-else-y-n
returns-else-y-n c =
    let a = c.args in
    omega (
      arith,
      ap (among a.m a.y) (div-add-mod' a.n a.m),
      among_many a.m (omega arith) a.y (a.n / a.m) (a.n % a.m),
      among_before a.m a.y (a.n % a.m) (omega (arith, mod-lt a.n {m = a.m} (omega arith))) (omega arith)
          c.if-y-n.false,
    )
