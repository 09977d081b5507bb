-- `gather_run` meets its contract. The loop's invariant: the cells before i are gathered.
use mathlib.Core.Path.{◌∙◌}
use native.Mathlib.Nat.{le_refl}
use native.Mathlib.Omega.{arith}
use Rattle.lattice.proofs.theory.Runs.{run_part}
use Rattle.codec.proofs.gather.gather_run.Goals as goal

pub loop-i-preserved : goal.loop-i-preserved
loop-i-preserved c =
    let turn = c.loop-i in
    let some = c.gather_some-i in (
      omega arith,
      omega arith,
      some.auto.payload ∙ turn.invariant.2,
      λ L run holds.
          some.ensures.holds_bytes L (run_part L _ _ _ _ _ run turn.invariant.0 turn.invariant.1 (le_refl _))
          (turn.invariant.3 L run holds),
    )
