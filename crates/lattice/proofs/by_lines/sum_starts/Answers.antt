-- `sum_starts` meets its contract. The loop's invariant: a is y mod m, and the entries up to y are the sums.
use Prim.Native.Nat.{ℕ, ◌+◌, ◌%◌, ◌<◌, ◌≤◌}
use mathlib.Core.Path.{ap}
use native.Mathlib.Nat.{mod-lt}
use native.Mathlib.Omega.{arith}
use lib.ListN.{get_or, length-set}
use Rattle.lattice.specs.Shape.{max_cells}
use Rattle.lattice.proofs.theory.LineCounts.{place_next, sums_more}
use Rattle.lattice.proofs.by_lines.sum_starts.Goals.{In-loop-y}
use Rattle.lattice.proofs.by_lines.sum_starts.Goals as goal

-- the place of a turn
module _ (c : In-loop-y) where
  place : c.loop-y.a < c.args.m
  place =
      omega (
        arith,
        c.loop-y.invariant.2,
        mod-lt c.loop-y.y {m = c.args.m}
            (omega arith),
      )

  entry : get_or c.args.starts.now c.loop-y.a 0 ≤ max_cells
  entry = c.requires.by_index c.loop-y.a place

pub loop-y-preserved : goal.loop-y-preserved
loop-y-preserved c =
    let a = c.args in
    let turn = c.loop-y in (
      omega arith,
      simp length-set turn.invariant.1,
      place_next _ turn.y _ _ turn.invariant.2 (c.next_place-a.ensures (place (goal.at.loop-y-preserved c).In-loop-y)),
      sums_more (λ k. get_or a.starts.now (k % a.m) 0) turn.y turn.heads _ turn.invariant.3 (omega arith)
          (ap (λ (k : ℕ). get_or turn.heads turn.y 0 + get_or a.starts.now k 0) turn.invariant.2)
          (omega (arith, entry (goal.at.loop-y-preserved c).In-loop-y, ap (λ (k : ℕ). get_or a.starts.now k 0) turn.invariant.2)),
    )
