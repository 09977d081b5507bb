-- What the loop of `fill_low` keeps: the places before z are filled.
use Prim.Native.Nat.{ℕ, ◌+◌, ◌<◌}
use mathlib.Core.Bool.{cond}
use mathlib.Core.Path.{◌≡◌}
use lib.Dec.{ltb}
use lib.ListN.{get_or}
use Rattle.passes.proofs.line_positions.fill_low.Given as goal

abbrev pub invariant-loop-z : goal.invariant-loop-z
invariant-loop-z l = (k : ℕ) → k < l.z → get_or l.place-items k 0 ≡ l.up + cond (ltb k l.gap) 1 0
