-- What the loop of `used_in` keeps.
use Prim.Native.Nat.{◌≤◌}
use mathlib.Core.Path.{◌≡◌}
use Rattle.lattice.specs.Used.{used_in}
use Rattle.lattice.proofs.capacity.used_in.Given as goal

abbrev pub invariant-loop-size : goal.invariant-loop-size
invariant-loop-size l = (l.used ≤ l.size-index) × (l.used ≡ used_in l.sizes l.size-index)
