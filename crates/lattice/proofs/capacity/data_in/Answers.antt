-- `data_in` meets its contract.
use Prim.Native.Nat.{ℕ}
use mathlib.Core.Path.{◌≡◌, ap, ◌∙◌}
use native.Mathlib.Omega.{arith}
use lib.ListN.{get_or, length-take}
use Rattle.lattice.specs.Check.{data_cells, data_in}
use Rattle.lattice.specs.Counting.{sum_below}
use Rattle.lattice.proofs.capacity.data_in.Goals as goal

pub returns : goal.returns
unfolding data_in
returns c =
    let all : c.loop-size.size-index ≡ c.args.classes = omega (arith, length-take {A = ℕ}) in
    λ few. c.loop-size.invariant.1 ∙ ap (sum_below (λ a. data_cells (get_or c.args.sizes.now a 0))) all
