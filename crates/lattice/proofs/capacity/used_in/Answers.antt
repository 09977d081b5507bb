-- `used_in` meets its contract.
use Prim.Native.Nat.{ℕ, zero-le}
use mathlib.Core.Bool.{Bool}
use mathlib.Core.Path.{◌≡◌, refl}
use native.Mathlib.Omega.{arith}
use borrow.Author.Tests.{lt-ltb, le-ltb}
use lib.ListN.{get_or, take, length-take}
use Rattle.std.proofs.Common.{get_or-take}
use Rattle.lattice.specs.Used.{is_used, used_in}
use Rattle.lattice.proofs.theory.Counting.{count_yes, count_no}
use Rattle.lattice.proofs.capacity.used_in.Goals.{then-size-gt0, else-size-gt0}
use Rattle.lattice.proofs.capacity.used_in.Goals as goal

pub loop-size-init : goal.loop-size-init
unfolding used_in
loop-size-init c = (zero-le, refl)

pub loop-size-preserved : goal.loop-size-preserved
unfolding used_in is_used
loop-size-preserved c =
    let turn = c.loop-size in
    let test : ℕ → Bool = λ a. is_used (get_or c.args.sizes.now a 0) in
    let size : get_or (take c.args.classes c.args.sizes.now) turn.size-index 0 ≡ get_or c.args.sizes.now turn.size-index 0 =
    get_or-take c.args.classes c.args.sizes.now turn.size-index 0 (omega (arith, length-take {A = ℕ})) in
    elim c.if-size-gt0.branch [
      | then-size-gt0 w ↦
          rw w.used-is (omega arith, omega (arith, count_yes test turn.size-index (lt-ltb _ _ (rw size at w.if-size-gt0.true))))
      | else-size-gt0 w ↦
          rw w.used-is (omega arith, omega (arith, count_no test turn.size-index (le-ltb _ _ (rw size at w.if-size-gt0.false))))
    ]
