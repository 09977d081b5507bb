-- `set_checks` meets its contract.
use Prim.Native.Nat.{ℕ}
use mathlib.Core.Path.{◌≡◌, refl, subst}
use native.Mathlib.Nat.{le_antisymm}
use native.Mathlib.Omega.{arith}
use Rattle.codec.specs.Field.{field_of, Same}
use Rattle.codec.specs.Filling.{checked_to}
use Rattle.codec.proofs.encode.ChecksSet.{checked_none, checked_more, checked_all}
use Rattle.codec.proofs.encode.set_checks.Goals as goal

pub loop-k-init : goal.loop-k-init
loop-k-init c = λ L p to same. checked_none L p _ same

pub loop-k-preserved : goal.loop-k-preserved
loop-k-preserved c =
    let turn = c.loop-k in
    let inside = c.loop-k-test.true in
    let room = c.requires.by_index _ inside in
    λ L p to same.
    checked_more L p _ _ _ _ to turn.field _ _ _ _ inside refl refl (omega (arith, room))
    (c.requires.by_index_2 _ inside) c.check_bit.ensures (turn.invariant L p to same)

pub returns : goal.returns
returns c =
    let turn = c.loop-k in
    let all : turn.k ≡ c.args.amount = le_antisymm c.loop-k.auto.k-end c.loop-k-test.false in
    record {
      written =
          λ L p to same.
          checked_all L p _ _ _ _ to _
          (subst (λ (n : ℕ). Same (field_of turn.field) (checked_to L p n) L.cells) all (turn.invariant L p to same));
    }
