-- `digits_value` meets its contract. The loop's invariant: the value is that of the first i digits.
use Prim.Native.Nat.{◌<◌}
use native.Mathlib.Omega.{arith}
use Rattle.card.proofs.line.Digits.{digit_low, value_room}
use Rattle.card.proofs.line.digits_value.Goals.{After-byte_at, In-loop-i}
use Rattle.card.proofs.line.digits_value.Goals as goal

room : (c : In-loop-i) → c.loop-i.value < 10000
room c =
    let a = c.args in
    value_room a.text.now a.at _ c.requires.0 c.requires.1 _ c.loop-i-test.true _ c.loop-i.invariant

pub overflow_mul-value : goal.overflow_mul-value
overflow_mul-value c = omega (arith, room c)

pub overflow_sub-value : goal.overflow_sub-value
overflow_sub-value c =
    let a = c.args in
    digit_low a.text.now a.at _ c.requires.0 c.requires.1 _ c.loop-i-test.true _ c.byte_at.ensures
