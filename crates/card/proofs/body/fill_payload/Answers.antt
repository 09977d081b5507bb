-- `fill_payload` meets its contract. The loop's invariant: the first j bytes of the payload are those of the line, and the others
-- are as they were.
use Prim.Native.Nat.{◌+◌, ◌*◌}
use mathlib.Core.Bool.{true}
use mathlib.Core.Path.{◌≡◌}
use native.Mathlib.Nat.{le_refl}
use native.Mathlib.Omega.{arith}
use Rattle.card.specs.Parse.{is_hex}
use Rattle.card.proofs.theory.PayloadStored.{payload_room, payload_digit, payload_byte_lem, payload_stored}
use Rattle.card.proofs.theory.PayloadStored.{value_below}
use Rattle.card.proofs.theory.StoredFront.{stored_more}
use Rattle.card.proofs.body.fill_payload.Goals.{After-byte_at, After-byte_at-in-loop-j}
use Rattle.card.proofs.body.fill_payload.Goals as goal

high : (c : After-byte_at) → is_hex c.byte_at.result ≡ true
high c =
    let turn = c.loop-j in
    payload_digit c.args.text.now c.args.at c.requires.at_value _ turn.j (2 * turn.j) _
    c.requires.payload_len c.loop-j-test.true (omega arith) c.byte_at.ensures

low : (c : After-byte_at-in-loop-j) → is_hex c.byte_at-in-loop-j.result ≡ true
low c =
    let turn = c.loop-j in
    payload_digit c.args.text.now c.args.at c.requires.at_value _ turn.j (2 * turn.j + 1) _
    c.requires.payload_len c.loop-j-test.true (le_refl _) c.byte_at-in-loop-j.ensures

pub overflow_add-start : goal.overflow_add-start
overflow_add-start c = omega (arith, payload_room _ _ c.requires.at_value)

pub hex_value-high-requires : goal.hex_value-high-requires
hex_value-high-requires c = high c

pub hex_value-low-requires : goal.hex_value-low-requires
hex_value-low-requires c = low c

pub overflow_mul-byte : goal.overflow_mul-byte
overflow_mul-byte c = omega (
  arith,
  value_below _ (high (goal.at.overflow_mul-byte c).After-byte_at) _
      c.hex_value-high.ensures,
)

pub overflow_add-byte : goal.overflow_add-byte
overflow_add-byte c =
    omega (
      arith,
      value_below _ (high (goal.at.overflow_add-byte c).After-byte_at) _ c.hex_value-high.ensures,
      value_below _ (low (goal.at.overflow_add-byte c).After-byte_at-in-loop-j) _ c.hex_value-low.ensures,
    )

pub loop-j-preserved : goal.loop-j-preserved
loop-j-preserved c =
    let a = c.args in
    stored_more _ _ _ _ c.loop-j.invariant _ c.loop-j-test.true
    (payload_byte_lem a.text.now a.at _ _ _ _ _ c.byte_at.ensures c.byte_at-in-loop-j.ensures
    c.hex_value-high.ensures c.hex_value-low.ensures)

pub returns : goal.returns
returns c =
    payload_stored _ _ _ _ _ c.requires.payload_len c.loop-j.invariant (omega arith)
