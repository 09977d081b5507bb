-- `reply_payload` meets its contract: an output that is too short is left as it was, and else the head and the payload are
-- written, one behind the other.
use Prim.Native.Nat.{◌+◌, ◌*◌}
use mathlib.Core.List.{◌++◌}
use mathlib.Core.Path.{◌≡◌, sym, ◌∙◌}
use native.Mathlib.Nat.{add_assoc}
use native.Mathlib.Omega.{arith}
use lib.ListN.{length}
use Rattle.card.specs.Text.{mended_key, payload_text}
use Rattle.card.specs.Working.{HasRoom, head_text}
use Rattle.card.proofs.theory.PayloadText.{length_payload}
use Rattle.card.proofs.theory.Replies.{answered_short, room_front, head_most, length_success, rest_room, success_answered}
use Rattle.card.proofs.reply.reply_payload.Goals.{After-head_length, Else-output-length}
use Rattle.card.proofs.reply.reply_payload.Goals as goal

total : (c : After-head_length)
    → let a = c.args in
    c.head_length.result + 9 + 2 * length a.payload.now
    ≡ length (head_text a.header mended_key a.mended ++ payload_text a.payload.now)
total c =
    add_assoc _ 9 _
    ∙ length_success _ _ _ _ _ _ c.head_length.ensures
    (sym (length_payload c.args.payload.now))

room : (c : Else-output-length)
    → let a = c.args in
    HasRoom a.output.now 0 (head_text a.header mended_key a.mended ++ payload_text a.payload.now)
room c = room_front _ _ _ (add_assoc _ 9 _ ∙ length_success _ _ _ _ _ _ c.head_length.ensures
    (sym (length_payload c.args.payload.now))) c.if-output-length.false

pub overflow_add-length : goal.overflow_add-length
overflow_add-length c =
    let a = c.args in
    omega (arith, c.head_length.ensures, head_most a.header mended_key a.mended)

pub overflow_add-length-2 : goal.overflow_add-length-2
overflow_add-length-2 c =
    let a = c.args in
    omega (arith, c.head_length.ensures, head_most a.header mended_key a.mended)

pub returns-then-output-length : goal.returns-then-output-length
returns-then-output-length c = answered_short _ _ _ (total (goal.at.returns-then-output-length c).After-head_length)
    c.if-output-length.true

pub put_payload-requires : goal.put_payload-requires
put_payload-requires c =
    rest_room _ _ _ _ (room (goal.at.put_payload-requires c).Else-output-length) c.put_head-next.ensures

pub returns : goal.returns
returns c =
    success_answered _ _ _ _ (room (goal.at.returns c).Else-output-length)
    c.put_head-next.ensures c.put_payload.ensures
